use Rattle.std.proofs.Common.{ℕ, List, [], ◌<◌, ◌++◌, ◌==◌, length, get_or, if◌then◌else◌, ap, ◌∙◌, arith}
use Rattle.std.proofs.lemmas.List.{length-map}
use Rattle.std.specs.Prelude.{vec_items}
use Rattle.fort_infinity.proofs.ListLaws.{appended_at}
use Rattle.fort_infinity.proofs.lists.StateLists.append.Goals as goal

pub returns-clause-appended : goal.returns-clause-appended
returns-clause-appended c = λ k.
    let lists = c.self.inside.lists.items in
    let within : c.args.q < length lists = omega (arith, c.requires, ap length c.self.view_is, length-map lists (λ list. vec_items list)) in
    appended_at lists c.args.q k c.index_mut.result.now c.extend_from_slice.new.self c.args.states.now within c.index_mut.ensures.value c.in_ok-extend_from_slice.ensures.items
    ∙ ap (λ (xs : List (List ℕ)). if k == c.args.q then get_or xs k [] ++ c.args.states.now else get_or xs k []) c.self.view_is
