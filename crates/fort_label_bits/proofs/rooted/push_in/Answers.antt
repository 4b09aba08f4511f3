use Rattle.std.proofs.Common.{◌≡◌, ℕ, List, [], ◌∷◌, ◌++◌, map, set, ap, ◌∙◌, sym}
use Rattle.std.specs.Prelude.{vec_items}
use Rattle.std.proofs.lemmas.Result.{on_ok_weaker}
use Rattle.std.proofs.lemmas.List.{get_or-map, map-set}
use Rattle.fort_label_bits.specs.RootPlaces.{list_at}
use Rattle.fort_label_bits.proofs.rooted.push_in.Goals as goal

pub returns : goal.returns
returns c =
    let old : List (List ℕ) = map vec_items c.args.lists.now.items in
    let here : c.index_mut.result.now.items ≡ list_at old c.args.at =
    ap vec_items c.index_mut.ensures.value ∙ sym (get_or-map vec_items c.args.lists.now.items c.args.at c.index_mut.result.now [] c.requires) in
    on_ok_weaker c.push_one.result (λ pushed. rw map-set (ap (set old c.args.at) (pushed ∙ ap (λ (w : List ℕ). w ++ c.args.place ∷ []) here))) c.push_one.ensures
