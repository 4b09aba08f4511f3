use Rattle.std.proofs.Common.{◌≡◌, ◌<◌, ◌++◌, ℕ, Bool, false, length, take, map, get_or, arith, ap, ◌∙◌}
use Rattle.std.proofs.lemmas.List.{get_or_default, take_all}
use Rattle.fort_theory.specs.Cores as core
use Rattle.fort_parts.specs.PartColumns.{columns_of}
use Rattle.fort_certificate_theory.specs.Dues.{parts_due, counts_due, answer_due}
use Rattle.fort_outline.specs.Roots.{root_core}
use Rattle.fort_outline.specs.Outlines.{parts_in}
use Rattle.fort_dues.specs.DueView.{as_due}
use Rattle.fort_dues.proofs.DueLists.{parts_more}
use Rattle.fort_outline.proofs.RootLaws.{length-cores_of}
use Rattle.fort_outline.proofs.OutlineLaws.{part_root, columns_at}
use Rattle.fort_dues.proofs.dues.push_parts.Goals as goal

pub loop-k-preserved : goal.loop-k-preserved
loop-k-preserved c =
    let o = c.args.outline.now in
    let are = c.requires.outline in
    let k = c.loop-k.k in
    let low : k < length o.roots.items = omega (arith, c.loop-k-test.true, c.len-k-end.ensures, o.roots.ok.0) in
    let among : k < length (parts_in o) = omega (arith, low, length-cores_of o.roots.items) in
    let part = part_root o.roots.items are.1.in_order k c.index.result.now low c.index.ensures in
    let columns = c.deref.ensures.value ∙ (columns_at are.0 o are.1 k c.index-in-loop-k.result.now low c.index-in-loop-k.ensures ∙ ap columns_of part) in
    let f = root_core (parts_in o) c.index.result.now in
    let merges : ℕ → Bool = λ j. get_or c.args.merges.now j false in
    let added : map as_due c.push_part.new.dues.items ≡ map as_due c.loop-k.dues.items ++ (counts_due k f ++ answer_due merges k f) =
    c.in_ok-push_part.ensures (parts_in o) columns in
    parts_more merges (parts_in o) k f (map as_due c.args.dues.now.items) (map as_due c.loop-k.dues.items) (map as_due c.push_part.new.dues.items) among
    (get_or_default (parts_in o) k f core.True among ∙ part) c.loop-k.invariant added

pub returns : goal.returns
returns c =
    let o = c.args.outline.now in
    let all : take c.loop-k.k (parts_in o) ≡ parts_in o =
    take_all c.loop-k.k (parts_in o) (omega (arith, c.loop-k-test.false, c.len-k-end.ensures, o.roots.ok.0, length-cores_of o.roots.items)) in
    c.loop-k.invariant ∙ ap (λ ps. map as_due c.args.dues.now.items ++ parts_due (λ j. get_or c.args.merges.now j false) 0 ps) all

pub index-requires-in-loop-k : goal.index-requires-in-loop-k
index-requires-in-loop-k c =
    let o = c.args.outline.now in
    omega (arith, c.loop-k-test.true, c.len-k-end.ensures, o.roots.ok.0, o.columns.ok.0, c.requires.outline.1.count)
