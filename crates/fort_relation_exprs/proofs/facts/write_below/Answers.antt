use Rattle.std.proofs.Common.{List, Bool, ◌+◌, ap, subst, sym, ◌∙◌}
use Rattle.fort_relations.specs.HolesView.{as_hole_number}
use Rattle.fort_label_bits.specs.RowBits.{HasBits, labels_at}
use Rattle.fort_relation_exprs.proofs.FactLaws.{facts-below, length-facts}
use Rattle.fort_relation_exprs.proofs.facts.write_below.Goals as goal

pub returns : goal.returns
returns c bits l h =
    let ws = labels_at c.args.rows.now.labels c.args.row.now.kids in
    let number = as_hole_number c.args.holes in
    let place = ap (λ n. c.args.base + n) c.place_below.ensures.place in
    subst (λ (bs : List Bool). HasBits bs c.put_mark.new.out) (facts-below number c.args.base c.args.equal c.args.root c.kids_under-below.result ws bits c.kids_under-below.ensures)
    (c.put_mark.ensures _ (length-facts number _ bits c.args.base l ∙ sym place) (c.write_anywhere.ensures bits l h))
