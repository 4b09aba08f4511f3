use Rattle.std.proofs.Common.{None, map, length, ◌∙◌, arith}
use Rattle.std.specs.List.{insert}
use Rattle.fort_tables.specs.Tuples.{presence}
use Rattle.fort_tables.specs.Entries.{entry}
use Rattle.fort_tables.specs.Projections.{absent_state, has_state, gives}
use Rattle.fort_target_lists.specs.LabelLists.{labels_at}
use Rattle.fort_projections.proofs.LabelWritten.{label_written, or_nothing}
use Rattle.fort_projections.proofs.projection.write_label.Goals as goal

pub returns : goal.returns
returns g c =
    let body = g.T.Table.table c.args.body.now in
    let e = c.args.row.now in
    let ws = labels_at c.args.rows.now.labels e.kids in
    let n = length body.presences in
    let p = gives body c.args.column e.symbol ws in
    label_written c.mark.new.out n (presence e.symbol) (body.target (entry (insert e.symbol c.args.column None) (map absent_state ws))) p
    (omega (arith, c.mark.auto.out, c.write_front.auto.out, c.requires.room))
    (λ i l. omega (arith, c.type_inv.out i))
    (c.mark.ensures.first ∙ c.write_front.ensures.first)
    (c.mark.ensures.second ∙ c.write_front.ensures.second)
    (λ q l. c.mark.ensures.marked q ∙ or_nothing (p q) (has_state c.write_front.new.out q) (c.write_front.ensures.none q))
