use Rattle.std.proofs.Common.{◌≡◌, ◌+◌, ◌*◌, None, map, set, length, ◌∙◌, arith}
use Rattle.std.proofs.lemmas.List.{length-set}
use Rattle.std.specs.List.{insert}
use Rattle.fort_tables.specs.Tuples.{presence}
use Rattle.fort_tables.specs.Entries.{entry}
use Rattle.fort_tables.specs.BitRows.{words_for}
use Rattle.fort_tables.specs.Projections.{absent_state}
use Rattle.fort_tables.specs.ManyLabels.{many_bit}
use Rattle.fort_tables.specs.ManyEntries.{kid_labels}
use Rattle.fort_infinity.specs.ManyCounts.{is_many}
use Rattle.fort_infinity.proofs.ManyMarks.{label_written, first_set, second_set, none_marked, bits_written}
use Rattle.fort_infinity.proofs.local.many_label.Goals as goal

pub absent_target-requires : goal.absent_target-requires
absent_target-requires g c = record { column = c.requires.column; over = c.requires.over }

pub mark-requires-clause-entry : goal.mark-requires-clause-entry
mark-requires-clause-entry g c = record { column = c.requires.column; over = c.requires.over }

pub returns : goal.returns
returns g c =
    let body = g.T.Table.table c.args.body.now in
    let e = c.args.row.now in
    let many = is_many c.args.alone.now c.args.counts.now in
    let ws = kid_labels c.args.rows.now.labels e in
    let n = 2 * length body.presences in
    let p = many_bit body c.args.column many e.symbol ws in
    let clear = c.loop-word.out in
    let a = c.presence.result in
    let b = c.absent_target.result in
    let old = set (set clear 0 a) 1 b in
    let room : length clear ≡ words_for n + 2 = omega (arith, c.loop-word.auto.out, c.requires.room) in
    let size : length c.mark.new.out ≡ words_for n + 2 = omega (arith, c.mark.auto.out, length-set (set clear 0 a) 1 b, length-set clear 0 a, room) in
    label_written c.mark.new.out n (presence e.symbol) (body.target (entry (insert e.symbol c.args.column None) (map absent_state ws))) p size
    (λ i l. omega (arith, c.type_inv.out i))
    (c.mark.ensures.first ∙ (first_set clear a b (omega (arith, room)) ∙ c.presence.ensures))
    (c.mark.ensures.second ∙ (second_set clear a b (omega (arith, room)) ∙ c.absent_target.ensures))
    (λ q l. bits_written body c.args.column many e.symbol ws c.mark.new.out old (λ i. none_marked clear a b i (λ k m. c.loop-word.invariant k (omega (arith, m, c.loop-word.auto.out, c.loop-word-test.false)))) c.mark.ensures.given c.mark.ensures.many q)
