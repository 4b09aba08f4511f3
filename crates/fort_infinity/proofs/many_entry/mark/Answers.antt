use Rattle.std.proofs.Common.{length, refl, ◌∙◌}
use Rattle.fort_tables.specs.Projections.{has_state, gives_under}
use Rattle.fort_tables.specs.ManyLabels.{has_many, gives_many_under}
use Rattle.fort_tables.specs.ManyEntries.{kid_labels}
use Rattle.fort_tables.proofs.ManySearchLaws.{below_turn}
use Rattle.fort_infinity.specs.ManyCounts.{is_many}
use Rattle.fort_infinity.proofs.many_entry.mark.Goals as goal

pub loop-g-preserved : goal.loop-g-preserved
loop-g-preserved g c =
    let body = g.T.Table.table c.args.body.now in
    let m = length body.presences in
    let ws = kid_labels c.args.rows.now.labels c.args.row.now in
    let i = c.loop-g.invariant in
    record {
      size = c.mark_under.auto.out ∙ i.size;
      first = c.mark_under.ensures.first ∙ i.first;
      second = c.mark_under.ensures.second ∙ i.second;
      given = λ q l. below_turn c.loop-g.g (gives_under body c.args.column c.args.row.now.symbol ws q) (gives_under body c.args.column c.args.row.now.symbol ws q c.loop-g.g) (has_state c.mark_under.new.out q) (has_state c.loop-g.out q) (has_state c.args.out.now q) refl (c.mark_under.ensures.given q l) (i.given q l);
      endless = λ q. below_turn c.loop-g.g (gives_many_under body c.args.column (is_many c.args.alone.now c.args.counts.now) c.args.row.now.symbol ws q) (gives_many_under body c.args.column (is_many c.args.alone.now c.args.counts.now) c.args.row.now.symbol ws q c.loop-g.g) (has_many m c.mark_under.new.out q) (has_many m c.loop-g.out q) (has_many m c.args.out.now q) refl (c.mark_under.ensures.many q) (i.endless q);
    }
