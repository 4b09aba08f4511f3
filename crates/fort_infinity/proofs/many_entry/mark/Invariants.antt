use Rattle.std.proofs.Common.{◌≡◌, ℕ, ◌<◌, ◌+◌, ◌*◌, ◌||◌, length, get_or}
use Rattle.fort_tables.specs.BitRows.{words_for}
use Rattle.fort_tables.specs.Projections.{has_state, some_below, gives_under}
use Rattle.fort_tables.specs.ManyLabels.{has_many, gives_many_under}
use Rattle.fort_tables.specs.ManyEntries.{kid_labels}
use Rattle.fort_infinity.specs.ManyCounts.{is_many}
use Rattle.fort_infinity.proofs.many_entry.mark.Given as goal

abbrev pub invariant-loop-g : goal.invariant-loop-g
invariant-loop-g g l =
    let body = g.T.Table.table l.body in
    let ws = kid_labels l.rows.labels l.row in
    record {
      size : length l.out ≡ words_for (2 * length body.presences) + 2;
      first : get_or l.out 0 0 ≡ get_or l.initial.out 0 0;
      second : get_or l.out 1 0 ≡ get_or l.initial.out 1 0;
      given : (q : ℕ) → q < length body.presences → has_state l.out q ≡ (some_below l.g (gives_under body l.column l.row.symbol ws q) || has_state l.initial.out q);
      endless : (q : ℕ) → has_many (length body.presences) l.out q ≡ (some_below l.g (gives_many_under body l.column (is_many l.alone l.counts) l.row.symbol ws q) || has_many (length body.presences) l.initial.out q);
    }
