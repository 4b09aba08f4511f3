use Rattle.std.proofs.Common.{◌≡◌, ℕ, ◌+◌, ◌||◌, length, get_or}
use Rattle.fort_tables.specs.BitRows.{words_for}
use Rattle.fort_tables.specs.Projections.{has_state, some_below}
use Rattle.fort_projections.specs.Scopes.{gives_in}
use Rattle.fort_target_lists.specs.LabelLists.{labels_at}
use Rattle.fort_projections.proofs.projection.mark.Given as goal

abbrev pub invariant-loop-g : goal.invariant-loop-g
invariant-loop-g g l =
    let body = g.T.Table.table l.body in
    record {
      size : length l.out ≡ words_for (length body.presences) + 2;
      first : get_or l.out 0 0 ≡ get_or l.initial.out 0 0;
      second : get_or l.out 1 0 ≡ get_or l.initial.out 1 0;
      marked : (q : ℕ) → has_state l.out q ≡ (some_below l.g (gives_in body l.column l.row.symbol (labels_at l.rows.labels l.row.kids) l.scope q) || has_state l.initial.out q);
    }
