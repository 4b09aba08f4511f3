use Rattle.std.proofs.Common.{◌≡◌, ℕ, ◌+◌, ◌-◌, ◌≤◌, ◌&&◌, ◌||◌, [], length, get_or}
use Rattle.fort_tables.specs.BitRows.{words_for}
use Rattle.fort_tables.specs.Projections.{has_state, some_below}
use Rattle.fort_target_lists.specs.LabelLists.{labels_at}
use Rattle.fort_projections.specs.Scopes.{some_gives}
use Rattle.fort_projections.specs.ImageFacts.{AreImages, with_state}
use Rattle.fort_projections.proofs.imaged.mark_set.Given as goal

abbrev pub decreases-states : goal.decreases-states
decreases-states g l = length (g.T.Table.table l.body).presences - l.from

abbrev pub invariant-states : goal.invariant-states
invariant-states g l =
    let body = g.T.Table.table l.body in
    let ws = labels_at l.rows.labels l.row.kids in
    let v = l.initial.images.place in
    record {
      within : l.from ≤ length body.presences;
      images : AreImages body l.column l.images;
      key : l.images.key ≡ l.initial.images.key;
      labels : l.images.labels ≡ l.initial.images.labels;
      place : l.images.place ≡ v;
      size : length l.out ≡ words_for (length body.presences) + 2;
      first : get_or l.out 0 0 ≡ get_or l.initial.out 0 0;
      second : get_or l.out 1 0 ≡ get_or l.initial.out 1 0;
      marked : (q : ℕ) → has_state l.out q ≡ (some_below l.from (λ s. has_state (get_or ws v []) s && some_gives body l.column l.row.symbol ws (with_state v s) q) || has_state l.initial.out q);
    }
