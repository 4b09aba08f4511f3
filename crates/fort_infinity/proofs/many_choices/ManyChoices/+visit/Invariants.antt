use Rattle.std.proofs.Common.{◌≡◌, ℕ, ◌<◌, ◌≤◌, ◌+◌, ◌-◌, ◌*◌, ◌&&◌, ◌||◌, [], ◌∷◌, ◌++◌, take, length, get_or}
use Rattle.fort_tables.specs.BitRows.{words_for}
use Rattle.fort_tables.specs.Projections.{has_state, some_below}
use Rattle.fort_tables.specs.ManyLabels.{has_many}
use Rattle.fort_tables.specs.ManyEntries.{finds, may_be, gives_state, gives_endless}
use Rattle.fort_infinity.specs.ManyCounts.{is_many}
use Rattle.fort_infinity.proofs.many_choices.ManyChoices.+visit.Given as goal

abbrev pub decreases-visit : goal.decreases-visit
decreases-visit g l = l.rest

abbrev pub decreases-states : goal.decreases-states
decreases-states g l = length (g.T.Table.table l.self.body.now).presences - l.from

abbrev pub invariant-states : goal.invariant-states
invariant-states g l =
    let body = g.T.Table.table l.self.body.now in
    let may = may_be body l.self.column l.self.rows.now.labels l.self.row.now l.self.arity in
    let many = is_many l.self.alone.now l.self.counts.now in
    record {
      within : l.from ≤ length body.presences;
      size : length l.out ≡ words_for (2 * length body.presences) + 2;
      first : get_or l.out 0 0 ≡ get_or l.initial.out 0 0;
      second : get_or l.out 1 0 ≡ get_or l.initial.out 1 0;
      given : (q : ℕ) → q < length body.presences → has_state l.out q ≡ (some_below l.from (λ k. may l.j k && finds body may (gives_state body l.self.symbol q) (take l.j l.chosen ++ k ∷ []) (l.j + 1) (l.rest - 1)) || has_state l.initial.out q);
      endless : (q : ℕ) → has_many (length body.presences) l.out q ≡ (some_below l.from (λ k. may l.j k && finds body may (gives_endless body many l.self.rows.now.labels l.self.row.now l.self.symbol l.self.arity q) (take l.j l.chosen ++ k ∷ []) (l.j + 1) (l.rest - 1)) || has_many (length body.presences) l.initial.out q);
    }
