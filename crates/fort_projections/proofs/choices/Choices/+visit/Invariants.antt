use Rattle.std.proofs.Common.{◌≡◌, ℕ, ◌+◌, ◌-◌, ◌≤◌, ◌&&◌, ◌||◌, [], ◌∷◌, ◌++◌, take, length, get_or}
use Rattle.fort_tables.specs.BitRows.{words_for}
use Rattle.fort_tables.specs.Projections.{has_state, some_below}
use Rattle.fort_projections.specs.Scopes.{may_in}
use Rattle.fort_projections.specs.Choices.{may_choose, is_reachable, symbol_under}
use Rattle.fort_projections.proofs.choices.Choices.+visit.Given as goal

abbrev pub decreases-visit : goal.decreases-visit
decreases-visit g l = l.rest

abbrev pub decreases-states : goal.decreases-states
decreases-states g l = length (g.T.Table.table l.self.body.now).presences - l.from

abbrev pub invariant-states : goal.invariant-states
invariant-states g l =
    let body = g.T.Table.table l.self.body.now in
    let may = may_in l.self.scope (may_choose body l.self.column l.self.rows.now.labels l.self.row.now l.self.arity) in
    record {
      within : l.from ≤ length body.presences;
      size : length l.out ≡ words_for (length body.presences) + 2;
      first : get_or l.out 0 0 ≡ get_or l.initial.out 0 0;
      second : get_or l.out 1 0 ≡ get_or l.initial.out 1 0;
      marked : (q : ℕ) → has_state l.out q ≡ (some_below l.from (λ k. may l.j k && is_reachable body may (symbol_under l.self.row.now l.self.column l.self.sym.0) (take l.j l.chosen ++ k ∷ []) (l.j + 1) (l.rest - 1) q) || has_state l.initial.out q);
    }
