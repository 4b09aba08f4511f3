use Rattle.std.proofs.Common.{◌≡◌, ℕ, ◌+◌, ◌-◌, ◌||◌, [], ◌∷◌, ◌++◌, take, length, get_or}
use Rattle.std.specs.List.{list_any}
use Rattle.fort_tables.specs.PureSearch.{has_number, is_child_after}
use Rattle.fort_infinity.proofs.children.Alone.+visit.Given as goal

abbrev pub decreases-visit : goal.decreases-visit
decreases-visit g l = l.rest

abbrev pub invariant-loop-k : goal.invariant-loop-k
invariant-loop-k g l =
    let body = g.T.Table.table l.self.body.now in
    record {
      size : length l.children ≡ length body.presences;
      noted : (q n : ℕ) → has_number n (get_or l.children q []) ≡ (list_any (λ k. is_child_after body l.self.column l.self.symbol (take l.j l.chosen ++ k ∷ []) (l.j + 1) (l.rest - 1) q n) (take l.k-index l.self.states.now) || has_number n (get_or l.initial.children q []));
    }
