use Rattle.std.proofs.Common.{◌≡◌, ℕ, ◌-◌, ◌*◌, ◌&&◌, ◌||◌, ◌==◌, Bool, get_or}
use Rattle.fort_tables.specs.Projections.{has_state, some_below}
use Rattle.fort_projections.specs.Strides.{read_at}
use Rattle.fort_projections.proofs.FlatSearch.{IsRestOf}
use Rattle.fort_projections.proofs.marks.mark_word.Given as goal

abbrev pub decreases-bits : goal.decreases-bits
decreases-bits l = l.rest

abbrev pub invariant-bits : goal.invariant-bits
invariant-bits l = record {
  rest_of : IsRestOf l.set l.i l.state l.rest;
  first : get_or l.out 0 0 ≡ get_or l.initial.out 0 0;
  second : get_or l.out 1 0 ≡ get_or l.initial.out 1 0;
  marked : (q : ℕ) (before : Bool) → has_state l.initial.out q ≡ (some_below (64 * (l.i - 2)) (λ k. has_state l.set k && (read_at l.stride k == q)) || before) → has_state l.out q ≡ (some_below l.state (λ k. has_state l.set k && (read_at l.stride k == q)) || before);
}
