use Rattle.std.proofs.Common.{◌≡◌, ℕ, ◌-◌, ◌*◌, ◌&&◌, ◌||◌, ◌==◌, get_or}
use Rattle.fort_tables.specs.Projections.{has_state, some_below}
use Rattle.fort_projections.specs.Strides.{read_at}
use Rattle.fort_projections.proofs.marks.mark_set.Given as goal

abbrev pub invariant-loop-i : goal.invariant-loop-i
invariant-loop-i l = record {
  first : get_or l.out 0 0 ≡ get_or l.initial.out 0 0;
  second : get_or l.out 1 0 ≡ get_or l.initial.out 1 0;
  marked : (q : ℕ) → has_state l.out q ≡ (some_below (64 * (l.i - 2)) (λ k. has_state l.set k && (read_at l.stride k == q)) || has_state l.initial.out q);
}
