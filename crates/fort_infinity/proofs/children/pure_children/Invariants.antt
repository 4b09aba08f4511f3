use Rattle.std.proofs.Common.{◌≡◌, ℕ, [], length, get_or}
use Rattle.fort_tables.specs.Projections.{some_below}
use Rattle.fort_tables.specs.PureSearch.{has_number, is_child_under}
use Rattle.fort_infinity.proofs.children.pure_children.Given as goal

abbrev pub invariant-loop-g : goal.invariant-loop-g
invariant-loop-g g l =
    let body = g.T.Table.table l.body in
    record {
      size : length l.children ≡ length body.presences;
      noted : (q n : ℕ) → has_number n (get_or l.children q []) ≡ some_below l.g (is_child_under body l.column q n);
    }
