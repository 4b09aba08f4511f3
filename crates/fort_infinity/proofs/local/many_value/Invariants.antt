use Rattle.std.proofs.Common.{◌≡◌, ℕ, ◌<◌, map, get_or, true}
use Rattle.fort_tables.specs.Counts.{Finite, is_infinite}
use Rattle.fort_findings.specs.FindingView.{as_count}
use Rattle.fort_infinity.proofs.local.many_value.Given as goal

abbrev pub invariant-loop-i : goal.invariant-loop-i
invariant-loop-i g l =
    let body = g.T.Table.table l.body in
    (k : ℕ) → k < l.i → is_infinite (get_or (map as_count l.counts) k (Finite 0)) ≡ true → body.accepting (get_or l.alone k 0) ≡ true → ⊥
