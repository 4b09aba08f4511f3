use Rattle.std.proofs.Common.{◌≡◌, ℕ, map, take, get_or}
use Rattle.fort_tables.proofs.CountLaws.{marks_by}
use Rattle.fort_findings.specs.FindingView.{as_count}
use Rattle.fort_infinity.specs.LeastUnranked.{least_child}
use Rattle.fort_infinity.proofs.counts.list_counts.Given as goal

abbrev pub invariant-loop-q : goal.invariant-loop-q
invariant-loop-q l =
    let rank : ℕ → ℕ = λ k. get_or l.ranks k 0 in
    map as_count l.counts.items ≡ map (marks_by rank (least_child l.children rank)) (take l.q-index l.alone)
