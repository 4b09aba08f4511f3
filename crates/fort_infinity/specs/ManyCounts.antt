-- To believe: whether the count beside a state is infinite.
use Rattle.std.specs.Prelude.{ℕ, List, map, Bool}
use Rattle.fort_tables.specs.Counts.{is_infinite, count_at}
use Rattle.fort_findings.specs.declared.count.Count.{Count}
use Rattle.fort_findings.specs.FindingView.{as_count}

abbrev pub is_many : List ℕ → List Count → ℕ → Bool
is_many alone counts k = is_infinite (count_at alone (map as_count counts) k)
