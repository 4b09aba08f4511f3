use Rattle.std.proofs.Common.{map, take}
use Rattle.std.specs.Prelude.{Contains}
use Rattle.fort_findings.specs.FindingView.{as_which}
use Rattle.fort_engine.specs.Closures.{name_of}
use Rattle.fort_engine.proofs.closures.Closures.entries.Given as goal

abbrev pub invariant-loop-closure : goal.invariant-loop-closure
invariant-loop-closure l = Contains (map name_of (take l.closure-index l.self.list.items)) (as_which l.which, l.index) → ⊥
