use Rattle.std.proofs.Common.{◌≡◌, length}
use Rattle.fort_outline.specs.Roots.{cores_of}
use Rattle.fort_outline.specs.Outlines.{AreColumnsOf}
use Rattle.fort_outline.proofs.columns.all_columns.Given as goal

abbrev pub invariant-loop-k : goal.invariant-loop-k
invariant-loop-k l = record { count : length l.lists.items ≡ l.k; each : AreColumnsOf (cores_of l.roots) l.lists.items }
