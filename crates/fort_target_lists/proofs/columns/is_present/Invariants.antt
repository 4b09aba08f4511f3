use Rattle.std.proofs.Common.{◌≡◌, drop}
use Rattle.fort_tables.specs.Selections.{is_present}
use Rattle.fort_target_lists.proofs.columns.is_present.Given as goal

abbrev pub invariant-loop-k : goal.invariant-loop-k
invariant-loop-k l = is_present l.sym ≡ is_present (drop l.k l.sym)
