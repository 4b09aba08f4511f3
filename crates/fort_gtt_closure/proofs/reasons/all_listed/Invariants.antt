use Rattle.std.proofs.Common.{◌≡◌, drop}
use Rattle.fort_gtt_closure.specs.Scans.{all_listed}
use Rattle.fort_gtt_closure.proofs.reasons.all_listed.Given as goal

abbrev pub invariant-loop-i : goal.invariant-loop-i
invariant-loop-i l = all_listed l.grid.entries.items (drop l.i l.ps) (drop l.i l.qs) ≡ all_listed l.grid.entries.items l.ps l.qs
