use Rattle.std.proofs.Common.{◌≡◌, ◌≤◌, ◌-◌, reverse, take}
use Rattle.fort_logic.specs.Translation.{number_in}
use Rattle.fort_formulas.proofs.scope.number_among.Given as goal

abbrev pub invariant-loop-i : goal.invariant-loop-i
invariant-loop-i l = record {
  is : l.number ≡ number_in (reverse (take l.i l.names)) l.name;
  low : l.number ≤ l.i - 1;
}
