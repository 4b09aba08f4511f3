use Rattle.std.proofs.Common.{◌≡◌}
use Rattle.fort_check_steps.specs.Turned.{turned_by}
use Rattle.fort_check_steps.proofs.table.turned.Given as goal

abbrev pub invariant-loop-turn : goal.invariant-loop-turn
invariant-loop-turn l = l.truth ≡ turned_by l.turn l.is_full l.is_final
