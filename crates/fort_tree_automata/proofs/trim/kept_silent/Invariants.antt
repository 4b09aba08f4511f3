use Rattle.std.proofs.Common.{◌≡◌, take}
use Rattle.std.specs.Prelude.{filter, slice_index_or, false}
use Rattle.fort_tree_automata.proofs.trim.kept_silent.Given as goal

abbrev pub invariant-loop-step : goal.invariant-loop-step
invariant-loop-step l = l.kept.items ≡ filter (λ m. slice_index_or l.flags m.0 false) (take l.step-index l.silent)
