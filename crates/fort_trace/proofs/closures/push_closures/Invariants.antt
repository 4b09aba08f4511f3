use Rattle.std.proofs.Common.{List, map, take}
use Rattle.fort_theory.specs.Cores.{Core}
use Rattle.fort_certificate_theory.specs.Made.{MadeSoFar}
use Rattle.fort_engine.specs.Closures.{AreClosures}
use Rattle.fort_trace.specs.Recording.{AddsSteps}
use Rattle.fort_trace.proofs.ClosureLaws.{step_for}
use Rattle.fort_trace.proofs.closures.push_closures.Given as goal

abbrev pub invariant-loop-closure : goal.invariant-loop-closure
invariant-loop-closure l =
    (parts : List Core) (made : MadeSoFar) → AreClosures l.system parts l.closures.list.items
    → AddsSteps l.system parts made (map step_for (take l.closure-index l.closures.list.items)) l.fn.steps.items l.steps.items
