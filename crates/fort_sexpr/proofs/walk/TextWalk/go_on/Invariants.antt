use Rattle.std.proofs.Common.{length, ◌-◌}
use Rattle.fort_sexpr.specs.Progress.{GoesOn}
use Rattle.fort_sexpr.specs.Reading.{HasReadFront, KeepsRoom}
use Rattle.fort_sexpr.proofs.walk.TextWalk.go_on.Given as goal

abbrev pub invariant-loop-at : goal.invariant-loop-at
invariant-loop-at l = record {
  read : HasReadFront l.bytes l.self l.at;
  goes : GoesOn l.bytes l.at l.seen;
  room : KeepsRoom l.fn.self l.self;
}

abbrev pub decreases-loop-at : goal.decreases-loop-at
decreases-loop-at l = length l.bytes - l.at
