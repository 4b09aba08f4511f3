use Rattle.std.proofs.Common.{◌≡◌, map}
use Rattle.std.specs.List.{range_with_len}
use Rattle.fort_answers.specs.MadeProblem.{made_constant}
use Rattle.fort_sample.proofs.signature.made_signature.Given as goal

abbrev pub invariant-loop-i : goal.invariant-loop-i
invariant-loop-i l = l.signature ≡ map made_constant (range_with_len 0 l.i)
