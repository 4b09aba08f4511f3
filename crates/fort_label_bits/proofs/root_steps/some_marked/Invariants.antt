use Rattle.std.proofs.Common.{◌-◌}
use Rattle.fort_label_bits.specs.RuleLefts.{NoneBefore}
use Rattle.fort_label_bits.proofs.root_steps.some_marked.Given as goal

abbrev pub invariant-lefts : goal.invariant-lefts
invariant-lefts l = NoneBefore l.base l.label l.rules l.from

abbrev pub decreases-lefts : goal.decreases-lefts
decreases-lefts l = l.base - l.from
