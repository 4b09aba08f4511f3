use Rattle.std.proofs.Common.{arith}
use Rattle.fort_check_merges.specs.GivenMerges.{table_in}
use Rattle.fort_check_merges.proofs.Answers.{wrong_class}
use Rattle.fort_check_merges.proofs.classes.check_states.Goals as goal

pub returns-then-not-has_right_class-clause-wrong : goal.returns-then-not-has_right_class-clause-wrong
returns-then-not-has_right_class-clause-wrong c =
    wrong_class (table_in c.args.given.now) c.args.given.now.classes.now c.states.q c.failed.result c.failed.ensures c.requires.states.classes c.states.invariant.right (omega (arith, c.states-test.true, c.states.auto.q-end)) (c.has_right_class.ensures.wrong c.if-not-has_right_class.true)
