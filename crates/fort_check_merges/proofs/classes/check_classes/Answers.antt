use Rattle.fort_check_merges.specs.GivenMerges.{table_in}
use Rattle.fort_check_merges.proofs.Answers.{wrong_count}
use Rattle.fort_check_merges.proofs.classes.check_classes.Goals as goal

pub returns-then-given-clause-wrong : goal.returns-then-given-clause-wrong
returns-then-given-clause-wrong c = wrong_count (table_in c.args.given.now) c.args.given.now.classes.now c.failed.result c.failed.ensures c.if-given.true
