use Rattle.fort_logic.proofs.MentionLaws.{IsFirstAbove-one}
use Rattle.fort_formulas.proofs.indices.above.Goals as goal

pub returns-then-index-number-clause-first : goal.returns-then-index-number-clause-first
returns-then-index-number-clause-first c = IsFirstAbove-one c.args.number c.args.index c.if-index-number.true
