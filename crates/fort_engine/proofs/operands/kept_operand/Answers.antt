use Rattle.std.proofs.Common.{vec_items, ap, ◌∙◌}
use Rattle.fort_engine.proofs.operands.kept_operand.Goals as goal

pub returns-clause-columns : goal.returns-clause-columns
returns-clause-columns c parts are =
    c.as_slice.ensures.value ∙ (ap vec_items c.index.ensures ∙ are c.args.part c.index.result.now c.requires.listed)
