use Rattle.std.proofs.Common.{sym, ◌∙◌}
use Rattle.fort_engine.proofs.AnswerLaws.{bound_has_column, IsDecision-closed}
use Rattle.fort_engine.proofs.projected.project.Goals as goal

pub unreachable-requires : goal.unreachable-requires
unreachable-requires c =
    let b = c.requires.1 in
    bound_has_column c.args.system.now c.args.options.now c.args.number c.requires.0 c.args.body.now.answer.now c.in-Truth.field-0 c.in-Truth.is b.right b.among

pub returns-then-columns-eq1 : goal.returns-then-columns-eq1
returns-then-columns-eq1 c f b =
    IsDecision-closed c.args.system.now c.args.options.now c.args.number f c.args.body.now.answer.now c.in-Auto.table c.accepts_some.result c.truth.result c.in-Auto.is b.right
    b.among (sym c.columns.ensures.count ∙ c.if-columns-eq1.true) c.accepts_some.ensures c.truth.ensures.answer c.truth.ensures.counts
