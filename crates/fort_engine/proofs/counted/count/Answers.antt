use Rattle.std.proofs.Common.{subst}
use Rattle.fort_engine.specs.AnswerView.{as_answer}
use Rattle.fort_engine.specs.Deciding.{IsBody}
use Rattle.fort_engine.proofs.AnswerLaws.{bound_has_column}
use Rattle.fort_engine.proofs.FoundLaws.{IsDecidedBy-many_of}
use Rattle.fort_engine.proofs.counted.count.Goals as goal

pub unreachable-requires : goal.unreachable-requires
unreachable-requires c =
    let b = c.requires.1 in
    bound_has_column c.args.system.now c.args.options.now c.args.number c.requires.0 c.args.body.now.answer.now c.in-Truth.field-0 c.in-Truth.is b.right b.among

pub returns : goal.returns
returns c f b =
    let own = subst (λ a. IsBody c.args.system.now c.args.options.now c.args.number f c.args.body.now.columns.now (as_answer a)) c.in-Auto.is b in
    IsDecidedBy-many_of c.args.system.now c.args.options.now c.args.number f c.args.body.now.answer.now c.in-Auto.table c.count_table.result c.in-Auto.is
    (c.count_table.ensures f own)
