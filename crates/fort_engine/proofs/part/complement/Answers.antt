use Rattle.std.proofs.Common.{refl, sym, ap, subst}
use Rattle.fort_parts.specs.PartAnswers.{OfTable}
use Rattle.fort_engine.specs.declared.answer.Last.TheVariants.{Auto}
use Rattle.fort_engine.specs.Found.{IsTurnedOf}
use Rattle.fort_engine.proofs.AnswerLaws.{IsDecidedBy-Not-truth, IsDecidedBy-Not-table}
use Rattle.fort_engine.proofs.part.complement.Goals as goal

pub returns-in-Truth-clause-decided : goal.returns-in-Truth-clause-decided
returns-in-Truth-clause-decided c system options f right told =
    IsDecidedBy-Not-truth system options f c.args.body.now c.in-Truth.truth c.truth.result c.in-Truth.is c.truth.ensures.answer right

pub returns-in-Truth-clause-turned : goal.returns-in-Truth-clause-turned
returns-in-Truth-clause-turned c = subst (λ b. IsTurnedOf b c.truth.result.answer) (sym c.in-Truth.is) tt

pub returns-in_ok-negate-in-Auto-clause-decided : goal.returns-in_ok-negate-in-Auto-clause-decided
returns-in_ok-negate-in-Auto-clause-decided c system options f right told =
    IsDecidedBy-Not-table system options f c.args.body.now c.in-Auto.table c.in_ok-negate-in-Auto.field-0 _ c.in-Auto.is c.in_ok-negate-in-Auto.ensures.complement refl right
    told

pub returns-in_ok-negate-in-Auto-clause-turned : goal.returns-in_ok-negate-in-Auto-clause-turned
returns-in_ok-negate-in-Auto-clause-turned c =
    subst (λ b. IsTurnedOf b (Auto c.in_ok-negate-in-Auto.field-0)) (sym c.in-Auto.is) (ap OfTable c.in_ok-negate-in-Auto.ensures.complement)
