use Rattle.std.specs.Prelude.{None}
use Rattle.std.proofs.lemmas.Result.{IfOk-weaker}
use Rattle.fort_answers.specs.FormulaAnswer.{Wide, Refused}
use Rattle.fort_formulas.specs.FormulaView.{as_formula}
use Rattle.fort_questions.specs.declared.question.Openness.TheVariants.{Any, Closed, Open}
use Rattle.fort_questions.proofs.FormulaRefusals.{taken_as, told, untold}
use Rattle.fort_questions.proofs.accepted.refusal_of.Goals as goal

pub returns-then-branch : goal.returns-then-branch
returns-then-branch c = λ text read.
    Refused (Wide (as_formula c.args.formula.now) read (told c.in_ok-is_too_wide.field-0 _ c.in_ok-is_too_wide.ensures c.if-branch.true) c.in_ok-from_slice.ensures.items)

pub returns-in-Any : goal.returns-in-Any
returns-in-Any c = λ text read.
    taken_as c.args.openness Any text (as_formula c.args.formula.now) None c.in-Any.is
    (record { read = read; narrow = untold c.in_ok-is_too_wide.field-0 _ c.in_ok-is_too_wide.ensures c.if-branch.false }) tt

pub returns-in-Closed : goal.returns-in-Closed
returns-in-Closed c =
    IfOk-weaker c.open_refusal.result _ _ (λ refusal says. λ text read.
    taken_as c.args.openness Closed text (as_formula c.args.formula.now) refusal c.in-Closed.is
    (record { read = read; narrow = untold c.in_ok-is_too_wide.field-0 _ c.in_ok-is_too_wide.ensures c.if-branch.false }) says)
    c.open_refusal.ensures

pub returns-in-Open : goal.returns-in-Open
returns-in-Open c =
    IfOk-weaker c.closed_refusal.result _ _ (λ refusal says. λ text read.
    taken_as c.args.openness Open text (as_formula c.args.formula.now) refusal c.in-Open.is
    (record { read = read; narrow = untold c.in_ok-is_too_wide.field-0 _ c.in_ok-is_too_wide.ensures c.if-branch.false }) says)
    c.closed_refusal.ensures
