use Rattle.std.proofs.lemmas.Option.{MatchOption-at_some}
use Rattle.fort_formula_parser.specs.Faults.{as_formula_fault}
use Rattle.fort_answers.specs.FormulaAnswer.{Refused}
use Rattle.fort_questions.proofs.FormulaRefusals.{faulty}
use Rattle.fort_questions.proofs.accepted.accepted_formula.Goals as goal

pub returns-in-Err-clause-refused : goal.returns-in-Err-clause-refused
returns-in-Err-clause-refused c =
    Refused
    (faulty c.args.text.now c.in_ok-formula_line-in-Err.field-0.items (as_formula_fault c.in-Err.fault) c.in-Err.ensures.fault c.in_ok-formula_line-in-Err.ensures)

pub returns-in-Some-clause-refused : goal.returns-in-Some-clause-refused
returns-in-Some-clause-refused c = MatchOption-at_some _ _ _ c.in-Some.is (c.in_ok-refusal_of.ensures c.args.text.now c.in-Ok.ensures.ok)
