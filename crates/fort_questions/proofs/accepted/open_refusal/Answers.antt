use Rattle.std.proofs.Common.{sym, ◌∙◌, ap}
use Rattle.fort_answers.specs.Lines.{formula_open}
use Rattle.fort_questions.proofs.FormulaRefusals.{first_of_names}
use Rattle.fort_questions.proofs.accepted.open_refusal.Goals as goal

pub returns-in-Some : goal.returns-in-Some
returns-in-Some c =
    let first = first_of_names c.deref.result.now c.in-Some.name.now c.in-Some.ensures.value in (
      c.in-Some.name.now,
      first.0,
      sym c.in_ok-names.ensures ∙ (sym c.deref.ensures.value ∙ first.1),
      c.in_ok-open_line-in-Some.ensures ∙ ap formula_open c.as_bytes.ensures,
    )
