use Rattle.std.proofs.Common.{length, sym, ap, ◌∙◌, arith, eqb-true}
use Rattle.std.proofs.lemmas.Bool.{eqb-false}
use Rattle.fort_questions.proofs.FormulaRefusals.{no_items}
use Rattle.fort_questions.proofs.accepted.closed_refusal.Goals as goal

pub returns-then-is_empty : goal.returns-then-is_empty
returns-then-is_empty c =
    let names = c.in_ok-names.names in (
      sym c.in_ok-names.ensures ∙ no_items names.items (omega (arith, eqb-true _ 0 (sym c.is_empty.ensures ∙ c.if-is_empty.true), names.ok.0)),
      c.in_ok-from_slice.ensures.items,
    )

pub returns : goal.returns
returns c = λ none.
    let names = c.in_ok-names.names in
    eqb-false _ 0 (sym c.is_empty.ensures ∙ c.if-is_empty.false) (omega (arith, ap length (c.in_ok-names.ensures ∙ none), names.ok.0))
