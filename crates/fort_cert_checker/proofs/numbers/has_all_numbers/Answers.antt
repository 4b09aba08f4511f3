use Rattle.std.proofs.Common.{◌≡◌, sym, ◌∙◌, true, false}
use Rattle.fort_cert_checker.proofs.numbers.has_all_numbers.Goals as goal
use Rattle.fort_cert_checker.proofs.numbers.has_all_numbers.Goals.{then-has_numbers, else-has_numbers}

pub returns-then-has_forms : goal.returns-then-has_forms
returns-then-has_forms c = elim c.if-has_numbers.branch [
  | then-has_numbers w ↦ (
    λ yes. (c.has_numbers.ensures.0 w.if-has_numbers.true, w.has_forms.ensures.0 (sym w.value-is ∙ c.if-has_forms.true), c.have_few.ensures.0 yes),
    λ all. c.have_few.ensures.1 all.2,
  )
  | else-has_numbers w ↦ let none : false ≡ true = sym w.if-has_numbers.false ∙ (sym w.value-is ∙ c.if-has_forms.true) in absurd cc
]
