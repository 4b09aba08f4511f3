use Rattle.std.proofs.Common.{◌≡◌, length, ap, sym, ◌∙◌, arith}
use Rattle.fort_certificate_theory.specs.Certificates.{Part, Merge}
use Rattle.fort_steps.specs.StepView.{as_step}
use Rattle.fort_cert_checker.proofs.numbers.has_few.Goals as goal

pub returns-in-Part : goal.returns-in-Part
returns-in-Part c = (
  λ yes. (
    λ k targets same.
        let own : Part c.in-Part.field-0 c.in-Part.targets.items ≡ Part k targets = sym (ap as_step c.in-Part.is) ∙ same in
        let here : c.in-Part.targets.items ≡ targets = cc in
        omega (arith, ap length here, c.has_numbers.ensures.0 yes, c.len.ensures, c.in-Part.targets.ok.0),
    λ k classes same. let other : Part c.in-Part.field-0 c.in-Part.targets.items ≡ Merge k classes = sym (ap as_step c.in-Part.is) ∙ same in absurd cc,
  ),
  λ few. c.has_numbers.ensures.1 (omega (arith, few.0 _ _ (ap as_step c.in-Part.is), c.len.ensures, c.in-Part.targets.ok.0)),
)

pub returns-in-Merge : goal.returns-in-Merge
returns-in-Merge c = (
  λ yes. (
    λ k targets same. let other : Merge c.in-Merge.field-0 c.in-Merge.classes.items ≡ Part k targets = sym (ap as_step c.in-Merge.is) ∙ same in absurd cc,
    λ k classes same.
        let own : Merge c.in-Merge.field-0 c.in-Merge.classes.items ≡ Merge k classes = sym (ap as_step c.in-Merge.is) ∙ same in
        let here : c.in-Merge.classes.items ≡ classes = cc in
        omega (arith, ap length here, c.has_numbers-in-Merge.ensures.0 yes, c.len-in-Merge.ensures, c.in-Merge.classes.ok.0),
  ),
  λ few. c.has_numbers-in-Merge.ensures.1 (omega (arith, few.1 _ _ (ap as_step c.in-Merge.is), c.len-in-Merge.ensures, c.in-Merge.classes.ok.0)),
)
