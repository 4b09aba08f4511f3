use Rattle.std.proofs.Common.{List, map, Some, sym, ap, ◌∙◌}
use Rattle.std.specs.Option.{option_copied}
use Rattle.fort_steps.specs.StepView.{as_step}
use Rattle.fort_steps.specs.declared.step.Step.{Step}
use Rattle.fort_certificate_theory.specs.Checked.{last_value}
use Rattle.fort_cert_checker.proofs.CheckLaws.{last_value_in, some_last, same_verdict, other_value}
use Rattle.fort_cert_checker.proofs.checker.verdict_of.Goals as goal

pub unreachable-requires : goal.unreachable-requires
unreachable-requires c =
    some_last c.deref.result.now c.requires.0 (ap (λ (xs : List Step). last_value (map as_step xs)) c.deref.ensures.value ∙ c.requires.1)
    (sym c.last.ensures.value ∙ ap option_copied c.in-None.is)

pub returns-in-Some-clause-verdict : goal.returns-in-Some-clause-verdict
returns-in-Some-clause-verdict c =
    let same = same_verdict c.value_in.result c.args.certificate.now.verdict c.if-value_in-certificate.true in
    let own = last_value_in c.deref.result.now c.in-Some.step.now c.requires.0 (sym c.last.ensures.value ∙ ap option_copied c.in-Some.is)
    (ap (λ (xs : List Step). last_value (map as_step xs)) c.deref.ensures.value ∙ c.requires.1) in
    c.requires.1 ∙ ap Some (sym own ∙ (sym c.value_in.ensures ∙ same))

pub returns-in-Some-2-clause-other : goal.returns-in-Some-2-clause-other
returns-in-Some-2-clause-other c = λ v last same.
    let own = last_value_in c.deref.result.now c.in-Some.step.now v (sym c.last.ensures.value ∙ ap option_copied c.in-Some.is) (ap (λ (xs : List Step). last_value (map as_step xs)) c.deref.ensures.value ∙ last) in
    other_value c.value_in.result c.args.certificate.now.verdict c.if-value_in-certificate.false (c.value_in.ensures ∙ (own ∙ sym same))
