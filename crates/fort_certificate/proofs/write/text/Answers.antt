use Rattle.std.proofs.Common.{◌≡◌, ◌++◌, ap, sym, subst, ◌∙◌, map}
use Rattle.fort_certificate.specs.VersionView.{as_version}
use Rattle.fort_certificate_theory.specs.CertificateText.{line_of, header_elements, steps_text, certificate_text}
use Rattle.fort_steps.specs.StepView.{as_step}
use Rattle.fort_certificate_texts.proofs.Again.{behind_again}
use Rattle.fort_certificate.specs.Again.{IsReadBehind}
use Rattle.fort_certificate.proofs.write.text.Goals as goal

pub returns : goal.returns
returns c =
    let version = as_version c.args.version in
    let verdict = c.args.verdict in
    let steps = map as_step c.args.steps.now in
    let is : c.push_steps.new.out.items ≡ certificate_text version verdict steps =
    c.in_ok-push_steps.ensures.text
    ∙ ap (λ xs. xs ++ steps_text version steps) (c.in_ok-push_header.ensures ∙ ap (λ xs. xs ++ line_of (header_elements version verdict)) c.new-out.ensures.items) in
    record {
      text = is;
      again = subst (IsReadBehind version verdict steps) (sym is)
          (λ number of can front forms are. behind_again number version front forms verdict steps are of can);
      small = c.in_ok-push_steps.ensures.small;
    }
