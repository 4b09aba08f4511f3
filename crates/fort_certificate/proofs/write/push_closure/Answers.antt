use Rattle.std.proofs.Common.{◌++◌, ◌∷◌, [], map, ap, ◌∙◌}
use Rattle.fort_certificate_theory.specs.CertificateForms.{which_word}
use Rattle.fort_certificate_theory.specs.CertificateText.{element_text, pair_element, index_elements}
use Rattle.fort_findings.specs.FindingView.{as_which, as_pair}
use Rattle.fort_certificate.specs.VersionView.{as_version}
use Rattle.fort_certificate.specs.Lines.{tails}
use Rattle.fort_certificate.proofs.LineLaws.{closure_line}
use Rattle.fort_certificate.proofs.write.push_closure.Goals as goal

pub returns-clause-text : goal.returns-clause-text
returns-clause-text c =
    let version = as_version c.args.version in
    c.in_ok-extend_from_slice-2.ensures.items
    ∙ (ap (λ xs. xs ++ (41 ∷ 10 ∷ [])) (c.in_ok-push_entries.ensures.text
    ∙ ap (λ xs. xs ++ tails (map (λ e. element_text (pair_element (as_pair e))) c.args.entries.now)) (c.in_ok-push_index.ensures
    ∙ ap (λ xs. xs ++ tails (map element_text (index_elements version c.args.index))) (c.in_ok-push_which.ensures
    ∙ ap (λ xs. xs ++ (32 ∷ which_word (as_which c.args.which))) c.in_ok-extend_from_slice.ensures.items)))
    ∙ closure_line c.args.out.now.items version (as_which c.args.which) c.args.index c.args.entries.now)
