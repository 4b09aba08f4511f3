use Rattle.std.proofs.Common.{◌++◌, ◌∷◌, [], map, decimal, ap, ◌∙◌}
use Rattle.fort_certificate.specs.VersionView.{as_version}
use Rattle.fort_certificate_theory.specs.CertificateText.{element_text, count_element}
use Rattle.fort_findings.specs.FindingView.{as_count}
use Rattle.fort_certificate.specs.Lines.{tails}
use Rattle.fort_certificate.proofs.LineLaws.{counts_line}
use Rattle.fort_certificate.proofs.write.push_counts.Goals as goal

pub returns-clause-text : goal.returns-clause-text
returns-clause-text c =
    c.in_ok-extend_from_slice-2.ensures.items
    ∙ (ap (λ xs. xs ++ (41 ∷ 10 ∷ [])) (c.in_ok-push_each_count.ensures.text
    ∙ ap (λ xs. xs ++ tails (map (λ n. element_text (count_element (as_count n))) c.args.counts.now)) (c.in_ok-push_number.ensures.text
    ∙ ap (λ xs. xs ++ (32 ∷ decimal c.args.part)) c.in_ok-extend_from_slice.ensures.items))
    ∙ counts_line c.args.out.now.items (as_version c.args.version) c.args.part c.args.counts.now)
