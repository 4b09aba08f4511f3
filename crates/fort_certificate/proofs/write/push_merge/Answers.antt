use Rattle.std.proofs.Common.{◌++◌, ◌∷◌, [], map, decimal, ap, ◌∙◌}
use Rattle.fort_certificate.specs.VersionView.{as_version}
use Rattle.fort_certificate.specs.Lines.{tails}
use Rattle.fort_certificate.proofs.LineLaws.{merge_line}
use Rattle.fort_certificate.proofs.write.push_merge.Goals as goal

pub returns-clause-text : goal.returns-clause-text
returns-clause-text c =
    c.in_ok-extend_from_slice-2.ensures.items
    ∙ (ap (λ xs. xs ++ (41 ∷ 10 ∷ [])) (c.in_ok-push_numbers.ensures.text
    ∙ ap (λ xs. xs ++ tails (map decimal c.args.classes.now)) (c.in_ok-push_number.ensures.text
    ∙ ap (λ xs. xs ++ (32 ∷ decimal c.args.part)) c.in_ok-extend_from_slice.ensures.items))
    ∙ merge_line c.args.out.now.items (as_version c.args.version) c.args.part c.args.classes.now)
