use Rattle.std.proofs.Common.{◌++◌, ◌∷◌, [], map, decimal, ap, ◌∙◌}
use Rattle.fort_certificate_theory.specs.CertificateText.{spaced}
use Rattle.fort_certificate_theory.specs.OpenText.{symbol_word}
use Rattle.fort_certificate.specs.Lines.{tails}
use Rattle.fort_certificate.proofs.LineLaws.{node_line}
use Rattle.fort_certificate.proofs.open_write.push_node.Goals as goal

pub returns-clause-text : goal.returns-clause-text
returns-clause-text c =
    let e = c.args.row.now in
    c.in_ok-extend_from_slice-2.ensures.items
    ∙ (ap (λ xs. xs ++ (41 ∷ 10 ∷ [])) (rw c.kids.ensures.states at c.in_ok-push_numbers.ensures.text
    ∙ ap (λ xs. xs ++ tails (map decimal e.kids)) (c.in_ok-push.ensures.items
    ∙ ap (λ xs. xs ++ 41 ∷ []) (c.in_ok-push_symbols.ensures.text
    ∙ ap (λ xs. xs ++ spaced (map symbol_word e.symbol)) c.in_ok-extend_from_slice.ensures.items)))
    ∙ node_line c.args.out.now.items e)

pub returns-clause-small : goal.returns-clause-small
returns-clause-small c = (c.in_ok-push_symbols.ensures.small, rw c.kids.ensures.states at c.in_ok-push_numbers.ensures.small)
