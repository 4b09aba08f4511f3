use Rattle.std.proofs.Common.{sym, refl}
use Rattle.fort_terms.proofs.SignatureViewLaws.{IsSignature-inserted, as_signature-inserted, Contains-from_found, absent_from_not_found}
use Rattle.fort_terms.proofs.signature.Signature.add.Goals as goal

pub returns-then-is_some-clause-duplicate : goal.returns-then-is_some-clause-duplicate
returns-then-is_some-clause-duplicate c =
    (λ _. Contains-from_found _ _ c.find.result (sym c.if-is_some.ensures) c.find.ensures.found, λ _. refl)

pub invariant_of-self-2 : goal.invariant_of-self-2
invariant_of-self-2 c =
    let fresh = absent_from_not_found _ _ c.find.result (sym c.if-is_some.ensures) c.find.ensures.none in
    IsSignature-inserted c.self.inside.symbols.entries _ c.in_ok-name.name _ _ _ c.self.view_is c.in_ok-name.ensures.items fresh c.in_ok-insert.ensures.entries
    c.self.invariant c.requires.few c.requires.named c.requires.small

pub returns-clause-ok : goal.returns-clause-ok
returns-clause-ok c =
    let fresh = absent_from_not_found _ _ c.find.result (sym c.if-is_some.ensures) c.find.ensures.none in
    as_signature-inserted c.self.inside.symbols.entries _ c.in_ok-name.name _ _ _ c.self.view_is c.in_ok-name.ensures.items fresh c.in_ok-insert.ensures.entries
