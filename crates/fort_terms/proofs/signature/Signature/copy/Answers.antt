use Rattle.std.proofs.Common.{◌∙◌, sym, subst}
use Rattle.fort_theory.specs.Signatures.{IsSignature}
use Rattle.fort_terms.proofs.SignatureViewLaws.{copied_more, copied_all}
use Rattle.fort_terms.proofs.signature.Signature.copy.Goals as goal

pub loop-name-preserved : goal.loop-name-preserved
loop-name-preserved c =
    copied_more c.loop-name.symbols.entries _ _ _ (c.in-Some.name.now, c.in-Some.arity.now) c.in_ok-from_slice.field-0 _ (subst IsSignature c.self.view_is c.self.invariant)
    c.loop-name.invariant c.in-Some.ensures.steps (c.in_ok-from_slice.ensures.items ∙ c.as_slice.ensures.value) c.in_ok-insert.ensures.entries

pub invariant_of-result : goal.invariant_of-result
invariant_of-result c =
    let whole = copied_all c.loop-name.symbols.entries _ _ c.loop-name.invariant c.in-None.ensures.steps.0 in
    subst IsSignature (c.self.view_is ∙ sym whole) c.self.invariant
