use Rattle.fort_theory.proofs.SignaturesLaws.{IsSignature-nil}
use Rattle.fort_terms.proofs.signature.Signature.empty.Goals as goal

pub invariant_of-result : goal.invariant_of-result
invariant_of-result c = rw c.new.ensures.empty IsSignature-nil
