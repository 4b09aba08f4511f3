use Rattle.std.proofs.Common.{◌≡◌, ◌++◌}
use Rattle.fort_terms.specs.SignatureView.{as_signature}
use Rattle.fort_terms.proofs.signature.Signature.copy.Given as goal

abbrev pub invariant-loop-name : goal.invariant-loop-name
invariant-loop-name l = as_signature l.symbols.entries ++ as_signature l.name-iterator ≡ l.self
