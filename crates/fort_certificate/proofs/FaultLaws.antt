-- Faults of the program, and those of the definitions that they are.
use Rattle.std.proofs.Common.{◌≡◌, None, Some, IfSome, sym, subst}
use Rattle.fort_certificate_theory.specs.CertificateFaults as grammar
use Rattle.fort_certificate.specs.declared.fault.CertificateFault.{CertificateFault}
use Rattle.fort_certificate.specs.declared.fault.CertificateFault.TheVariants.{Memory, BadForm, BadNumber, Version}
use Rattle.fort_certificate.specs.Faults.{as_fault, IsFault}

some_one : {A : Type 0} (x y : A) → Some x ≡ Some y → x ≡ y
some_one x y h = cc

none_some : {A : Type 0} (x : A) → None ≡ Some x → ⊥
none_some x h = cc

pub fault_is : (P : grammar.CertificateFault → Type 0) (fault : CertificateFault) (g : grammar.CertificateFault) → as_fault fault ≡ Some g → P g → IsFault P fault
fault_is P Memory g e h = absurd (none_some g e)
fault_is P (BadForm i) g e h = subst P (sym (some_one (grammar.BadForm i) g e)) h
fault_is P (BadNumber i) g e h = subst P (sym (some_one (grammar.BadNumber i) g e)) h
fault_is P (Version i) g e h = subst P (sym (some_one (grammar.OtherVersion i) g e)) h

pub fault_then : (P Q : grammar.CertificateFault → Type 0) (fault : CertificateFault) → ((g : grammar.CertificateFault) → P g → Q g) → IsFault P fault → IsFault Q fault
fault_then P Q Memory f h = h
fault_then P Q (BadForm i) f h = f (grammar.BadForm i) h
fault_then P Q (BadNumber i) f h = f (grammar.BadNumber i) h
fault_then P Q (Version i) f h = f (grammar.OtherVersion i) h

-- what is said of a fault, as the contract of the reading says it
pub fault_some : (P : grammar.CertificateFault → Type 0) (fault : CertificateFault) → IsFault P fault → IfSome (as_fault fault) P
fault_some P Memory h = absurd h
fault_some P (BadForm i) h = h
fault_some P (BadNumber i) h = h
fault_some P (Version i) h = h
