-- To believe: which fault of the definitions a fault of the program is. Want of memory is none.
use Rattle.std.specs.Prelude.{Option, None, Some}
use Rattle.fort_certificate_theory.specs.CertificateFaults as grammar
use Rattle.fort_certificate.specs.declared.fault.CertificateFault.{CertificateFault}
use Rattle.fort_certificate.specs.declared.fault.CertificateFault.TheVariants.{Memory, BadForm, BadNumber, Version}

abbrev pub as_fault : CertificateFault → Option grammar.CertificateFault
as_fault Memory = None
as_fault (BadForm i) = Some (grammar.BadForm i)
as_fault (BadNumber i) = Some (grammar.BadNumber i)
as_fault (Version i) = Some (grammar.OtherVersion i)

-- a fault other than want of memory, of which this holds
abbrev pub IsFault : (grammar.CertificateFault → Type 0) → CertificateFault → Type 0
IsFault P Memory = ⊥
IsFault P (BadForm i) = P (grammar.BadForm i)
IsFault P (BadNumber i) = P (grammar.BadNumber i)
IsFault P (Version i) = P (grammar.OtherVersion i)
