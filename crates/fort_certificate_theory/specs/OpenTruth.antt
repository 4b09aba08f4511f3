-- To believe: what a certificate of an open formula in order proves: its last node's tuple satisfies the formula, or none does.
use Rattle.fort_theory.specs.Patterns.{PatternSystem}
use Rattle.fort_theory.specs.Cores.{Core}
use Rattle.fort_tables.specs.Tuples.{Tuple}
use Rattle.fort_parts.specs.ReducedParts.{IsSatisfiedBy}
use Rattle.fort_certificate_theory.specs.OpenCertificates.{Claim, Found, Empty, OpenCertificate}
use Rattle.fort_certificate_theory.specs.OpenChecked.{last_of}

abbrev pub Proves : PatternSystem → Core → OpenCertificate → Claim → Type 0
Proves system f c Found = IsSatisfiedBy system f (last_of c.nodes)
Proves system f c Empty = (t : Tuple) → IsSatisfiedBy system f t → ⊥
