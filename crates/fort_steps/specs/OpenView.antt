-- To believe: which certificate of an open formula of the definitions one of the program is.
use Rattle.std.specs.Prelude.{map}
use Rattle.fort_tables.specs.Entries.{Entry, entry}
use Rattle.fort_steps.specs.StepView.{as_step}
use Rattle.fort_certificate_theory.specs.OpenCertificates as certificates
use Rattle.fort_steps.specs.declared.open_certificate.Claim.{Claim}
use Rattle.fort_steps.specs.declared.open_certificate.Claim.TheVariants.{Found, Empty}
use Rattle.fort_steps.specs.declared.open_certificate.Node.{Node}
use Rattle.fort_steps.specs.declared.open_certificate.OpenCertificate.{OpenCertificate}

abbrev pub as_claim : Claim → certificates.Claim
as_claim Found = certificates.Found
as_claim Empty = certificates.Empty

abbrev pub as_node : Node → Entry
as_node n = entry n.syms.items n.kids.items

abbrev pub as_open : OpenCertificate → certificates.OpenCertificate
as_open c = record { first = c.first; claim = as_claim c.claim; steps = map as_step c.steps.items; nodes = map as_node c.nodes.items }
