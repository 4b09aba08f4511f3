-- To believe: which version of the definitions a version of the program is.
use Rattle.fort_certificate_theory.specs.CertificateForms as grammar
use Rattle.fort_certificate.specs.declared.version.Version.{Version}
use Rattle.fort_certificate.specs.declared.version.Version.TheVariants.{OfOne, OfSeveral, OfReduced}

abbrev pub as_version : Version → grammar.Version
as_version OfOne = grammar.OfOne
as_version OfSeveral = grammar.OfSeveral
as_version OfReduced = grammar.OfReduced
