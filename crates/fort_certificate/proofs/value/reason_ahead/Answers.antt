use Rattle.std.proofs.Common.{refl}
use Rattle.fort_certificate_theory.specs.CertificateForms.{AnyWord, KidsWord, RuleWord}
use Rattle.fort_certificate.proofs.value.reason_ahead.Goals as goal

pub returns-then-is_ahead-clause-some : goal.returns-then-is_ahead-clause-some
returns-then-is_ahead-clause-some c = AnyWord (c.if-is_ahead.ensures.0 refl)

pub returns-then-is_ahead-2-clause-some : goal.returns-then-is_ahead-2-clause-some
returns-then-is_ahead-2-clause-some c = KidsWord (c.if-is_ahead-2.ensures.0 refl)

pub returns-in-Some-clause-some : goal.returns-in-Some-clause-some
returns-in-Some-clause-some c = RuleWord c.in-Some.ensures.some
