use Rattle.fort_certificate.proofs.ValueLaws.{three_elements}
use Rattle.fort_certificate.proofs.value.three_words.Goals as goal

pub returns-in_err-first-clause-none : goal.returns-in_err-first-clause-none
returns-in_err-first-clause-none c = rw c.from_residual.ensures (λ u v w h. let es = three_elements _ _ u v w h in c.in_err-first.ensures.none es.0 es.1 es.2 es.3)
