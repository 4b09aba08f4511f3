use Rattle.fort_ari.proofs.Elements.{three_elements}
use Rattle.fort_ari.proofs.form.declaration_words.Goals as goal

pub returns-in_err-name-clause-none : goal.returns-in_err-name-clause-none
returns-in_err-name-clause-none c = rw c.from_residual.ensures (λ head name arity h. let es = three_elements _ _ _ _ _ h in c.in_err-name.ensures.none es.0 es.1 es.2 es.3)
