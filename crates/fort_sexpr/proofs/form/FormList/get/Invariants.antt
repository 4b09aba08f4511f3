use Rattle.std.proofs.Common.{◌≡◌, ◌∷◌, drop}
use Rattle.fort_sexpr.proofs.form.FormList.get.Given as goal

abbrev pub invariant-loop : goal.invariant-loop
invariant-loop l =
    (drop l.counter l.self.forms ≡ l.form.form ∷ l.rest.forms) × (l.form.bytes ≡ l.self.bytes) × (l.rest.bytes ≡ l.self.bytes)
