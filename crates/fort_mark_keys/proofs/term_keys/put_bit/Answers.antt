use Rattle.std.proofs.Common.{Bool, true, false, ◌&&◌, ◌||◌, ◌==◌, ◌≡◌, refl, ap, sym, ◌∙◌}
use Rattle.fort_tables.specs.BitRows.{has_bit}
use Rattle.fort_mark_keys.proofs.term_keys.put_bit.Goals as goal

and-true : (b : Bool) → (b && true) ≡ b
and-true true = refl
and-true false = refl

pub returns-then-on : goal.returns-then-on
returns-then-on c q =
    c.set_bit.ensures.bits q
    ∙ ap (λ b. b || has_bit c.args.out.now q) (sym (and-true (c.args.bit == q)) ∙ ap (λ on. (c.args.bit == q) && on) (sym c.if-on.true))
