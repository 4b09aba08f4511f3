use Rattle.std.proofs.Common.{◌≡◌, ◌+◌, ◌*◌, Bool, true, false, ◌&&◌, ◌||◌, ◌==◌, refl, ap, sym, ◌∙◌}
use Rattle.fort_tables.proofs.BitRowLaws.{has_bit-drop}
use Rattle.fort_label_bits.specs.RowBits.{bit_of}
use Rattle.fort_label_bits.proofs.BitRowListLaws.{behind-same}
use Rattle.fort_label_bits.proofs.bits.add_mark.Goals as goal

or-turned : (a b : Bool) → (a || b) ≡ (b || a)
or-turned true true = refl
or-turned true false = refl
or-turned false true = refl
or-turned false false = refl

pub returns-then-on : goal.returns-then-on
returns-then-on c q =
    let old = c.args.out.now in
    has_bit-drop 1 c.set_bit.new.words q
    ∙ (c.set_bit.ensures.bits (64 * 1 + q)
    ∙ ((λ i. behind-same c.args.bit q i || sym (has_bit-drop 1 old q) i)
    ∙ (or-turned (c.args.bit == q) (bit_of q old) ∙ ap (λ on. bit_of q old || (on && (c.args.bit == q))) (sym c.if-on.true))))
