-- Lists of different lengths aren't listed one by one.
use Rattle.std.proofs.Common.{◌≡◌, ℕ, suc, List, [], ◌∷◌, Bool, true, false, length, ap, ◌∙◌, refl}
use Rattle.std.specs.Prelude.{◌&&◌}
use Rattle.fort_gtt_closure.specs.declared.entry.Entry.{Entry}
use Rattle.fort_gtt_closure.specs.Grids.{is_listed}
use Rattle.fort_gtt_closure.specs.Scans.{all_listed}

and_false : (x : Bool) → x && false ≡ false
and_false true = refl
and_false false = refl

pub unequal : (es : List Entry) (ps qs : List ℕ) → (length ps ≡ length qs → ⊥) → all_listed es ps qs ≡ false
unequal es [] [] h = absurd (h refl)
unequal es [] (q ∷ qs) h = refl
unequal es (p ∷ ps) [] h = refl
unequal es (p ∷ ps) (q ∷ qs) h = ap (λ b. is_listed es p q && b) (unequal es ps qs (λ k. h (ap suc k))) ∙ and_false (is_listed es p q)
