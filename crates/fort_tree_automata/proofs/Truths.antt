-- Two truths and their conjunction.
use Rattle.std.proofs.Common.{◌≡◌, Bool, true, false, ap, ◌∙◌, refl}
use Rattle.std.specs.Prelude.{◌&&◌}

pub and_left : (x y : Bool) → x && y ≡ true → x ≡ true
and_left true y h = refl
and_left false y h = h

pub and_right : (x y : Bool) → x && y ≡ true → y ≡ true
and_right true y h = h
and_right false y h = cc

pub and_both : (x y : Bool) → x ≡ true → y ≡ true → x && y ≡ true
and_both x y h k = ap (λ b. b && y) h ∙ k

pub not_both : {b : Bool} → b ≡ true → b ≡ false → ⊥
not_both h k = cc
