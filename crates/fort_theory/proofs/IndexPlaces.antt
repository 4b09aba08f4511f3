-- The lists of a system by their places from 0: one of them with one more, one more without rules.
use Rattle.std.specs.Prelude.{◌≡◌, ℕ, zero, suc, ◌+◌, ◌<◌, List, [], ◌∷◌, ◌++◌, length, map, get_or, slice_set, refl}
use Rattle.std.proofs.Common.{ap, ◌∙◌, add-one, arith}
use Rattle.fort_theory.specs.Sides.{pushed_at, empty_lists}

-- a list that is replaced by one whose values have one more at their end
pub map-set_more : {A B : Type 0} (f : B → List A) (lists : List B) (i : ℕ) (v w : B) (x : A) → i < length lists → v ≡ get_or lists i v → f w ≡ f v ++ x ∷ []
    → map f (slice_set lists i w) ≡ pushed_at (i + 1) x (map f lists)
map-set_more f [] i v w x h at more = absurd (omega arith)
map-set_more f (u ∷ lists) zero v w x h at more = ap (λ ys. ys ∷ map f lists) (more ∙ ap (λ b. f b ++ x ∷ []) at)
map-set_more f (u ∷ lists) (suc i) v w x h at more =
    let rest = map-set_more f lists i v w x (omega arith) at more in
    rw add-one (ap (λ ls. f u ∷ ls) (rest ∙ rw add-one refl))

empty_lists-suc : {A : Type 0} (n : ℕ) → empty_lists {A = A} (suc n) ≡ empty_lists n ++ [] ∷ []
empty_lists-suc zero = refl
empty_lists-suc {A} (suc n) = ap (λ ls. [] ∷ ls) (empty_lists-suc {A = A} n)

pub empty_lists-more : {A : Type 0} (n : ℕ) → empty_lists {A = A} (n + 1) ≡ empty_lists n ++ [] ∷ []
empty_lists-more {A} n = rw add-one (empty_lists-suc {A = A} n)
