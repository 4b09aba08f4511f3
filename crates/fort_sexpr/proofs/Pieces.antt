-- A text that comes in pieces, and its fault or want of memory at one of them.
use Rattle.std.proofs.Common.{◌≡◌, ℕ, zero, suc, ◌+◌, ◌-◌, ◌<◌, List, [], ◌∷◌, ◌++◌, length, get_or, take, drop, flat_map, refl, sym, ap, ◌∙◌, subst, append_assoc, length-append, arith}
use Rattle.fort_grammar.specs.Text.{IsFaultlessBelow}
use Rattle.fort_sexpr.specs.Faults.{IsFaultlessSoFar}
use Rattle.fort_sexpr.proofs.Tallies.{faultless_front}

-- the pieces before one of them, this one and those behind it
module _ {A : Type 0} (f : A → List ℕ) where
  around_one : (xs : List A) (i : ℕ) (d : A) → i < length xs → flat_map f xs ≡ (flat_map f (take i xs) ++ f (get_or xs i d)) ++ flat_map f (drop (suc i) xs)
  around_one [] i d l = absurd (omega arith)
  around_one (x ∷ xs) zero d l = refl
  around_one (x ∷ xs) (suc i) d l =
      let rest = flat_map f (drop (suc i) xs) in
      ap (λ ys. f x ++ ys) (around_one xs i d (omega arith))
      ∙ (sym (append_assoc (f x) (flat_map f (take i xs) ++ f (get_or xs i d)) rest)
      ∙ ap (λ ys. ys ++ rest) (sym (append_assoc (f x) (flat_map f (take i xs)) (f (get_or xs i d)))))

  pub piece_around : (xs : List A) (i : ℕ) (d : A) (before : List ℕ) → i < length xs → before ≡ flat_map f (take i xs)
      → flat_map f xs ≡ (before ++ f (get_or xs i d)) ++ flat_map f (drop (suc i) xs)
  piece_around xs i d before l e =
      around_one xs i d l ∙ ap (λ ys. (ys ++ f (get_or xs i d)) ++ flat_map f (drop (suc i) xs)) (sym e)

pub faultless_all : (front rest text : List ℕ) → text ≡ front ++ rest → 0 < length front → IsFaultlessBelow front (length front) → IsFaultlessSoFar text
faultless_all front rest text e some h =
    let last : length front ≡ (length front - 1) + 1 = omega arith in
    subst IsFaultlessSoFar (sym e)
    (record {
      at = length front - 1;
      within = omega (arith, length-append front rest);
      faultless = subst (IsFaultlessBelow (front ++ rest)) last (faultless_front front rest h);
    })
