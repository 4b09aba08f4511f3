-- Two places in one list.
use Rattle.std.proofs.Common.{◌≡◌, List, [], ◌∷◌, ◌++◌, refl, ap, sym, subst}

-- two places in a list: one, or the first before the second, or the second before the first
pub data Places {A : Type 0} (xs ys : List A) (f g : A) : Type 0 where
  Here : xs ≡ ys → f ≡ g → Places xs ys f g
  First : (more : List A) → ys ≡ xs ++ f ∷ more → Places xs ys f g
  Second : (more : List A) → xs ≡ ys ++ g ∷ more → Places xs ys f g

more_places : {A : Type 0} (x : A) (xs ys : List A) (f g : A) → Places xs ys f g → Places (x ∷ xs) (x ∷ ys) f g
more_places x xs ys f g (Here a b) = Here (ap (λ zs. x ∷ zs) a) b
more_places x xs ys f g (First more a) = First more (ap (λ zs. x ∷ zs) a)
more_places x xs ys f g (Second more a) = Second more (ap (λ zs. x ∷ zs) a)

pub places : {A : Type 0} (xs ys vs bs : List A) (f g : A) → xs ++ f ∷ vs ≡ ys ++ g ∷ bs → Places xs ys f g
places [] [] vs bs f g e = Here refl cc
places [] (y ∷ ys) vs bs f g e = First ys (let same : f ≡ y = cc in ap (λ z. z ∷ ys) (sym same))
places (x ∷ xs) [] vs bs f g e = Second xs (let same : x ≡ g = cc in ap (λ z. z ∷ xs) same)
places (x ∷ xs) (y ∷ ys) vs bs f g e =
    let same : x ≡ y = cc in
    let tails : xs ++ f ∷ vs ≡ ys ++ g ∷ bs = cc in
    subst (λ z. Places (x ∷ xs) (z ∷ ys) f g) same (more_places x xs ys f g (places xs ys vs bs f g tails))
