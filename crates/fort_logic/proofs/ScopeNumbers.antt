-- The numbers of names in a scope: each name of the scope has one below its length, at which the outermost-first list has the name.
use Rattle.std.specs.Prelude.{◌≡◌, ℕ, zero, suc, ◌<◌, Bool, true, false, not, if◌then◌else◌, List, [], ◌∷◌, ◌++◌, length, reverse, Some, slice_get, bytes_eq, Contains, refl}
use Rattle.std.proofs.Common.{sym, ap, subst, ◌∙◌, arith}
use Rattle.std.proofs.lemmas.List.{reverse-append, length-reverse}
use Rattle.std.proofs.lemmas.List.Elements.{Contains-append_left, Contains-append_right}
use Rattle.std.proofs.lemmas.Slice.Eq.{bytes_eq-Decides}
use Rattle.fort_logic.specs.Formulas.{Name}
use Rattle.fort_logic.specs.FreeNames.{without, once}
use Rattle.fort_logic.specs.Translation.{number_in}
use Rattle.fort_theory.proofs.Members.{Contains-filter}

pub names_same : (x y : Name) → bytes_eq x y ≡ true → x ≡ y
names_same x y h = (bytes_eq-Decides x y).0 h

pub name_itself : (x : Name) → bytes_eq x x ≡ true
name_itself x = (bytes_eq-Decides x x).1 refl

-- another name stays where one is left out
pub Contains-without : (x : Name) (xs : List Name) (y : Name) → bytes_eq y x ≡ false → Contains xs y → Contains (without x xs) y
Contains-without x xs y other h = Contains-filter (λ z. not (bytes_eq z x)) xs y h (ap not other)

-- each name of a list is in the list of names each once
pub Contains-once : (xs : List Name) (y : Name) → Contains xs y → Contains (once xs) y
Contains-once [] y h = h
Contains-once (x ∷ xs) y (zero, l, e) = (0, omega arith, e)
Contains-once (x ∷ xs) y (suc k, l, e) = by (bytes_eq y x) refl (Contains-once xs y (k, omega arith, e))
  where
    by : (b : Bool) → bytes_eq y x ≡ b → Contains (once xs) y → Contains (once (x ∷ xs)) y
    by true is inner = (0, omega arith, sym (names_same y x is))
    by false is inner =
        let h = Contains-without x (once xs) y is inner in
        (suc h.0, (let l = h.1 in omega arith), h.2)

pub Contains-reverse : (xs : List Name) (y : Name) → Contains xs y → Contains (reverse xs) y
Contains-reverse [] y h = h
Contains-reverse (x ∷ xs) y (zero, l, e) =
    subst (λ w. Contains w y) (sym (reverse-append (x ∷ []) xs)) (Contains-append_right (reverse xs) (x ∷ []) y (0, omega arith, e))
Contains-reverse (x ∷ xs) y (suc k, l, e) =
    subst (λ w. Contains w y) (sym (reverse-append (x ∷ []) xs)) (Contains-append_left (reverse xs) (x ∷ []) y (Contains-reverse xs y (k, omega arith, e)))

-- a name of the scope behind the innermost one, where it isn't that one
Contains-outside : (y : Name) (ys : List Name) (x : Name) → bytes_eq x y ≡ false → Contains (y ∷ ys) x → Contains ys x
Contains-outside y ys x other (zero, l, e) =
    let said : true ≡ false = sym (name_itself x) ∙ (ap (bytes_eq x) (sym e) ∙ other) in cc
Contains-outside y ys x other (suc k, l, e) = (k, omega arith, e)

pub number_in-below : (scope : List Name) (x : Name) → Contains scope x → number_in scope x < length scope
number_in-below [] x (k, l, e) = absurd (omega arith)
number_in-below (y ∷ ys) x h = by (bytes_eq x y) refl (λ inner. number_in-below ys x inner)
  where
    by : (b : Bool) → bytes_eq x y ≡ b → (Contains ys x → number_in ys x < length ys) → number_in (y ∷ ys) x < length (y ∷ ys)
    by true is later = let n : number_in (y ∷ ys) x ≡ length ys = ap (λ b. if b then length ys else number_in ys x) is in omega arith
    by false is later =
        let n : number_in (y ∷ ys) x ≡ number_in ys x = ap (λ b. if b then length ys else number_in ys x) is in
        let below = later (Contains-outside y ys x is h) in omega arith

slice_get-front : {A : Type 0} (xs ys : List A) (k : ℕ) → k < length xs → slice_get (xs ++ ys) k ≡ slice_get xs k
slice_get-front [] ys k l = absurd (omega arith)
slice_get-front (x ∷ xs) ys zero l = refl
slice_get-front (x ∷ xs) ys (suc k) l = slice_get-front xs ys k (omega arith)

slice_get-seam : {A : Type 0} (xs : List A) (x : A) → slice_get (xs ++ x ∷ []) (length xs) ≡ Some x
slice_get-seam [] x = refl
slice_get-seam (y ∷ xs) x = slice_get-seam xs x

-- with the outermost name first, a name stands at its number
pub slice_get-number_in : (scope : List Name) (x : Name) → Contains scope x → slice_get (reverse scope) (number_in scope x) ≡ Some x
slice_get-number_in [] x (k, l, e) = absurd (omega arith)
slice_get-number_in (y ∷ ys) x h = ap (λ w. slice_get w (number_in (y ∷ ys) x)) (reverse-append (y ∷ []) ys) ∙ by (bytes_eq x y) refl (λ inner. slice_get-number_in ys x inner)
  where
    by : (b : Bool) → bytes_eq x y ≡ b → (Contains ys x → slice_get (reverse ys) (number_in ys x) ≡ Some x) → slice_get (reverse ys ++ y ∷ []) (number_in (y ∷ ys) x) ≡ Some x
    by true is later =
        let n : number_in (y ∷ ys) x ≡ length (reverse ys) = ap (λ b. if b then length ys else number_in ys x) is ∙ sym (length-reverse ys) in
        ap (slice_get (reverse ys ++ y ∷ [])) n ∙ (slice_get-seam (reverse ys) y ∙ ap Some (sym (names_same x y is)))
    by false is later =
        let n : number_in (y ∷ ys) x ≡ number_in ys x = ap (λ b. if b then length ys else number_in ys x) is in
        let inner = Contains-outside y ys x is h in
        let below : number_in ys x < length (reverse ys) = omega (arith, number_in-below ys x inner, length-reverse ys) in
        ap (slice_get (reverse ys ++ y ∷ [])) n ∙ (slice_get-front (reverse ys) (y ∷ []) (number_in ys x) below ∙ later inner)
