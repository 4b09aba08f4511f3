-- Names each once: what a name left out, and a second list behind the first, do to them.
use Rattle.std.specs.Prelude.{◌≡◌, Bool, true, false, cond, not, List, [], ◌∷◌, ◌++◌, filter, bytes_eq, Contains, ◌||◌, refl}
use Rattle.std.specs.Bool.{Decides}
use Rattle.std.specs.List.{list_any}
use Rattle.std.proofs.Common.{ap, sym, ◌∙◌, append-nil, inl, inr}
use Rattle.std.proofs.lemmas.Bool.{cases_Bool}
use Rattle.std.proofs.lemmas.Bool.Decides.{Decides-by_or, same_from_decides}
use Rattle.std.proofs.lemmas.List.Elements.{filter-append, Decides-contains}
use Rattle.std.proofs.lemmas.Slice.Eq.{bytes_eq-Decides}
use Rattle.fort_logic.specs.Formulas.{Name}
use Rattle.fort_logic.specs.FreeNames.{without, once}

pub filter-filter_same : {A : Type 0} (p : A → Bool) (xs : List A) → filter p (filter p xs) ≡ filter p xs
filter-filter_same p [] = refl
filter-filter_same p (x ∷ xs) =
    elim (cases_Bool (p x)) [
      | inl e ↦ simp e (ap (λ ys. x ∷ ys) (filter-filter_same p xs))
      | inr e ↦ simp e (filter-filter_same p xs)
    ]

pub filter-filter_swap : {A : Type 0} (p q : A → Bool) (xs : List A) → filter p (filter q xs) ≡ filter q (filter p xs)
filter-filter_swap p q [] = refl
filter-filter_swap p q (x ∷ xs) =
    elim (cases_Bool (p x)) [
      | inl e ↦ elim (cases_Bool (q x)) [
        | inl d ↦ simp (e, d) (ap (λ ys. x ∷ ys) (filter-filter_swap p q xs))
        | inr d ↦ simp (e, d) (filter-filter_swap p q xs)
      ]
      | inr e ↦ elim (cases_Bool (q x)) [
        | inl d ↦ simp (e, d) (filter-filter_swap p q xs)
        | inr d ↦ simp (e, d) (filter-filter_swap p q xs)
      ]
    ]

pub without-without_same : (x y : Name) (xs : List Name) → y ≡ x → without x (without y xs) ≡ without x xs
without-without_same x y xs e = rw e (filter-filter_same (λ z. not (bytes_eq z x)) xs)

pub without-without_swap : (x y : Name) (xs : List Name) → without x (without y xs) ≡ without y (without x xs)
without-without_swap x y xs = filter-filter_swap (λ z. not (bytes_eq z x)) (λ z. not (bytes_eq z y)) xs

pub once-without : (x : Name) (xs : List Name) → once (without x xs) ≡ without x (once xs)
once-without x [] = refl
once-without x (y ∷ xs) =
    elim (cases_Bool (bytes_eq y x)) [
      | inl e ↦ simp e (once-without x xs ∙ sym (without-without_same x y (once xs) ((bytes_eq-Decides y x).0 e)))
      | inr e ↦ simp e (ap (λ ys. y ∷ without y ys) (once-without x xs) ∙ ap (λ ys. y ∷ ys) (without-without_swap y x (once xs)))
    ]

pub once-once : (xs : List Name) → once (once xs) ≡ once xs
once-once [] = refl
once-once (x ∷ xs) =
    ap (λ ys. x ∷ without x ys) (once-without x (once xs) ∙ ap (without x) (once-once xs))
    ∙ ap (λ ys. x ∷ ys) (without-without_same x x (once xs) refl)

-- the second list without what the first one has
abbrev pub without_all : List Name → List Name → List Name
without_all [] ys = ys
without_all (x ∷ xs) ys = without x (without_all xs ys)

pub once-append : (xs ys : List Name) → once (xs ++ ys) ≡ once xs ++ without_all xs (once ys)
once-append [] ys = refl
once-append (x ∷ xs) ys =
    ap (λ zs. x ∷ without x zs) (once-append xs ys)
    ∙ ap (λ zs. x ∷ zs) (filter-append (λ z. not (bytes_eq z x)) (once xs) (without_all xs (once ys)))

-- a second list may be taken once before
pub once-append_once : (xs ys : List Name) → once (xs ++ once ys) ≡ once (xs ++ ys)
once-append_once xs ys = once-append xs (once ys) ∙ (ap (λ zs. once xs ++ without_all xs zs) (once-once ys) ∙ sym (once-append xs ys))

-- ---- one name behind

abbrev among : Name → List Name → Bool
among y xs = list_any (λ x. bytes_eq y x) xs

among-Decides : (xs : List Name) (y : Name) → Decides (among y xs) (Contains xs y)
among-Decides xs y =
    Decides-contains xs y (among y xs)
    (Decides-by_or (λ x. bytes_eq y x) (λ x. x ≡ y) (among y)
    (λ x. (λ e. sym ((bytes_eq-Decides y x).0 e), λ e. (bytes_eq-Decides y x).1 (sym e))) refl (λ _ _. refl) xs)

without_all-one : (xs : List Name) (y : Name) → without_all xs (y ∷ []) ≡ cond (among y xs) [] (y ∷ [])
without_all-one [] y = refl
without_all-one (x ∷ xs) y =
    ap (without x) (without_all-one xs y) ∙ by (among y xs) (bytes_eq y x) refl
  where
    by : (b d : Bool) → bytes_eq y x ≡ d → without x (cond b [] (y ∷ [])) ≡ cond (d || b) [] (y ∷ [])
    by true true e = refl
    by true false e = refl
    by false true e = simp e
    by false false e = simp e

among-without : (x y : Name) (zs : List Name) → bytes_eq y x ≡ false → among y (without x zs) ≡ among y zs
among-without x y [] h = refl
among-without x y (z ∷ zs) h =
    elim (cases_Bool (bytes_eq z x)) [
      | inl e ↦ let other : bytes_eq y z ≡ false = rw ((bytes_eq-Decides z x).0 e) h in simp (e, other) (among-without x y zs h)
      | inr e ↦ simp e (ap (λ b. bytes_eq y z || b) (among-without x y zs h))
    ]

among-once : (xs : List Name) (y : Name) → among y (once xs) ≡ among y xs
among-once [] y = refl
among-once (x ∷ xs) y =
    elim (cases_Bool (bytes_eq y x)) [
      | inl e ↦ simp e
      | inr e ↦ simp e (among-without x y (once xs) e ∙ among-once xs y)
    ]

pub once-push : (xs names : List Name) (y : Name) (found : Bool) → names ≡ once xs → Decides found (Contains names y)
    → once (xs ++ y ∷ []) ≡ cond found names (names ++ y ∷ [])
once-push xs names y found is decides =
    let here : Decides (among y (once xs)) (Contains names y) = rw is (among-Decides (once xs) y) in
    let same : found ≡ among y xs = same_from_decides found (among y (once xs)) decides here ∙ among-once xs y in
    rw (same, is) (once-append xs (y ∷ []) ∙ (ap (λ ys. once xs ++ ys) (without_all-one xs y) ∙ by (among y xs)))
  where
    by : (b : Bool) → once xs ++ cond b [] (y ∷ []) ≡ cond b (once xs) (once xs ++ y ∷ [])
    by true = append-nil (once xs)
    by false = refl
