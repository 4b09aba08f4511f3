-- The places of an atom's arguments among its columns.
use Rattle.std.specs.Prelude.{◌≡◌, ◌↔◌, ℕ, zero, suc, ◌<◌, ◌==◌, List, [], ◌∷◌, length, get_or, Contains, false, refl}
use Rattle.std.specs.List.{position_or_len}
use Rattle.std.specs.List.Sorted.{IsStrictlyIncreasing}
use Rattle.std.proofs.Common.{subst, sym, ◌∙◌, ap, arith, inl, inr, eq-eqb}
use Rattle.std.proofs.lemmas.Bool.{cases_lt}
use Rattle.std.proofs.lemmas.List.Sums.{position_or_len_is}
use Rattle.fort_theory.proofs.Members.{Contains-head, Contains-behind, Contains-cons_cases, Contains-none}
use Rattle.fort_theory.specs.Cores.{Rel, Leaf, Related}
use Rattle.fort_theory.specs.Parts as parts
use Rattle.fort_theory.proofs.ColumnLaws.{AreColumns-Related, AreColumns-one}
use Rattle.fort_tables.proofs.EqualTests.{test_from_apart}
use Rattle.fort_alike.specs.ListedAtoms.{AreArguments}

abbrev pub place_of : ℕ → List ℕ → ℕ
place_of x columns = position_or_len (λ n. n == x) columns

pub record ArePlaces (columns : List ℕ) (x y : ℕ) : Type 0 where
  pub arguments : AreArguments (length columns) (place_of x columns) (place_of y columns)
  pub some : 0 < length columns
  pub first_within : place_of x columns < length columns
  pub second_within : place_of y columns < length columns
  pub first_is : get_or columns (place_of x columns) 0 ≡ x
  pub second_is : get_or columns (place_of y columns) 0 ≡ y

-- the place of the first one, and of the second one where it is another
place_of-head : (x : ℕ) (xs : List ℕ) → place_of x (x ∷ xs) ≡ 0
place_of-head x xs = position_or_len_is (λ n. n == x) (x ∷ xs) 0 0 (omega arith) (λ k l. absurd (omega arith)) (λ l. eq-eqb x x refl)

place_of-second : (x y : ℕ) → (x ≡ y → ⊥) → place_of y (x ∷ y ∷ []) ≡ 1
place_of-second x y other =
    position_or_len_is (λ n. n == y) (x ∷ y ∷ []) 1 0 (omega arith) before (λ l. eq-eqb y y refl)
  where
    before : (k : ℕ) → k < 1 → (get_or (x ∷ y ∷ []) k 0 == y) ≡ false
    before zero l = test_from_apart x y other
    before (suc k) l = absurd (omega arith)

ArePlaces-same : (x : ℕ) → ArePlaces (x ∷ []) x x
ArePlaces-same x =
    let e = place_of-head x [] in
    record {
      arguments = inl (refl, e, e);
      some = omega arith;
      first_within = omega (arith, e);
      second_within = omega (arith, e);
      first_is = ap (λ k. get_or (x ∷ []) k 0) e;
      second_is = ap (λ k. get_or (x ∷ []) k 0) e;
    }

ArePlaces-up : (x y : ℕ) → (x ≡ y → ⊥) → ArePlaces (x ∷ y ∷ []) x y
ArePlaces-up x y other =
    let e = place_of-head x (y ∷ []) in
    let d = place_of-second x y other in
    record {
      arguments = inr (inl (refl, e, d));
      some = omega arith;
      first_within = omega (arith, e);
      second_within = omega (arith, d);
      first_is = ap (λ k. get_or (x ∷ y ∷ []) k 0) e;
      second_is = ap (λ k. get_or (x ∷ y ∷ []) k 0) d;
    }

ArePlaces-down : (x y : ℕ) → (y ≡ x → ⊥) → ArePlaces (y ∷ x ∷ []) x y
ArePlaces-down x y other =
    let e = place_of-head y (x ∷ []) in
    let d = place_of-second y x other in
    record {
      arguments = inr (inr (refl, d, e));
      some = omega arith;
      first_within = omega (arith, d);
      second_within = omega (arith, e);
      first_is = ap (λ k. get_or (y ∷ x ∷ []) k 0) d;
      second_is = ap (λ k. get_or (y ∷ x ∷ []) k 0) e;
    }

-- the columns of an atom
Contains-one_or_two : (x y n : ℕ) → Contains (x ∷ []) n → Contains (x ∷ y ∷ []) n
Contains-one_or_two x y n c = elim (Contains-cons_cases x [] n c) [
  | inl e ↦ subst (Contains (x ∷ y ∷ [])) e (Contains-head x (y ∷ []))
  | inr w ↦ absurd (Contains-none n w)
]

Contains-from_same : (x y n : ℕ) → x ≡ y → Contains (x ∷ y ∷ []) n → Contains (x ∷ []) n
Contains-from_same x y n e c = elim (Contains-cons_cases x (y ∷ []) n c) [
  | inl d ↦ subst (Contains (x ∷ [])) d (Contains-head x [])
  | inr w ↦ elim (Contains-cons_cases y [] n w) [ inl d ↦ subst (Contains (x ∷ [])) (e ∙ d) (Contains-head x []) | inr o ↦ absurd (Contains-none n o) ]
]

pub Contains-exchanged : {A : Type 0} (x y n : A) → Contains (y ∷ x ∷ []) n → Contains (x ∷ y ∷ []) n
Contains-exchanged x y n c = elim (Contains-cons_cases y (x ∷ []) n c) [
  | inl d ↦ subst (Contains (x ∷ y ∷ [])) d (Contains-behind x (y ∷ []) y (Contains-head y []))
  | inr w ↦ elim (Contains-cons_cases x [] n w) [ inl d ↦ subst (Contains (x ∷ y ∷ [])) d (Contains-head x (y ∷ [])) | inr o ↦ absurd (Contains-none n o) ]
]

IsStrictlyIncreasing-one : (x : ℕ) → IsStrictlyIncreasing (x ∷ [])
IsStrictlyIncreasing-one x k l = absurd (omega arith)

pub IsStrictlyIncreasing-two : (x y : ℕ) → x < y → IsStrictlyIncreasing (x ∷ y ∷ [])
IsStrictlyIncreasing-two x y h zero l = h
IsStrictlyIncreasing-two x y h (suc k) l = absurd (omega arith)

module _ (rel : Rel) (index x y : ℕ) (columns : List ℕ) (are : parts.AreColumns (Leaf (Related rel index x y)) columns) where
  columns-are : (xs : List ℕ) → IsStrictlyIncreasing xs → ((n : ℕ) → Contains xs n ↔ Contains (x ∷ y ∷ []) n) → xs ≡ columns
  columns-are xs ascending same = AreColumns-one (Leaf (Related rel index x y)) xs columns (AreColumns-Related rel index x y xs ascending same) are

  pub ArePlaces-columns : ArePlaces columns x y
  ArePlaces-columns = elim (cases_lt x y) [
    | inl l ↦
        subst (λ xs. ArePlaces xs x y) (columns-are (x ∷ y ∷ []) (IsStrictlyIncreasing-two x y l) (λ n. ((λ c. c), (λ c. c))))
        (ArePlaces-up x y (λ e. omega arith))
    | inr l ↦ elim (cases_lt y x) [
      | inl m ↦
          subst (λ xs. ArePlaces xs x y) (columns-are (y ∷ x ∷ []) (IsStrictlyIncreasing-two y x m) (λ n. (Contains-exchanged x y n, Contains-exchanged y x n)))
          (ArePlaces-down x y (λ e. omega arith))
      | inr m ↦
          let e : x ≡ y = omega arith in
          subst (λ xs. ArePlaces xs x y) (columns-are (x ∷ []) (IsStrictlyIncreasing-one x) (λ n. (Contains-one_or_two x y n, Contains-from_same x y n e)))
          (subst (λ z. ArePlaces (x ∷ []) x z) e (ArePlaces-same x))
    ]
  ]

  -- by the order of the two variables
  pub places-same : x ≡ y → (length columns ≡ 1) × (place_of x columns ≡ 0) × (place_of y columns ≡ 0)
  places-same e =
      let c : columns ≡ x ∷ [] = sym (columns-are (x ∷ []) (IsStrictlyIncreasing-one x) (λ n. (Contains-one_or_two x y n, Contains-from_same x y n e))) in
      (ap length c, ap (place_of x) c ∙ place_of-head x [], ap (place_of y) c ∙ (ap (λ z. place_of z (x ∷ [])) (sym e) ∙ place_of-head x []))

  pub places-up : x < y → (length columns ≡ 2) × (place_of x columns ≡ 0) × (place_of y columns ≡ 1)
  places-up l =
      let c : columns ≡ x ∷ y ∷ [] = sym (columns-are (x ∷ y ∷ []) (IsStrictlyIncreasing-two x y l) (λ n. ((λ d. d), (λ d. d)))) in
      (ap length c, ap (place_of x) c ∙ place_of-head x (y ∷ []), ap (place_of y) c ∙ place_of-second x y (λ e. omega arith))

  pub places-down : y < x → (length columns ≡ 2) × (place_of x columns ≡ 1) × (place_of y columns ≡ 0)
  places-down l =
      let c : columns ≡ y ∷ x ∷ [] =
      sym (columns-are (y ∷ x ∷ []) (IsStrictlyIncreasing-two y x l) (λ n. (Contains-exchanged x y n, Contains-exchanged y x n))) in
      (ap length c, ap (place_of x) c ∙ place_of-second y x (λ e. omega arith), ap (place_of y) c ∙ place_of-head y (x ∷ []))
