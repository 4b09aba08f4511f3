-- The columns of a core formula are its free numbers; where its operands' columns stand among them, and what a binder takes away.
use Rattle.std.specs.Prelude.{◌≡◌, ℕ, suc, max, ◌+◌, ◌<◌, ◌==◌, ◌&&◌, ◌||◌, ◌⊎◌, not, true, List, [], ◌∷◌, length, get_or, filter, Contains, refl}
use Rattle.std.specs.List.{range_with_len, insert}
use Rattle.std.specs.List.Sorted.{IsStrictlyIncreasing}
use Rattle.std.proofs.Common.{ap, sym, ◌∙◌, subst, arith, inl, inr, eq-eqb}
use Rattle.std.proofs.lemmas.Bool.{or_cases, or_left, or_right, and_parts, cases_eq}
use Rattle.std.proofs.lemmas.List.FromFn.{length-range_with_len, get_or-range_with_len}
use Rattle.std.proofs.lemmas.List.Elements.{Contains-get_or}
use Rattle.std.proofs.lemmas.List.{get_or_default}
use Rattle.std.proofs.lemmas.List.Kept.{IsStrictlyIncreasing-filter, AllPairs-from_increasing}
use Rattle.fort_theory.specs.Trees.{Tree}
use Rattle.fort_theory.proofs.Members.{Contains-head, Contains-behind, Contains-cons_cases, Contains-none, Contains-filter, Contains-from_filter}
use Rattle.fort_theory.specs.Cores.{Atom, Related, InContext, Normal, IsTerm, Core, True, Leaf, Not, Binary, Exists, Infinite}
use Rattle.fort_theory.specs.Parts.{stands_in, is_free, AreColumns}
use Rattle.fort_theory.proofs.ColumnLaws.{AreColumns-one, AreColumns-bound, AreColumns-Normal, AreColumns-IsTerm}
use Rattle.fort_tables.proofs.EqualTests.{equal_from_test, test_from_apart}
use Rattle.fort_parts.specs.PartColumns.{numbers_in, numbers_below, columns_of, place_in}

below_two : (n x y : ℕ) → ((x == n) ≡ true) ⊎ ((y == n) ≡ true) → n < max (suc x) (suc y)
below_two n x y (inl e) = let same = equal_from_test x n e in omega arith
below_two n x y (inr e) = let same = equal_from_test y n e in omega arith

below_in : (n : ℕ) (a : Atom) → stands_in n a ≡ true → n < numbers_in a
below_in n (Related rel index x y) h = below_two n x y (or_cases (x == n) (y == n) h)
below_in n (InContext e number place x y) h = below_two n x y (or_cases (x == n) (y == n) h)
below_in n (Normal index x) h = let same = equal_from_test x n h in omega arith
below_in n (IsTerm x t) h = let same = equal_from_test x n h in omega arith

below : (n : ℕ) (f : Core) → is_free n f ≡ true → n < numbers_below f
below n True h = absurd cc
below n (Leaf a) h = below_in n a h
below n (Not f) h = below n f h
below n (Binary op f g) h =
    elim (or_cases (is_free n f) (is_free n g) h) [ inl e ↦ omega (arith, below n f e) | inr e ↦ omega (arith, below n g e) ]
below n (Exists x f) h = below n f (and_parts (not (x == n)) (is_free n f) h).1
below n (Infinite x f) h = below n f (and_parts (not (x == n)) (is_free n f) h).1

pub Contains-range : (n k : ℕ) → n < k → Contains (range_with_len 0 k) n
Contains-range n k l =
    subst (Contains (range_with_len 0 k)) (let at = get_or-range_with_len 0 k n 0 l in omega arith) (Contains-get_or (range_with_len 0 k) n 0 (omega (arith, length-range_with_len 0 k)))

pub range-below : (n k : ℕ) → Contains (range_with_len 0 k) n → n < k
range-below n k c =
    let l : c.0 < k = let low = c.1 in omega (arith, length-range_with_len 0 k) in
    let at = get_or-range_with_len 0 k c.0 0 l in
    let e = get_or_default (range_with_len 0 k) c.0 0 n c.1 ∙ c.2 in omega arith

pub ascending-range : (k : ℕ) → IsStrictlyIncreasing (range_with_len 0 k)
ascending-range k i l =
    let len = length-range_with_len 0 k in
    let a = get_or-range_with_len 0 k i 0 (omega arith) in
    let b = get_or-range_with_len 0 k (i + 1) 0 (omega arith) in
    omega arith

-- Result: they are the formula's free numbers, ascending
pub AreColumns-columns_of : (f : Core) → AreColumns f (columns_of f)
AreColumns-columns_of f = record {
  ascending = IsStrictlyIncreasing-filter (λ n. is_free n f) (range_with_len 0 (numbers_below f)) (ascending-range (numbers_below f));
  free =
      λ n. (
        λ c. (Contains-from_filter (λ m. is_free m f) (range_with_len 0 (numbers_below f)) n c).1,
        λ e. Contains-filter (λ m. is_free m f) (range_with_len 0 (numbers_below f)) n (Contains-range n (numbers_below f) (below n f e)) e,
      );
}

-- Result: and there is no other such list
pub columns_of-unique : (f : Core) (columns : List ℕ) → AreColumns f columns → columns ≡ columns_of f
columns_of-unique f columns are = AreColumns-one f columns (columns_of f) are (AreColumns-columns_of f)

pub columns_of-Normal : (index x : ℕ) → columns_of (Leaf (Normal index x)) ≡ x ∷ []
columns_of-Normal index x = sym (columns_of-unique (Leaf (Normal index x)) (x ∷ []) (AreColumns-Normal index x))

pub columns_of-IsTerm : (x : ℕ) (t : Tree) → columns_of (Leaf (IsTerm x t)) ≡ x ∷ []
columns_of-IsTerm x t = sym (columns_of-unique (Leaf (IsTerm x t)) (x ∷ []) (AreColumns-IsTerm x t))

pub is_free-from_column : (f : Core) (n : ℕ) → Contains (columns_of f) n → is_free n f ≡ true
is_free-from_column f n c = ((AreColumns-columns_of f).free n).0 c

pub column-from_free : (f : Core) (n : ℕ) → is_free n f ≡ true → Contains (columns_of f) n
column-from_free f n e = ((AreColumns-columns_of f).free n).1 e

-- the first of two operands, and the second
pub first_within : (h f g : Core) → ((n : ℕ) → is_free n h ≡ (is_free n f || is_free n g)) → (n : ℕ) → Contains (columns_of f) n → Contains (columns_of h) n
first_within h f g tells n c = column-from_free h n (tells n ∙ or_left (is_free n f) (is_free n g) (is_free-from_column f n c))

pub second_within : (h f g : Core) → ((n : ℕ) → is_free n h ≡ (is_free n f || is_free n g)) → (n : ℕ) → Contains (columns_of g) n → Contains (columns_of h) n
second_within h f g tells n c = column-from_free h n (tells n ∙ or_right (is_free n f) (is_free n g) (is_free-from_column g n c))

-- places

place_in-here : (x n : ℕ) (xs : List ℕ) → x ≡ n → place_in (x ∷ xs) n ≡ 0
place_in-here x n xs e = rw (eq-eqb x n e) refl

place_in-later : (x n : ℕ) (xs : List ℕ) → (x ≡ n → ⊥) → place_in (x ∷ xs) n ≡ suc (place_in xs n)
place_in-later x n xs other = rw (test_from_apart x n other) (omega arith)

pub record IsAtPlace (xs : List ℕ) (n : ℕ) : Type 0 where
  pub within : place_in xs n < length xs
  pub is : get_or xs (place_in xs n) 0 ≡ n

pub place_of-member : (xs : List ℕ) (n : ℕ) → Contains xs n → IsAtPlace xs n
place_of-member [] n c = absurd (Contains-none n c)
place_of-member (x ∷ xs) n c =
    elim (cases_eq x n) [
      | inl e ↦ let here = place_in-here x n xs e in record { within = omega arith; is = ap (λ k. get_or (x ∷ xs) k 0) here ∙ e }
      | inr other ↦
          let later = place_in-later x n xs other in
          let rest = place_of-member xs n (elim (Contains-cons_cases x xs n c) [ inl e ↦ absurd (other e) | inr d ↦ d ]) in
          record { within = omega (arith, rest.within); is = ap (λ k. get_or (x ∷ xs) k 0) later ∙ rest.is }
    ]

-- a number taken out and put in again

keeps_all : (n : ℕ) (xs : List ℕ) → (Contains xs n → ⊥) → filter (λ m. not (n == m)) xs ≡ xs
keeps_all n [] none = refl
keeps_all n (x ∷ xs) none =
    rw (test_from_apart n x (λ e. none (subst (Contains (x ∷ xs)) (sym e) (Contains-head x xs))))
    (ap (λ ys. x ∷ ys) (keeps_all n xs (λ c. none (Contains-behind x xs n c))))

abbrev NoneTwice : List ℕ → Type 0
NoneTwice [] = Unit {0}
NoneTwice (x ∷ xs) = (Contains xs x → ⊥) × NoneTwice xs

insert-filter : (n : ℕ) (xs : List ℕ) → NoneTwice xs → Contains xs n → insert (filter (λ m. not (n == m)) xs) (place_in xs n) n ≡ xs
insert-filter n [] once c = absurd (Contains-none n c)
insert-filter n (x ∷ xs) once c =
    elim (cases_eq x n) [
      | inl e ↦ rw (place_in-here x n xs e, eq-eqb n x (sym e), keeps_all n xs (subst (λ m. Contains xs m → ⊥) e once.0)) (ap (λ m. m ∷ xs) (sym e))
      | inr other ↦
          let rest = insert-filter n xs once.1 (elim (Contains-cons_cases x xs n c) [ inl e ↦ absurd (other e) | inr d ↦ d ]) in
          rw (place_in-later x n xs other, test_from_apart n x (λ e. other (sym e))) (ap (λ ys. x ∷ ys) rest)
    ]

NoneTwice-sorted : (xs : List ℕ) → IsStrictlyIncreasing xs → NoneTwice xs
NoneTwice-sorted xs h = from_pairs xs (λ i j l m. AllPairs-from_increasing xs h i j 0 l m)
  where
    from_pairs : (xs : List ℕ) → ((i j : ℕ) → i < j → j < length xs → get_or xs i 0 < get_or xs j 0) → NoneTwice xs
    from_pairs [] rise = tt
    from_pairs (x ∷ xs) rise = (
      (λ c.
          let at : c.0 < length xs = c.1 in
          let same : get_or xs c.0 0 ≡ x = get_or_default xs c.0 0 x at ∙ c.2 in
          let less : x < get_or xs c.0 0 = rise 0 (suc c.0) (omega arith) (omega arith) in
          omega arith),
      from_pairs xs (λ i j l m. rise (suc i) (suc j) (omega arith) (omega arith)),
    )

-- Result: with its binder's number put in again, a formula's columns are its body's
pub columns_of-bound : (h f : Core) (x : ℕ) → ((n : ℕ) → is_free n h ≡ (not (x == n) && is_free n f)) → is_free x f ≡ true
    → insert (columns_of h) (place_in (columns_of f) x) x ≡ columns_of f
columns_of-bound h f x tells among =
    let less = columns_of-unique h (filter (λ n. not (x == n)) (columns_of f)) (AreColumns-bound h f x (columns_of f) tells (AreColumns-columns_of f)) in
    subst (λ ys. insert ys (place_in (columns_of f) x) x ≡ columns_of f) less
    (insert-filter x (columns_of f) (NoneTwice-sorted (columns_of f) (AreColumns-columns_of f).ascending) (column-from_free f x among))
