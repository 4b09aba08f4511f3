-- The coarsest merge: two tuples have one class exactly where they are interchangeable, states are separated exactly where their tuples are not, and it is the only one.
use Rattle.std.proofs.Common.{◌≡◌, ◌↔◌, ◌⊎◌, ℕ, zero, suc, ◌<◌, ◌≤◌, List, take, length, refl, ap, sym, ◌∙◌, arith, inl, inr, ⊎_elim}
use Rattle.std.proofs.lemmas.Bool.{cases_lt}
use Rattle.std.proofs.lemmas.List.{ext_get_or, get_or-take, length-take}
use Rattle.fort_tables.specs.Tuples.{Tuple, IsTuple}
use Rattle.fort_tables.specs.Tables.{Table, IsTable, IsReached, state_of}
use Rattle.fort_tables.proofs.TableLaws.{table_state}
use Rattle.fort_tables.specs.Interchange.{Interchangeable, AcceptsExactly}
use Rattle.fort_tables.specs.Separation.{Separated}
use Rattle.fort_tables.specs.Merges.{class_of, first_of, count_of, leader, AreNumbered, merged, IsCoarsest}
use Rattle.fort_tables.proofs.SeparationLaws.{by_equal, unseparated_from_joined}
use Rattle.fort_tables.proofs.ApartLaws.{separated_apart}
use Rattle.fort_tables.proofs.NumberedClasses.{has_class, first_below, leader_within, class_of-leader}
use Rattle.fort_tables.proofs.MergeLaws.{state_of-merged, interchangeable_in_class, IsCongruence-classes}

module _ (table : Table) (classes : List ℕ) (R : Tuple → Type 0) (is : IsTable table) (reached : IsReached table) (accepts : AcceptsExactly table R) (m : IsCoarsest table classes) where
  within : (t : Tuple) → IsTuple table.signature table.columns t → state_of table t < length classes
  within t h = omega (arith, m.merge.count, (table_state table is t h).within)

  -- Result
  pub class_exactly : (t u : Tuple) → IsTuple table.signature table.columns t → IsTuple table.signature table.columns u
      → (class_of classes (state_of table t) ≡ class_of classes (state_of table u)) ↔ Interchangeable table.signature table.columns R t u
  class_exactly t u ht hu = (
    (λ e. interchangeable_in_class table classes is m.merge R accepts t u ht hu e),
    (λ h. by_equal (class_of classes (state_of table t) ≡ class_of classes (state_of table u)) (class_of classes (state_of table t)) (class_of classes (state_of table u)) (λ e. e)
        (λ n. absurd (separated_apart table R is reached accepts (m.apart (state_of table t) (state_of table u) (within t ht) (within u hu) n) t u ht hu refl refl h))),
  )

  -- Result: the states of the table of the classes tell when tuples are interchangeable
  pub merged_tells : (t u : Tuple) → IsTuple table.signature table.columns t → IsTuple table.signature table.columns u
      → (state_of (merged table classes) t ≡ state_of (merged table classes) u) ↔ Interchangeable table.signature table.columns R t u
  merged_tells t u ht hu =
      let a = state_of-merged table classes is m.merge t ht in
      let b = state_of-merged table classes is m.merge u hu in
      let both = class_exactly t u ht hu in
      ((λ e. both.0 (sym a ∙ (e ∙ b))), (λ h. a ∙ (both.1 h ∙ sym b)))

  -- Result
  pub separated_exactly : (t u : Tuple) → IsTuple table.signature table.columns t → IsTuple table.signature table.columns u
      → Separated table (state_of table t) (state_of table u) ↔ (Interchangeable table.signature table.columns R t u → ⊥)
  separated_exactly t u ht hu = (
    (λ s h. separated_apart table R is reached accepts s t u ht hu refl refl h),
    (λ n. m.apart (state_of table t) (state_of table u) (within t ht) (within u hu) (λ e. n ((class_exactly t u ht hu).0 e))),
  )

-- separation is decided by a coarsest merge
pub separated_or_not : (table : Table) (classes : List ℕ) → IsTable table → IsCoarsest table classes → (p q : ℕ) → p < length table.presences → q < length table.presences → Separated table p q ⊎ (Separated table p q → ⊥)
separated_or_not table classes is m p q l k =
    let a : p < length classes = omega (arith, m.merge.count) in
    let b : q < length classes = omega (arith, m.merge.count) in
    by_equal (Separated table p q ⊎ (Separated table p q → ⊥)) (class_of classes p) (class_of classes q)
    (λ e. inr (λ s. unseparated_from_joined table (λ x y. (x < length classes) × (y < length classes) × (class_of classes x ≡ class_of classes y)) (IsCongruence-classes table classes is m.merge) s (a, b, e)))
    (λ n. inl (m.apart p q a b n))

-- numbers by first state are fixed by which states are together
abbrev pub AreTogether : List ℕ → List ℕ → Type 0
AreTogether a b = (p q : ℕ) → p < length a → q < length a → class_of a p ≡ class_of a q → class_of b p ≡ class_of b q

pub new_class : (a : List ℕ) (q : ℕ) → AreNumbered a → q < length a → leader a q ≡ q → class_of a q ≡ count_of (take q a)
new_class a q h l e = ⊎_elim
    (λ b. let r = has_class a h q (class_of a q) (omega arith) b in
    absurd (omega (arith, r.before, e, first_below a r.state (omega (arith, r.before)), ap (first_of a) r.class_is)))
    (λ b. omega (arith, h q l))
    (cases_lt (class_of a q) (count_of (take q a)))

length_taken : (xs : List ℕ) (n : ℕ) → n < length xs → length (take n xs) ≡ n
length_taken xs n l = omega (arith, length-take n xs)

module _ (a b : List ℕ) (numbered_a : AreNumbered a) (numbered_b : AreNumbered b) (same_count : length a ≡ length b) (ab : AreTogether a b) (ba : AreTogether b a) where
  leaders_low : (q : ℕ) → q < length a → leader b q ≤ leader a q
  leaders_low q l =
      let at = leader_within a q l in
      let e : class_of b (leader a q) ≡ class_of b q = ab (leader a q) q at l (class_of-leader a q l) in
      omega (arith, first_below b (leader a q) (omega (arith, same_count)), ap (first_of b) e)

  leaders_high : (q : ℕ) → q < length a → leader a q ≤ leader b q
  leaders_high q l =
      let at = leader_within b q (omega (arith, same_count)) in
      let e : class_of a (leader b q) ≡ class_of a q = ba (leader b q) q at (omega (arith, same_count)) (class_of-leader b q (omega (arith, same_count))) in
      omega (arith, first_below a (leader b q) (omega (arith, same_count)), ap (first_of a) e)

  equal_to : (n q : ℕ) → q < n → q < length a → class_of a q ≡ class_of b q
  equal_to zero q l k = absurd (omega arith)
  equal_to (suc n) q l k =
      let leaders : leader a q ≡ leader b q = omega (arith, leaders_low q k, leaders_high q k) in
      ⊎_elim
      (λ b_low. sym (class_of-leader a q k) ∙ (equal_to n (leader a q) (omega arith) (leader_within a q k)
      ∙ (ap (class_of b) leaders ∙ class_of-leader b q (omega (arith, same_count)))))
      (λ high.
      let own : leader a q ≡ q = omega (arith, first_below a q k) in
      let same : take q a ≡ take q b = ext_get_or 0 (take q a) (take q b) (omega (arith, length_taken a q k, length_taken b q (omega (arith, same_count))))
      (λ i m. let low : i < q = omega (arith, length_taken a q k) in get_or-take q a i 0 low ∙ (equal_to n i (omega arith) (omega arith) ∙ sym (get_or-take q b i 0 low))) in
      new_class a q numbered_a k own ∙ (ap count_of same ∙ sym (new_class b q numbered_b (omega (arith, same_count)) (sym leaders ∙ own))))
      (cases_lt (leader a q) q)

  -- Result
  pub numbered_one : a ≡ b
  numbered_one = ext_get_or 0 a b same_count (λ q l. equal_to (suc q) q (omega arith) l)

together_from : (table : Table) (a b : List ℕ) → IsTable table → IsCoarsest table a → IsCoarsest table b → AreTogether a b
together_from table a b is ma mb p q l k e =
    let lb : p < length b = omega (arith, ma.merge.count, mb.merge.count) in
    let kb : q < length b = omega (arith, ma.merge.count, mb.merge.count) in
    by_equal (class_of b p ≡ class_of b q) (class_of b p) (class_of b q) (λ x. x)
    (λ n. absurd (unseparated_from_joined table (λ x y. (x < length a) × (y < length a) × (class_of a x ≡ class_of a y)) (IsCongruence-classes table a is ma.merge) (mb.apart p q lb kb n) (l, k, e)))

-- Result: there is one coarsest merge
pub coarsest_one : (table : Table) (a b : List ℕ) → IsTable table → IsCoarsest table a → IsCoarsest table b → a ≡ b
coarsest_one table a b is ma mb =
    numbered_one a b ma.merge.numbered mb.merge.numbered (ma.merge.count ∙ sym mb.merge.count) (together_from table a b is ma mb) (together_from table b a is mb ma)
