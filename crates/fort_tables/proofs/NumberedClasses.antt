-- Classes that are numbered by first state: each number below the count has a first state, and that state has the number.
use Rattle.std.proofs.Common.{◌≡◌, ℕ, zero, suc, ◌<◌, ◌≤◌, max, List, [], ◌∷◌, ◌++◌, take, length, Bool, true, false, ◌==◌, refl, ap, sym, ◌∙◌, arith, ⊎_elim, true≢false, take_all, take-suc, le_of_eq}
use Rattle.std.proofs.lemmas.Bool.{cases_lt}
use Rattle.std.proofs.lemmas.List.Sums.{passes_at_first, fails_before_first}
use Rattle.fort_tables.specs.Entries.{stage}
use Rattle.fort_tables.proofs.EqualTests.{equal_from_test, apart_from_test}
use Rattle.fort_tables.proofs.OrderLaws.{kid_below}
use Rattle.fort_tables.specs.Merges.{class_of, first_of, count_of, leader, AreNumbered}

pub stage-push : (xs : List ℕ) (y : ℕ) → stage (xs ++ y ∷ []) ≡ max (stage xs) (suc y)
stage-push [] y = omega arith
stage-push (x ∷ xs) y = omega (arith, stage-push xs y)

test_itself : (c : ℕ) (b : Bool) → (c == c) ≡ b → b ≡ true
test_itself c true h = refl
test_itself c false h = absurd (apart_from_test c c h refl)

-- the first place is no later than any
pub first_below : (classes : List ℕ) (q : ℕ) → q < length classes → leader classes q ≤ q
first_below classes q l = ⊎_elim
    (λ b. absurd (true≢false (sym (test_itself (class_of classes q) (class_of classes q == class_of classes q) refl) ∙ fails_before_first (λ n. n == class_of classes q) classes q 0 b)))
    (λ b. b)
    (cases_lt q (leader classes q))

pub first_has : (classes : List ℕ) (c : ℕ) → first_of classes c < length classes → class_of classes (first_of classes c) ≡ c
first_has classes c l = equal_from_test (class_of classes (first_of classes c)) c (passes_at_first (λ n. n == c) classes 0 l)

-- the first state of a state's class is in that class
pub leader_within : (classes : List ℕ) (q : ℕ) → q < length classes → leader classes q < length classes
leader_within classes q l = omega (arith, first_below classes q l)

pub class_of-leader : (classes : List ℕ) (q : ℕ) → q < length classes → class_of classes (leader classes q) ≡ class_of classes q
class_of-leader classes q l = first_has classes (class_of classes q) (leader_within classes q l)

-- each number below the count is some state's class
pub record HasClass (classes : List ℕ) (k c : ℕ) : Type 0 where
  pub state : ℕ
  pub before : state < k
  pub class_is : class_of classes state ≡ c

pub has_class : (classes : List ℕ) → AreNumbered classes → (k c : ℕ) → k ≤ length classes → c < count_of (take k classes) → HasClass classes k c
has_class classes h zero c l b = absurd (omega arith)
has_class classes h (suc k) c l b =
    let e : count_of (take (suc k) classes) ≡ max (count_of (take k classes)) (suc (class_of classes k)) = ap count_of (take-suc classes k 0 (omega arith)) ∙ stage-push (take k classes) (class_of classes k) in
    ⊎_elim
    (λ m. let r = has_class classes h k c (omega arith) m in record { state = r.state; before = omega (arith, r.before); class_is = r.class_is })
    (λ m. record { state = k; before = omega arith; class_is = omega (arith, e, h k (omega arith)) })
    (cases_lt c (count_of (take k classes)))

pub first_within : (classes : List ℕ) (c : ℕ) → AreNumbered classes → c < count_of classes → first_of classes c < length classes
first_within classes c h l =
    let r = has_class classes h (length classes) c (omega arith) (omega (arith, ap count_of (take_all (length classes) classes (le_of_eq refl)))) in
    omega (arith, r.before, ap (first_of classes) (sym r.class_is), first_below classes r.state r.before)

pub first_class : (classes : List ℕ) (c : ℕ) → AreNumbered classes → c < count_of classes → class_of classes (first_of classes c) ≡ c
first_class classes c h l = first_has classes c (first_within classes c h l)

pub class_within : (classes : List ℕ) (q : ℕ) → q < length classes → class_of classes q < count_of classes
class_within classes q l = kid_below classes q l
