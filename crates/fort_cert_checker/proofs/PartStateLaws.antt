-- How many states a part's table has: one number by the steps, and for classes that are numbered as many as there are.
use Rattle.std.specs.Prelude.{◌≡◌, ℕ, zero, suc, ◌≤◌, max, List, length, take, true, false, refl}
use Rattle.std.proofs.Common.{sym, ap, ◌∙◌, arith, true≢false, take_all, take-suc, le_of_eq}
use Rattle.fort_certificate_theory.specs.Certificates.{Step, Part, Merge}
use Rattle.fort_certificate_theory.specs.Dues.{is_merged_in}
use Rattle.fort_tables.specs.Merges.{class_of, count_of, AreNumbered}
use Rattle.fort_tables.proofs.NumberedClasses.{stage-push}
use Rattle.fort_check_steps.specs.Room.{most_states}
use Rattle.fort_cert_checker.specs.Abouts.{IsOnlyAbout, classes_in}
use Rattle.fort_cert_checker.specs.PartStates.{IsStatesOf, OfTargets, OfClasses}
use Rattle.fort_cert_checker.proofs.FrontLaws.{only_same, only_targets}

pub only_classes : (ss : List Step) (k : ℕ) (xs ys : List ℕ) → IsOnlyAbout ss (Merge k xs) → IsOnlyAbout ss (Merge k ys) → xs ≡ ys
only_classes ss k xs ys a b = ap classes_in (only_same ss (Merge k xs) (Merge k ys) a b refl)

pub states_one : (ss : List Step) (k n m : ℕ) → IsStatesOf ss k n → IsStatesOf ss k m → n ≡ m
states_one ss k n m (OfTargets xs a e p) (OfTargets ys b f q) = p ∙ (ap most_states (only_targets ss k xs ys a b) ∙ sym q)
states_one ss k n m (OfTargets xs a e p) (OfClasses ys b f q) = absurd (true≢false (sym f ∙ e))
states_one ss k n m (OfClasses xs a e p) (OfTargets ys b f q) = absurd (true≢false (sym e ∙ f))
states_one ss k n m (OfClasses xs a e p) (OfClasses ys b f q) = p ∙ (ap most_states (only_classes ss k xs ys a b) ∙ sym q)

-- found by the first merge, or the first targets
pub states_by_classes : (ss : List Step) (k n : ℕ) (xs : List ℕ) (m : ℕ) → is_merged_in ss k ≡ true → ((classes : List ℕ) → IsOnlyAbout ss (Merge k classes) → xs ≡ classes) → m ≡ most_states xs → IsStatesOf ss k n → m ≡ n
states_by_classes ss k n xs m is own e (OfTargets ys a f q) = absurd (true≢false (sym is ∙ f))
states_by_classes ss k n xs m is own e (OfClasses ys a f q) = e ∙ (ap most_states (own ys a) ∙ sym q)

pub states_by_targets : (ss : List Step) (k n : ℕ) (xs : List ℕ) (m : ℕ) → is_merged_in ss k ≡ false → ((targets : List ℕ) → IsOnlyAbout ss (Part k targets) → xs ≡ targets) → m ≡ most_states xs → IsStatesOf ss k n → m ≡ n
states_by_targets ss k n xs m is own e (OfTargets ys a f q) = e ∙ (ap most_states (own ys a) ∙ sym q)
states_by_targets ss k n xs m is own e (OfClasses ys a f q) = absurd (true≢false (sym f ∙ is))

numbered_to : (classes : List ℕ) → AreNumbered classes → (k : ℕ) → k ≤ length classes → count_of (take k classes) ≤ k
numbered_to classes h zero l = omega arith
numbered_to classes h (suc k) l =
    let e : count_of (take (suc k) classes) ≡ max (count_of (take k classes)) (suc (class_of classes k)) = ap count_of (take-suc classes k 0 (omega arith)) ∙ stage-push (take k classes) (class_of classes k) in
    let before = numbered_to classes h k (omega arith) in
    omega (arith, e, before, h k (omega arith))

-- Result: no more classes than states
pub few_numbered : (classes : List ℕ) → AreNumbered classes → count_of classes ≤ length classes
few_numbered classes h =
    let whole = ap count_of (take_all (length classes) classes (le_of_eq refl)) in
    let all = numbered_to classes h (length classes) (omega arith) in
    omega (arith, whole, all)

pub all_classes : (classes : List ℕ) → AreNumbered classes → count_of classes ≡ most_states classes
all_classes classes h = let l = few_numbered classes h in omega (arith, l)
