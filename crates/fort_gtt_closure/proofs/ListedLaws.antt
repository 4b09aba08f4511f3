-- The test whether a pair is listed decides it.
use Rattle.std.proofs.Common.{◌≡◌, ℕ, suc, List, [], ◌∷◌, true, map, ap, refl, subst, inl, inr}
use Rattle.std.specs.Prelude.{slice_get, Some}
use Rattle.fort_theory.proofs.Members.{Contains-head, Contains-behind, Contains-cons_cases, Contains-none}
use Rattle.fort_tree_automata.proofs.Truths.{and_left, and_right, and_both, not_both}
use Rattle.fort_gtt_closure.specs.declared.entry.Entry.{Entry}
use Rattle.fort_gtt_closure.specs.Grids.{is_listed}
use Rattle.fort_gtt_closure.specs.Scans.{all_listed}
use Rattle.fort_gtt_closure.specs.Reasons.{IsListed, AllListed}
use Rattle.fort_gtt_closure.proofs.GridLaws.{same, same_of, same_yes, or_cases, or_left, or_right}

abbrev pub states_of : Entry → ℕ × ℕ
states_of e = (e.p, e.q)

pub listed-from_test : (es : List Entry) (p q : ℕ) → is_listed es p q ≡ true → IsListed es p q
listed-from_test [] p q h = absurd (not_both h refl)
listed-from_test (e ∷ es) p q h = elim (or_cases (same e p q) (is_listed es p q) h) [
  | inl here ↦
      let w = same_of e p q here in
      subst (λ x. IsListed (e ∷ es) x q) w.0 (subst (λ x. IsListed (e ∷ es) e.p x) w.1 (Contains-head (states_of e) (map states_of es)))
  | inr there ↦ Contains-behind (states_of e) (map states_of es) (p, q) (listed-from_test es p q there)
]

pub test-from_listed : (es : List Entry) (p q : ℕ) → IsListed es p q → is_listed es p q ≡ true
test-from_listed [] p q c = absurd (Contains-none {A = ℕ × ℕ} (p, q) c)
test-from_listed (e ∷ es) p q c = elim (Contains-cons_cases (states_of e) (map states_of es) (p, q) c) [
  | inl here ↦ or_left (same e p q) (is_listed es p q) (same_yes e p q (ap (λ (x : ℕ × ℕ). x.0) here) (ap (λ (x : ℕ × ℕ). x.1) here))
  | inr there ↦ or_right (same e p q) (is_listed es p q) (test-from_listed es p q there)
]

pub all_listed-from_test : (es : List Entry) (ps qs : List ℕ) → all_listed es ps qs ≡ true → AllListed es ps qs
all_listed-from_test es [] [] h = tt
all_listed-from_test es [] (q ∷ qs) h = absurd (not_both h refl)
all_listed-from_test es (p ∷ ps) [] h = absurd (not_both h refl)
all_listed-from_test es (p ∷ ps) (q ∷ qs) h =
    (listed-from_test es p q (and_left (is_listed es p q) (all_listed es ps qs) h), all_listed-from_test es ps qs (and_right (is_listed es p q) (all_listed es ps qs) h))

pub test-from_all_listed : (es : List Entry) (ps qs : List ℕ) → AllListed es ps qs → all_listed es ps qs ≡ true
test-from_all_listed es [] [] h = refl
test-from_all_listed es [] (q ∷ qs) h = absurd h
test-from_all_listed es (p ∷ ps) [] h = absurd h
test-from_all_listed es (p ∷ ps) (q ∷ qs) h =
    and_both (is_listed es p q) (all_listed es ps qs) (test-from_listed es p q h.0) (test-from_all_listed es ps qs h.1)

-- the entry of a pair that is listed
pub listed-place : (es : List Entry) (p q : ℕ) → IsListed es p q → (k : ℕ) × (e : Entry) × (slice_get es k ≡ Some e) × (e.p ≡ p) × (e.q ≡ q)
listed-place [] p q c = absurd (Contains-none {A = ℕ × ℕ} (p, q) c)
listed-place (e ∷ es) p q c = elim (Contains-cons_cases (states_of e) (map states_of es) (p, q) c) [
  | inl here ↦ (0, e, refl, ap (λ (x : ℕ × ℕ). x.0) here, ap (λ (x : ℕ × ℕ). x.1) here)
  | inr there ↦ let w = listed-place es p q there in (suc w.0, w.1, w.2, w.3, w.4)
]
