-- One pass over some moves: marks stay, as many marks are the same marks, and what it marks has what the moves hand on.
use Rattle.std.proofs.Common.{◌≡◌, ℕ, zero, suc, ◌+◌, ◌<◌, ◌≤◌, List, [], ◌∷◌, Bool, true, false, cond, length, get_or, ap, sym, ◌∙◌, refl, subst, arith, Option, Some, None, inl, inr, ◌⊎◌, count_by}
use Rattle.std.specs.Prelude.{Contains}
use Rattle.std.proofs.Math.ListN.{set}
use Rattle.std.proofs.lemmas.Bool.{cases_Bool, cases_lt, cases_eq}
use Rattle.std.proofs.lemmas.List.{get_or-set_same, get_or-set_other, set-get_or, length-set}
use Rattle.std.proofs.lemmas.List.Sums.{sum_by-set}
use Rattle.fort_theory.proofs.Members.{Contains-head, Contains-behind, Contains-cons_cases, Contains-none}
use Rattle.fort_tree_automata.proofs.Truths.{not_both}
use Rattle.fort_tree_automata.specs.Marks.{marked, with_each, with_any}
use Rattle.fort_tree_automata.specs.InhabitedStates.{IsMarked}

abbrev pub trues : List Bool → ℕ
trues fs = count_by (λ b. b) fs

count_set : (fs : List Bool) (i : ℕ) → i < length fs → get_or fs i false ≡ false → trues (set fs i true) ≡ trues fs + 1
count_set fs i lt h =
    let f : Bool → ℕ = λ b. cond b 1 0 in
    let k : f (get_or fs i false) ≡ 0 = ap f h in
    omega (arith, sum_by-set f fs i true false lt)

set_past : (fs : List Bool) (q : ℕ) → length fs ≤ q → set fs q true ≡ fs
set_past [] q h = refl
set_past (f ∷ fs) zero h = absurd (omega arith)
set_past (f ∷ fs) (suc q) h = ap (λ x. f ∷ x) (set_past fs q (omega arith))

-- a mark that was there, or one more
set_cases : (fs : List Bool) (q : ℕ) → ((set fs q true ≡ fs) × (q < length fs → IsMarked fs q)) ⊎ (trues (set fs q true) ≡ trues fs + 1)
set_cases fs q = elim (cases_lt q (length fs)) [
  | inl lt ↦ elim (cases_Bool (get_or fs q false)) [
    | inl t ↦ inl (ap (set fs q) (sym t) ∙ set-get_or fs q false, λ _. t)
    | inr f ↦ inr (count_set fs q lt f)
  ]
  | inr past ↦ inl (set_past fs q past, λ lt. absurd (omega arith))
]

set_keeps : (fs : List Bool) (q r : ℕ) → IsMarked fs r → IsMarked (set fs q true) r
set_keeps fs q r h = elim (cases_eq r q) [
  | inl e ↦ elim (cases_lt q (length fs)) [
    | inl lt ↦ ap (λ i. get_or (set fs q true) i false) e ∙ get_or-set_same fs q true false lt
    | inr past ↦ ap (λ gs. get_or gs r false) (set_past fs q past) ∙ h
  ]
  | inr ne ↦ get_or-set_other fs q r true false ne ∙ h
]

-- ---- from some marks to others

pub record Stays (fs gs : List Bool) : Type 0 where
  pub length_same : length gs ≡ length fs
  pub grows : trues fs ≤ trues gs
  pub keeps : (q : ℕ) → IsMarked fs q → IsMarked gs q

pub Stays-same : (fs : List Bool) → Stays fs fs
Stays-same fs = record { length_same = refl; grows = omega arith; keeps = λ q h. h }

pub Stays-then : (fs gs hs : List Bool) → Stays fs gs → Stays gs hs → Stays fs hs
Stays-then fs gs hs a b = record {
  length_same = b.length_same ∙ a.length_same;
  grows = omega (arith, a.grows, b.grows);
  keeps = λ q h. b.keeps q (a.keeps q h);
}

Stays-marked : (fs : List Bool) (b : Bool) (q : ℕ) → Stays fs (marked fs b q)
Stays-marked fs false q = Stays-same fs
Stays-marked fs true q = record {
  length_same = length-set fs q true;
  grows = elim (set_cases fs q) [ inl w ↦ (let k : trues (set fs q true) ≡ trues fs = ap trues w.0 in omega arith) | inr h ↦ omega arith ];
  keeps = set_keeps fs q;
}

-- a truth that marks a state has marked it
abbrev pub Wakes : List Bool → Bool → ℕ → Type 0
Wakes fs b q = b ≡ true → q < length fs → IsMarked fs q

marked_same : (fs : List Bool) (b : Bool) (q : ℕ) → trues (marked fs b q) ≡ trues fs → (marked fs b q ≡ fs) × Wakes fs b q
marked_same fs false q h = (refl, λ e. absurd (not_both e refl))
marked_same fs true q h = elim (set_cases fs q) [ inl w ↦ (w.0, λ _ lt. w.1 lt) | inr k ↦ absurd (omega arith) ]

-- each marked state has this property
abbrev pub Have : (ℕ → Type 0) → List Bool → Type 0
Have P fs = (q : ℕ) → IsMarked fs q → P q

set_have : (P : ℕ → Type 0) (fs : List Bool) (q : ℕ) → Have P fs → P q → Have P (set fs q true)
set_have P fs q l p r h = elim (cases_eq r q) [
  | inl e ↦ subst P (sym e) p
  | inr ne ↦ l r (sym (get_or-set_other fs q r true false ne) ∙ h)
]

marked_have : (P : ℕ → Type 0) (fs : List Bool) (b : Bool) (q : ℕ) → Have P fs → (b ≡ true → P q) → Have P (marked fs b q)
marked_have P fs false q l p = l
marked_have P fs true q l p = set_have P fs q l (p refl)

module _ {M : Type 0} (wakes : List Bool → M → Bool) (target : M → ℕ) where
  pub Stays-each : (ms : List M) (fs : List Bool) → Stays fs (with_each wakes target ms fs)
  Stays-each [] fs = Stays-same fs
  Stays-each (m ∷ ms) fs =
      let gs = marked fs (wakes fs m) (target m) in
      Stays-then fs gs (with_each wakes target ms gs) (Stays-marked fs (wakes fs m) (target m)) (Stays-each ms gs)

  -- no more marks after the first move, if there are none at the end
  first_same : (m : M) (ms : List M) (fs : List Bool) → trues (with_each wakes target (m ∷ ms) fs) ≡ trues fs
      → (marked fs (wakes fs m) (target m) ≡ fs) × Wakes fs (wakes fs m) (target m)
  first_same m ms fs h =
      let gs = marked fs (wakes fs m) (target m) in
      let rest = Stays-each ms gs in
      let first = Stays-marked fs (wakes fs m) (target m) in
      marked_same fs (wakes fs m) (target m) (omega (arith, rest.grows, first.grows))

  pub each-same : (ms : List M) (fs : List Bool) → trues (with_each wakes target ms fs) ≡ trues fs → with_each wakes target ms fs ≡ fs
  each-same [] fs h = refl
  each-same (m ∷ ms) fs h =
      let w = first_same m ms fs h in
      let gs = marked fs (wakes fs m) (target m) in
      let e : trues gs ≡ trues fs = ap trues w.0 in
      each-same ms gs (h ∙ sym e) ∙ w.0

  pub each-woken : (ms : List M) (fs : List Bool) → trues (with_each wakes target ms fs) ≡ trues fs → (m : M) → Contains ms m → Wakes fs (wakes fs m) (target m)
  each-woken [] fs h m c = absurd (Contains-none m c)
  each-woken (x ∷ ms) fs h m c =
      let w = first_same x ms fs h in
      let gs = marked fs (wakes fs x) (target x) in
      let e : trues gs ≡ trues fs = ap trues w.0 in
      elim (Contains-cons_cases x ms m c) [
        | inl here ↦ subst (λ y. Wakes fs (wakes fs y) (target y)) here w.1
        | inr there ↦ subst (λ y. Wakes y (wakes y m) (target m)) w.0 (each-woken ms gs (h ∙ sym e) m there)
      ]

  pub each-have : (P : ℕ → Type 0) (ms : List M) (fs : List Bool)
      → ((gs : List Bool) (m : M) → Contains ms m → Have P gs → wakes gs m ≡ true → P (target m)) → Have P fs → Have P (with_each wakes target ms fs)
  each-have P [] fs step l = l
  each-have P (m ∷ ms) fs step l =
      each-have P ms (marked fs (wakes fs m) (target m))
      (λ gs x c have w. step gs x (Contains-behind m ms x c) have w)
      (marked_have P fs (wakes fs m) (target m) l (λ w. step fs m (Contains-head m ms) l w))

-- moves that don't look at the marks
module _ {M : Type 0} (wakes : M → Bool) (target : M → ℕ) where
  pub each-marked : (ms : List M) (fs : List Bool) (m : M) → Contains ms m → wakes m ≡ true → target m < length fs
      → IsMarked (with_each (λ _. wakes) target ms fs) (target m)
  each-marked [] fs m c w lt = absurd (Contains-none m c)
  each-marked (x ∷ ms) fs m c w lt =
      let gs = marked fs (wakes x) (target x) in
      let first = Stays-marked fs (wakes x) (target x) in
      let rest = Stays-each (λ _. wakes) target ms gs in
      elim (Contains-cons_cases x ms m c) [
        | inl here ↦ rest.keeps (target m)
            (rw (here, w) (get_or-set_same fs (target m) true false lt))
        | inr there ↦ each-marked ms gs m there w (omega (arith, first.length_same))
      ]

pub Stays-any : (fs : List Bool) (any : Option ℕ) → Stays fs (with_any fs any)
Stays-any fs None = Stays-same fs
Stays-any fs (Some q) = Stays-marked fs true q

pub any-marked : (fs : List Bool) (any : Option ℕ) (q : ℕ) → any ≡ Some q → q < length fs → IsMarked (with_any fs any) q
any-marked fs any q e lt = rw e (get_or-set_same fs q true false lt)

pub any-have : (P : ℕ → Type 0) (fs : List Bool) (any : Option ℕ) → ((q : ℕ) → any ≡ Some q → P q) → Have P fs → Have P (with_any fs any)
any-have P fs None step l = l
any-have P fs (Some q) step l = set_have P fs q l (step q refl)
