-- The facts that are written at a node are those of the rule.
use Rattle.std.specs.Prelude.{◌≡◌, ℕ, ◌+◌, List, [], ◌∷◌, map, Option, Bool, ◌&&◌, ◌||◌, refl}
use Rattle.std.proofs.Common.{ap, ◌∙◌, arith}
use Rattle.fort_theory.specs.Patterns.{Pattern, Pair}
use Rattle.fort_theory.specs.Cores.{Rel, Eq, Root, Below, Step, Par, Plus, Star, Conv}
use Rattle.fort_alike.specs.Atoms.{EqKind, StepKind, BelowKind, ParKind, StarKind, PlusKind, kind_for}
use Rattle.fort_alike.specs.Alike.{Fact, facts_of, is_reaching}
use Rattle.fort_alike.specs.ListedAtoms.{Mark, OfBoth}
use Rattle.fort_alike.specs.AtomRules.{all_kids, one_kid, some_kid, same_roots, root_test, fact_step}
use Rattle.fort_label_bits.specs.RowBits.{bit_of}
use Rattle.fort_context_closure.specs.FactTests.{fact_bit, fact_test}

module _ (base : ℕ) (equal root : Bool) (ws : List (List ℕ)) where
  pub facts-Eq : (a : Bool) → a ≡ (equal && all_kids (bit_of base) ws) → a ∷ [] ≡ map (fact_test (fact_bit EqKind base) equal root ws) (facts_of EqKind)
  facts-Eq a e =
      let z : base ≡ base + 0 = omega arith in
      ap (λ y. y ∷ []) e ∙ ap (λ n. (equal && all_kids (bit_of n) ws) ∷ []) z

  pub facts-Step : (a b : Bool) → a ≡ (equal && all_kids (bit_of base) ws) → b ≡ (equal && one_kid (bit_of (base + 1)) (bit_of base) ws)
      → a ∷ (root || b) ∷ [] ≡ map (fact_test (fact_bit StepKind base) equal root ws) (facts_of StepKind)
  facts-Step a b e h =
      let z : base ≡ base + 0 = omega arith in
      ap (λ y. y ∷ (root || b) ∷ []) e
      ∙ (ap (λ y. (equal && all_kids (bit_of base) ws) ∷ (root || y) ∷ []) h
      ∙ ap (λ n. (equal && all_kids (bit_of n) ws) ∷ (root || (equal && one_kid (bit_of (base + 1)) (bit_of n) ws)) ∷ []) z)

  pub facts-Below : (a b : Bool) → a ≡ (equal && all_kids (bit_of base) ws) → b ≡ (equal && one_kid (bit_of (base + 1)) (bit_of base) ws)
      → a ∷ (root || b) ∷ b ∷ [] ≡ map (fact_test (fact_bit BelowKind base) equal root ws) (facts_of BelowKind)
  facts-Below a b e h =
      let z : base ≡ base + 0 = omega arith in
      ap (λ y. y ∷ (root || b) ∷ b ∷ []) e
      ∙ (ap (λ y. (equal && all_kids (bit_of base) ws) ∷ (root || y) ∷ y ∷ []) h
      ∙ ap
      (λ n. (equal && all_kids (bit_of n) ws) ∷ (root || (equal && one_kid (bit_of (base + 1)) (bit_of n) ws)) ∷ (equal && one_kid (bit_of (base + 1)) (bit_of n) ws) ∷ [])
      z)

  pub facts-Par : (a : Bool) → a ≡ (equal && all_kids (bit_of base) ws)
      → (root || a) ∷ [] ≡ map (fact_test (fact_bit ParKind base) equal root ws) (facts_of ParKind)
  facts-Par a e =
      let z : base ≡ base + 0 = omega arith in
      ap (λ y. (root || y) ∷ []) e ∙ ap (λ n. (root || (equal && all_kids (bit_of n) ws)) ∷ []) z

  pub facts-Star : (a : Bool) → a ≡ (equal && all_kids (bit_of base) ws)
      → (root || a) ∷ [] ≡ map (fact_test (fact_bit StarKind base) equal root ws) (facts_of StarKind)
  facts-Star a e =
      let z : base ≡ base + 0 = omega arith in
      ap (λ y. (root || y) ∷ []) e ∙ ap (λ n. (root || (equal && all_kids (bit_of n) ws)) ∷ []) z

  pub facts-Plus : (a b : Bool) → a ≡ (equal && all_kids (bit_of base) ws)
      → b ≡ (equal && (all_kids (bit_of base) ws && some_kid (bit_of (base + 1)) ws))
      → (root || a) ∷ (root || b) ∷ [] ≡ map (fact_test (fact_bit PlusKind base) equal root ws) (facts_of PlusKind)
  facts-Plus a b e h =
      let z : base ≡ base + 0 = omega arith in
      ap (λ y. (root || y) ∷ (root || b) ∷ []) e
      ∙ (ap (λ y. (root || (equal && all_kids (bit_of base) ws)) ∷ (root || y) ∷ []) h
      ∙ ap
      (λ n. (root || (equal && all_kids (bit_of n) ws)) ∷ (root || (equal && (all_kids (bit_of n) ws && some_kid (bit_of (base + 1)) ws))) ∷ [])
      z)

-- by the rule's bits, its test of the roots and its test of a root step
module _ (bit : Mark → List ℕ → Bool) (pairs : List Pair) (closure : Pattern → Pattern → Bool) (x y : Option ℕ) (ws : List (List ℕ)) where
  rule-facts : (rel : Rel)
      → map (fact_test (λ k. bit (OfBoth k)) (same_roots x y) (root_test (is_reaching (kind_for rel)) bit pairs closure x y ws) ws) (facts_of (kind_for rel))
      ≡ map (fact_step (is_reaching (kind_for rel)) bit pairs closure x y ws) (facts_of (kind_for rel))
  rule-facts Eq = refl
  rule-facts Root = refl
  rule-facts Below = refl
  rule-facts Step = refl
  rule-facts Par = refl
  rule-facts Plus = refl
  rule-facts Star = refl
  rule-facts Conv = refl

  pub facts-are : (rel : Rel) (base : ℕ) (equal root : Bool)
      → ((k : Fact) (w : List ℕ) → fact_bit (kind_for rel) base k w ≡ bit (OfBoth k) w)
      → equal ≡ same_roots x y → root ≡ root_test (is_reaching (kind_for rel)) bit pairs closure x y ws
      → map (fact_test (fact_bit (kind_for rel) base) equal root ws) (facts_of (kind_for rel))
      ≡ map (fact_step (is_reaching (kind_for rel)) bit pairs closure x y ws) (facts_of (kind_for rel))
  facts-are rel base equal root reads e h =
      (λ i. map (fact_test (λ k w. reads k w i) (e i) (h i) ws) (facts_of (kind_for rel))) ∙ rule-facts rel
