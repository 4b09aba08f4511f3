-- Tuples that may be one child under a tuple symbol have the same columns; Any holds of each column that is there.
use Rattle.std.specs.Prelude.{◌≡◌, ℕ, zero, suc, List, [], ◌∷◌, Option, None, Some, get_or, Bool, true, false, ◌&&◌, ◌||◌, refl}
use Rattle.std.proofs.Common.{arith}
use Rattle.fort_theory.specs.Trees.{Node}
use Rattle.fort_theory.specs.Signatures.{Signature}
use Rattle.fort_theory.specs.Patterns.{Pattern, Any, Pair}
use Rattle.fort_tables.specs.Tuples.{Tuple, TupleSymbol, root, FitsKid}
use Rattle.fort_alike.specs.ListedAtoms.{Mark}
use Rattle.fort_alike.specs.AtomRules.{any_pair, is_there, first_step, second_step}

pub there-same : (sig : Signature) (f : TupleSymbol) (j : ℕ) (t u : Tuple) (c : ℕ) → FitsKid sig f j t → FitsKid sig f j u
    → is_there (get_or (root t) c None) ≡ is_there (get_or (root u) c None)
there-same sig [] j [] [] c h k = refl
there-same sig [] j [] (y ∷ u) c h k = absurd k
there-same sig [] j (x ∷ t) u c h k = absurd h
there-same sig (None ∷ f) j [] u c h k = absurd h
there-same sig (None ∷ f) j (None ∷ t) [] c h k = absurd k
there-same sig (None ∷ f) j (None ∷ t) (None ∷ u) zero h k = refl
there-same sig (None ∷ f) j (None ∷ t) (None ∷ u) (suc c) h k = there-same sig f j t u c h k
there-same sig (None ∷ f) j (None ∷ t) (Some y ∷ u) c h k = absurd k
there-same sig (None ∷ f) j (Some x ∷ t) u c h k = absurd h
there-same sig (Some g ∷ f) j [] u c h k = absurd h
there-same sig (Some g ∷ f) j (None ∷ t) [] c h k = absurd k
there-same sig (Some g ∷ f) j (None ∷ t) (None ∷ u) zero h k = refl
there-same sig (Some g ∷ f) j (None ∷ t) (None ∷ u) (suc c) h k = there-same sig f j t u c h.1 k.1
there-same sig (Some g ∷ f) j (None ∷ t) (Some y ∷ u) c h k = absurd (omega (arith, h.0, k.0))
there-same sig (Some g ∷ f) j (Some x ∷ t) [] c h k = absurd k
there-same sig (Some g ∷ f) j (Some x ∷ t) (None ∷ u) c h k = absurd (omega (arith, h.0, k.0))
there-same sig (Some g ∷ f) j (Some (Node a ts) ∷ t) (Some (Node b us) ∷ u) zero h k = refl
there-same sig (Some g ∷ f) j (Some (Node a ts) ∷ t) (Some (Node b us) ∷ u) (suc c) h k = there-same sig f j t u c h.1 k.1

-- no rule has a side at a column that is absent
none-first : (rs : List Pair) → any_pair (λ r. false) rs ≡ false
none-first [] = refl
none-first (r ∷ rs) = none-first rs

and-false : (b : Bool) → (b && false) ≡ false
and-false true = refl
and-false false = refl

none-second : (test : Pair → Bool) (rs : List Pair) → any_pair (λ r. test r && false) rs ≡ false
none-second test [] = refl
none-second test (r ∷ rs) = let here = and-false (test r) in let rest = none-second test rs in λ i. here i || rest i

module _ (bit : Mark → List ℕ → Bool) (pairs : List Pair) (closure : Pattern → Pattern → Bool) (ws : List (List ℕ)) where
  pub first-any : (reaching : Bool) (x : Option ℕ) → first_step reaching bit pairs closure x ws Any ≡ is_there x
  first-any false None = refl
  first-any false (Some f) = refl
  first-any true None = none-first pairs
  first-any true (Some f) = refl

  pub second-any : (reaching : Bool) (y : Option ℕ) → second_step reaching bit pairs closure y ws Any ≡ is_there y
  second-any false None = refl
  second-any false (Some f) = refl
  second-any true None = none-second (λ r. closure Any r.0) pairs
  second-any true (Some f) = refl
