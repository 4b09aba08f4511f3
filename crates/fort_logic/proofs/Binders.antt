-- The binders of the translation say what they are called, bound or left out: "some", "every", "infinitely many".
use Rattle.std.specs.Prelude.{◌≡◌, ◌↔◌, ℕ, Bool, true, false, if◌then◌else◌, [], refl}
use Rattle.std.proofs.Common.{sym, ap, ◌∙◌}
use Rattle.fort_theory.specs.Logic.{HasSome, HasInfinitelyMany, And}
use Rattle.fort_theory.specs.Trees.{Tree, Node, Nil}
use Rattle.fort_theory.specs.Signatures.{IsGround, HasConstant}
use Rattle.fort_theory.specs.Structures.{Structure}
use Rattle.fort_theory.specs.Cores.{Core, Not, Binary, Exists, Infinite}
use Rattle.fort_theory.specs.CoreTruth.{Places, with_number, IsMetBy}
use Rattle.fort_theory.specs.Parts.{is_free}
use Rattle.fort_logic.specs.Translation.{some, every, equal, infinitely_many, implies}
use Rattle.fort_theory.proofs.CorePlaces.{IsMetBy-stable, IsMetBy-agree, with_number-other}

free_elsewhere : (n k : ℕ) (c : Core) → is_free n c ≡ false → is_free k c ≡ true → k ≡ n → ⊥
free_elsewhere n k c bound free same = let said : is_free n c ≡ true = ap (λ i. is_free i c) (sym same) ∙ free in cc

module _ (structure : Structure) where
  abbrev pub Met : Core → Places → Type 0
  Met c v = IsMetBy structure c v

  -- the tree of a number that isn't free doesn't matter
  pub Met-unbound : (n : ℕ) (c : Core) (v : Places) (t : Tree) → is_free n c ≡ false → Met c v ↔ Met c (with_number v n t)
  Met-unbound n c v t bound = (
    IsMetBy-agree structure c v (with_number v n t) (λ k free. sym (with_number-other v n t k (free_elsewhere n k c bound free))),
    IsMetBy-agree structure c (with_number v n t) v (λ k free. with_number-other v n t k (free_elsewhere n k c bound free)),
  )

  pub Met-some : HasConstant structure.signature → (n : ℕ) (c : Core) (v : Places)
      → Met (some n c) v ↔ HasSome (λ t. IsGround structure.signature t × Met c (with_number v n t))
  Met-some constant n c v = by (is_free n c) refl
    where
      by : (b : Bool) → is_free n c ≡ b → Met (if b then Exists n c else c) v ↔ HasSome (λ t. IsGround structure.signature t × Met c (with_number v n t))
      by true is = ((λ h. h), (λ h. h))
      by false is = (
        (λ h none. none (Node constant.0 Nil) ((constant.1, tt), (Met-unbound n c v (Node constant.0 Nil) is).0 h)),
        (λ found. IsMetBy-stable structure c v (λ no. found (λ t k. no ((Met-unbound n c v t is).1 k.1)))),
      )

  pub Met-every : HasConstant structure.signature → (n : ℕ) (c : Core) (v : Places)
      → Met (every n c) v ↔ ((t : Tree) → IsGround structure.signature t → Met c (with_number v n t))
  Met-every constant n c v = (
    (λ h t is_ground. IsMetBy-stable structure c (with_number v n t) (λ no. h ((Met-some constant n (Not c) v).1 (λ none. none t (is_ground, no))))),
    (λ all none. (Met-some constant n (Not c) v).0 none (λ t k. k.1 (all t k.0))),
  )

  pub Met-infinitely_many : (n : ℕ) (c : Core) (v : Places)
      → Met (infinitely_many n c) v ↔ HasInfinitelyMany (λ t. IsGround structure.signature t × Met c (with_number v n t))
  Met-infinitely_many n c v = by (is_free n c) refl
    where
      by : (b : Bool) → is_free n c ≡ b
          → Met (if b then Infinite n c else Binary And c (Infinite n (equal n n))) v ↔ HasInfinitelyMany (λ t. IsGround structure.signature t × Met c (with_number v n t))
      by true is = ((λ h. h), (λ h. h))
      by false is = (
        (λ h ts none. h.1 ts (λ t k. none t (k.0, (k.1.0, (Met-unbound n c v t is).0 h.0)))),
        (λ many. (
          IsMetBy-stable structure c v (λ no. many [] (λ t k. no ((Met-unbound n c v t is).1 k.1.1))),
          (λ ts none. many ts (λ t k. none t (k.0, (k.1.0, (λ no. no refl))))),
        )),
      )

  pub Met-implies : (c d : Core) (v : Places) → Met (implies c d) v ↔ (Met c v → Met d v)
  Met-implies c d v = (
    (λ h yes. IsMetBy-stable structure d v (λ no. h (λ not_c. not_c yes) no)),
    (λ h no_not no. no_not (λ yes. no (h yes))),
  )
