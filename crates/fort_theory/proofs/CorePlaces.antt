-- Truth of a core formula is stable, and depends on the trees of its free numbers alone.
use Rattle.std.specs.Prelude.{◌≡◌, ℕ, Bool, true, false, not, ◌&&◌, ◌==◌, if◌then◌else◌, refl}
use Rattle.std.proofs.Common.{sym, ap, subst, ◌∙◌}
use Rattle.std.proofs.lemmas.Bool.{or_left, or_right}
use Rattle.std.proofs.lemmas.Bool.Decides.{Decides-eqb}
use Rattle.fort_theory.specs.Logic.{Surely}
use Rattle.fort_theory.specs.Trees.{Tree}
use Rattle.fort_theory.specs.Rewriting.{IsNormalForm}
use Rattle.fort_theory.specs.Expressions.{Means}
use Rattle.fort_theory.specs.Contexts.{HoldsInContext}
use Rattle.fort_theory.specs.Structures.{Structure}
use Rattle.fort_theory.specs.Cores.{Atom, Related, InContext, Normal, IsTerm, Core, True, Leaf, Not, Binary, Exists, Infinite}
use Rattle.fort_theory.specs.CoreTruth.{Places, with_number, RelatesBy, AtomHolds, IsMetBy}
use Rattle.fort_theory.specs.Parts.{stands_in, is_free}
use Rattle.fort_theory.proofs.ConnectedLaws.{Connected-along, Connected-stable}

AtomHolds-stable : (structure : Structure) (a : Atom) (v : Places) → Surely (AtomHolds structure a v) → AtomHolds structure a v
AtomHolds-stable structure (Related rel index x y) v h = λ no. h (λ yes. yes no)
AtomHolds-stable structure (InContext e number place x y) v h = λ no. h (λ yes. yes no)
AtomHolds-stable structure (Normal index x) v h = λ t s. h (λ n. n t s)
AtomHolds-stable structure (IsTerm x t) v h = λ no. h (λ yes. yes no)

pub IsMetBy-stable : (structure : Structure) (c : Core) (v : Places) → Surely (IsMetBy structure c v) → IsMetBy structure c v
IsMetBy-stable structure True v h = tt
IsMetBy-stable structure (Leaf a) v h = AtomHolds-stable structure a v h
IsMetBy-stable structure (Not f) v h = λ yes. h (λ no. no yes)
IsMetBy-stable structure (Binary op f g) v h = Connected-stable op (IsMetBy-stable structure f v) (IsMetBy-stable structure g v) h
IsMetBy-stable structure (Exists n f) v h = λ none. h (λ some. some none)
IsMetBy-stable structure (Infinite n f) v h = λ ts none. h (λ many. many ts none)

true_not_false : true ≡ false → ⊥
true_not_false h = cc

same_number : (n k : ℕ) → (k == n) ≡ false → k ≡ n → ⊥
same_number n k is e = true_not_false (sym ((Decides-eqb k n).1 e) ∙ is)

pub with_number-same : (v : Places) (n : ℕ) (t : Tree) → with_number v n t n ≡ t
with_number-same v n t = ap (λ b. if b then t else v n) ((Decides-eqb n n).1 refl)

pub with_number-other : (v : Places) (n : ℕ) (t : Tree) (k : ℕ) → (k ≡ n → ⊥) → with_number v n t k ≡ v k
with_number-other v n t k other = by (k == n) refl
  where
    by : (b : Bool) → (k == n) ≡ b → with_number v n t k ≡ v k
    by true is = absurd (other ((Decides-eqb k n).0 is))
    by false is = ap (λ b. if b then t else v k) is

-- two places that agree but for one number agree once it has one tree in both
pub with_number-agree : (v w : Places) (n : ℕ) (t : Tree) (k : ℕ) → ((k ≡ n → ⊥) → v k ≡ w k) → with_number v n t k ≡ with_number w n t k
with_number-agree v w n t k same = by (k == n) refl
  where
    by : (b : Bool) → (k == n) ≡ b → with_number v n t k ≡ with_number w n t k
    by true is = ap (λ b. if b then t else v k) is ∙ sym (ap (λ b. if b then t else w k) is)
    by false is = ap (λ b. if b then t else v k) is ∙ (same (same_number n k is) ∙ sym (ap (λ b. if b then t else w k) is))

-- free below a binder of another number
free_outside : (x n : ℕ) (b : Bool) → (n ≡ x → ⊥) → b ≡ true → (not (x == n) && b) ≡ true
free_outside x n b other h = by (x == n) refl
  where
    by : (c : Bool) → (x == n) ≡ c → (not (x == n) && b) ≡ true
    by true is = absurd (other (sym ((Decides-eqb x n).0 is)))
    by false is = ap (λ c. not c && b) is ∙ h

-- where the atom's numbers have the same trees
AtomHolds-agree : (structure : Structure) (a : Atom) (v w : Places) → ((n : ℕ) → stands_in n a ≡ true → v n ≡ w n)
    → AtomHolds structure a v → AtomHolds structure a w
AtomHolds-agree structure (Related rel index x y) v w same h =
    let first = same x (or_left (x == x) (y == x) ((Decides-eqb x x).1 refl)) in
    let second = same y (or_right (x == y) (y == y) ((Decides-eqb y y).1 refl)) in
    subst (λ t. Surely (RelatesBy (structure.root index) rel t (w y))) first (subst (λ t. Surely (RelatesBy (structure.root index) rel (v x) t)) second h)
AtomHolds-agree structure (InContext e number place x y) v w same h =
    let first = same x (or_left (x == x) (y == x) ((Decides-eqb x x).1 refl)) in
    let second = same y (or_right (x == y) (y == y) ((Decides-eqb y y).1 refl)) in
    subst (λ t. Surely (HoldsInContext (Means structure.root e) number place t (w y))) first
    (subst (λ t. Surely (HoldsInContext (Means structure.root e) number place (v x) t)) second h)
AtomHolds-agree structure (Normal index x) v w same h = subst (IsNormalForm (structure.root index)) (same x ((Decides-eqb x x).1 refl)) h
AtomHolds-agree structure (IsTerm x t) v w same h = subst (λ s. Surely (s ≡ t)) (same x ((Decides-eqb x x).1 refl)) h

-- where the free numbers have the same trees
pub IsMetBy-agree : (structure : Structure) (c : Core) (v w : Places) → ((n : ℕ) → is_free n c ≡ true → v n ≡ w n)
    → IsMetBy structure c v → IsMetBy structure c w
IsMetBy-agree structure True v w same h = tt
IsMetBy-agree structure (Leaf a) v w same h = AtomHolds-agree structure a v w same h
IsMetBy-agree structure (Not f) v w same h = λ yes. h (IsMetBy-agree structure f w v (λ n free. sym (same n free)) yes)
IsMetBy-agree structure (Binary op f g) v w same h =
    let in_f : (n : ℕ) → is_free n f ≡ true → v n ≡ w n = λ n free. same n (or_left (is_free n f) (is_free n g) free) in
    let in_g : (n : ℕ) → is_free n g ≡ true → v n ≡ w n = λ n free. same n (or_right (is_free n f) (is_free n g) free) in
    Connected-along op
    (IsMetBy-agree structure f v w in_f, IsMetBy-agree structure f w v (λ n free. sym (in_f n free)))
    (IsMetBy-agree structure g v w in_g, IsMetBy-agree structure g w v (λ n free. sym (in_g n free))) h
IsMetBy-agree structure (Exists x f) v w same h = λ none. h (λ t k. none t (
  k.0,
  IsMetBy-agree structure f (with_number v x t) (with_number w x t)
      (λ n free. with_number-agree v w x t n (λ other. same n (free_outside x n (is_free n f) other free))) k.1,
))
IsMetBy-agree structure (Infinite x f) v w same h = λ ts none. h ts (λ t k. none t (
  k.0,
  (
    k.1.0,
    IsMetBy-agree structure f (with_number v x t) (with_number w x t)
        (λ n free. with_number-agree v w x t n (λ other. same n (free_outside x n (is_free n f) other free))) k.1.1,
  ),
))
