-- The tuple of an assignment's terms: on an operand's columns, and with a binder's term put in.
use Rattle.std.specs.Prelude.{◌≡◌, ℕ, zero, suc, List, [], ◌∷◌, length, get_or, Some, None, Contains, refl}
use Rattle.std.specs.List.{insert}
use Rattle.std.proofs.Common.{ap, sym, ◌∙◌, subst, eq-eqb, inl, inr}
use Rattle.std.proofs.lemmas.List.{length-map, get_or-map}
use Rattle.std.proofs.lemmas.Bool.{cases_eq}
use Rattle.fort_theory.specs.Trees.{Tree}
use Rattle.fort_theory.specs.Signatures.{Signature, IsGround}
use Rattle.fort_theory.proofs.Members.{Contains-head, Contains-behind}
use Rattle.fort_theory.specs.CoreTruth.{Places, with_number}
use Rattle.fort_tables.specs.Tuples.{IsFull, AreGroundColumns}
use Rattle.fort_tables.proofs.EqualTests.{test_from_apart}
use Rattle.fort_alike.specs.AssignedTuples.{tuple_of}
use Rattle.fort_tables.specs.Selections.{selected}
use Rattle.fort_parts.specs.PartColumns.{place_in, places_in}
use Rattle.fort_parts.specs.PartAnswers.{AreGround}
use Rattle.fort_parts.specs.PartSteps.{AreTerms}
use Rattle.fort_parts.proofs.PartColumnLaws.{place_of-member}

-- Result: on the columns of an operand it is the operand's
pub selected-tuple_of : (v : Places) (xs zs : List ℕ) → ((n : ℕ) → Contains xs n → Contains zs n) → selected (places_in zs xs) (tuple_of v zs) ≡ tuple_of v xs
selected-tuple_of v [] zs within = refl
selected-tuple_of v (x ∷ xs) zs within =
    let at = place_of-member zs x (within x (Contains-head x xs)) in
    let head : get_or (tuple_of v zs) (place_in zs x) None ≡ Some (v x) = get_or-map (λ n. Some (v n)) zs (place_in zs x) 0 None at.within ∙ ap (λ n. Some (v n)) at.is in
    let rest = selected-tuple_of v xs zs (λ n c. within n (Contains-behind x xs n c)) in
    λ i. head i ∷ rest i

with_number-here : (v : Places) (n : ℕ) (u : Tree) → with_number v n u n ≡ u
with_number-here v n u = rw (eq-eqb n n refl) refl

with_number-other : (v : Places) (n : ℕ) (u : Tree) (m : ℕ) → (m ≡ n → ⊥) → with_number v n u m ≡ v m
with_number-other v n u m other = rw (test_from_apart m n other) refl

untouched : (v : Places) (n : ℕ) (u : Tree) (ys : List ℕ) → (Contains ys n → ⊥) → tuple_of v ys ≡ tuple_of (with_number v n u) ys
untouched v n u [] none = refl
untouched v n u (y ∷ ys) none =
    let head = with_number-other v n u y (λ e. none (subst (Contains (y ∷ ys)) e (Contains-head y ys))) in
    let rest = untouched v n u ys (λ c. none (Contains-behind y ys n c)) in
    λ i. Some (sym head i) ∷ rest i

-- Result: with a binder's term put in, it is that of the changed assignment
pub insert-tuple_of : (v : Places) (n : ℕ) (u : Tree) (c : ℕ) (ys : List ℕ) → (Contains ys n → ⊥)
    → insert (tuple_of v ys) c (Some u) ≡ tuple_of (with_number v n u) (insert ys c n)
insert-tuple_of v n u zero ys none = let head = with_number-here v n u in let rest = untouched v n u ys none in λ i. Some (sym head i) ∷ rest i
insert-tuple_of v n u (suc c) [] none = let head = with_number-here v n u in λ i. Some (sym head i) ∷ []
insert-tuple_of v n u (suc c) (y ∷ ys) none =
    let head = with_number-other v n u y (λ e. none (subst (Contains (y ∷ ys)) e (Contains-head y ys))) in
    let rest = insert-tuple_of v n u c ys (λ m. none (Contains-behind y ys n m)) in
    λ i. Some (sym head i) ∷ rest i

pub AreGround-with_number : (sig : Signature) (v : Places) (n : ℕ) (u : Tree) → AreGround sig v → IsGround sig u → AreGround sig (with_number v n u)
AreGround-with_number sig v n u all one m =
    elim (cases_eq m n) [
      | inl e ↦ subst (λ k. IsGround sig (with_number v n u k)) (sym e) (subst (IsGround sig) (sym (with_number-here v n u)) one)
      | inr other ↦ subst (IsGround sig) (sym (with_number-other v n u m other)) (all m)
    ]

grounded-tuple_of : (sig : Signature) (v : Places) (ns : List ℕ) → AreGround sig v → AreGroundColumns sig (tuple_of v ns)
grounded-tuple_of sig v [] g = tt
grounded-tuple_of sig v (n ∷ ns) g = (g n, grounded-tuple_of sig v ns g)

full-tuple_of : (v : Places) (ns : List ℕ) → IsFull (tuple_of v ns)
full-tuple_of v [] = tt
full-tuple_of v (n ∷ ns) = full-tuple_of v ns

pub AreTerms-tuple_of : (sig : Signature) (v : Places) (ns : List ℕ) → AreGround sig v → AreTerms sig (length ns) (tuple_of v ns)
AreTerms-tuple_of sig v ns g = record { width = length-map ns (λ n. Some (v n)); full = full-tuple_of v ns; grounded = grounded-tuple_of sig v ns g }
