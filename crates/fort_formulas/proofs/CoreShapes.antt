-- The subformulas of a core formula of the program, by its shape, and that it is no atom of an expression.
use Rattle.std.proofs.Common.{◌≡◌, ◌↔◌, ℕ, true, false, ◌++◌, ◌∷◌, [], ◌⊎◌, inl, inr, refl, ap}
use Rattle.fort_theory.specs.Trees.{Tree}
use Rattle.fort_theory.specs.Cores as theory
use Rattle.fort_theory.specs.Logic as logic
use Rattle.fort_theory.specs.Parts.{postorder, HasManyRootsAt}
use Rattle.fort_relations.specs.declared.relation.Rel as relation
use Rattle.fort_relations.specs.declared.rex.Rex.{Rex}
use Rattle.fort_relations.specs.declared.holes.Holes.{Holes}
use Rattle.fort_relations.specs.declared.holes.Place.{Place}
use Rattle.fort_formulas.specs.declared.core_formula.Core.{Core}
use Rattle.fort_formulas.specs.declared.core_formula.Core.TheVariants.{True, Atom, Rel, Nf, Is, Not, And, Or, Iff, Exists, Infinite}
use Rattle.fort_formulas.specs.CoreView.{as_core}

pub postorder-leaf : (c : Core)
    → (c ≡ True) ⊎ (((r : relation.Rel) × (index : ℕ) × (x : ℕ) × (y : ℕ) × (c ≡ Atom r index x y))
    ⊎ ((r : Rex) × (holes : Holes) × (place : Place) × (x : ℕ) × (y : ℕ) × (c ≡ Rel r holes place x y)))
    → postorder (as_core c) ≡ as_core c ∷ []
postorder-leaf c (inl e) = rw e refl
postorder-leaf c (inr (inl (r, index, x, y, e))) = rw e refl
postorder-leaf c (inr (inr (r, holes, place, x, y, e))) = rw e refl

-- of one variable
pub postorder-variable : (c : Core) (x : ℕ) → ((index : ℕ) × (c ≡ Nf index x)) ⊎ ((t : Tree) × (c ≡ Is x t)) → postorder (as_core c) ≡ as_core c ∷ []
postorder-variable c x (inl (index, e)) = rw e refl
postorder-variable c x (inr (t, e)) = rw e refl

pub postorder-one : (c : Core) (f : theory.Core) → (c ≡ Not f) ⊎ (((n : ℕ) × (c ≡ Exists n f)) ⊎ ((n : ℕ) × (c ≡ Infinite n f)))
    → postorder (as_core c) ≡ postorder f ++ as_core c ∷ []
postorder-one c f (inl e) = rw e refl
postorder-one c f (inr (inl (n, e))) = rw e refl
postorder-one c f (inr (inr (n, e))) = rw e refl

pub binary : (c : Core) (f g : theory.Core) → (c ≡ And f g) ⊎ ((c ≡ Or f g) ⊎ (c ≡ Iff f g))
    → (op : logic.Connective) × (as_core c ≡ theory.Binary op f g)
binary c f g (inl e) = (logic.And, ap as_core e)
binary c f g (inr (inl e)) = (logic.Or, ap as_core e)
binary c f g (inr (inr e)) = (logic.Iff, ap as_core e)

pub postorder-two : (c : Core) (f g : theory.Core) → (c ≡ And f g) ⊎ ((c ≡ Or f g) ⊎ (c ≡ Iff f g))
    → postorder (as_core c) ≡ postorder f ++ (postorder g ++ as_core c ∷ [])
postorder-two c f g is = rw (binary c f g is).1 refl

-- a binder
pub postorder-bound : (c : Core) (n : ℕ) (f : theory.Core) → (c ≡ Exists n f) ⊎ (c ≡ Infinite n f)
    → postorder (as_core c) ≡ postorder f ++ as_core c ∷ []
postorder-bound c n f (inl e) = rw e refl
postorder-bound c n f (inr e) = rw e refl

-- ---- no atom of an expression

pub short-leaf : (c : Core) → (c ≡ True) ⊎ ((r : relation.Rel) × (index : ℕ) × (x : ℕ) × (y : ℕ) × (c ≡ Atom r index x y)) → HasManyRootsAt (as_core c) → ⊥
short-leaf c (inl e) long = rw e at long
short-leaf c (inr (r, index, x, y, e)) long = rw e at long

pub short-variable : (c : Core) (x : ℕ) → ((index : ℕ) × (c ≡ Nf index x)) ⊎ ((t : Tree) × (c ≡ Is x t)) → HasManyRootsAt (as_core c) → ⊥
short-variable c x (inl (index, e)) long = rw e at long
short-variable c x (inr (t, e)) long = rw e at long

pub short-one : (c : Core) (f : theory.Core) → (c ≡ Not f) ⊎ (((n : ℕ) × (c ≡ Exists n f)) ⊎ ((n : ℕ) × (c ≡ Infinite n f))) → HasManyRootsAt (as_core c) → ⊥
short-one c f (inl e) long = rw e at long
short-one c f (inr (inl (n, e))) long = rw e at long
short-one c f (inr (inr (n, e))) long = rw e at long

pub short-two : (c : Core) (f g : theory.Core) → (c ≡ And f g) ⊎ ((c ≡ Or f g) ⊎ (c ≡ Iff f g)) → HasManyRootsAt (as_core c) → ⊥
short-two c f g is long = rw (binary c f g is).1 at long

pub short-bound : (c : Core) (n : ℕ) (f : theory.Core) → (c ≡ Exists n f) ⊎ (c ≡ Infinite n f) → HasManyRootsAt (as_core c) → ⊥
short-bound c n f (inl e) long = rw e at long
short-bound c n f (inr e) long = rw e at long

-- a formula is told short where it is
pub told-short : (h : theory.Core) → (HasManyRootsAt h → ⊥) → (false ≡ true) ↔ HasManyRootsAt h
told-short h short = (λ e. absurd cc, λ long. absurd (short long))
