-- The meaning of an expression over root relations that hold of the same terms is the same, and it is between ground terms where they are.
use Rattle.std.specs.Prelude.{◌↔◌, ℕ}
use Rattle.std.proofs.Common.{inl, inr}
use Rattle.fort_theory.specs.Trees.{Tree, Trees, Node, Nil, More}
use Rattle.fort_theory.specs.Signatures.{Signature}
use Rattle.fort_theory.specs.Rewriting.{Relation}
use Rattle.fort_theory.proofs.GroundSteps.{RelatesGround, Reduces-keeps_ground, Reduces-comes_from_ground, RewritesInParallel-keeps_ground, RewritesInParallel-comes_from_ground}
use Rattle.fort_theory.proofs.WithinRoots.{Within, Reduces-within, RewritesInParallel-within}
use Rattle.fort_theory.specs.Expressions.{Expression, RootSteps, Inverse, Union, Composition, Closure, Means}
use Rattle.fort_theory.specs.Contexts.{Context, Contexts, Hole, Over, NoContext, MoreContexts, Fills, AllFill, HoleNumber, HolePlace, HoldsInContext}

-- what one relates, the other does
module _ (roots larger : ℕ → Relation) (within : (index : ℕ) → Within (roots index) (larger index)) where
  pub Means-within : (e : Expression) → Within (Means roots e) (Means larger e)
  Means-within (RootSteps index) s t h = within index s t h
  Means-within (Inverse e) s t h = Means-within e t s h
  Means-within (Union a b) s t h = elim h [ inl k ↦ inl (Means-within a s t k) | inr k ↦ inr (Means-within b s t k) ]
  Means-within (Composition a b) s t h = elim h [
    | inl w ↦ inl (w.0, Means-within a s w.0 w.1, RewritesInParallel-within (Means roots b) (Means larger b) (Means-within b) w.0 t w.2)
    | inr w ↦ inr (w.0, RewritesInParallel-within (Means roots a) (Means larger a) (Means-within a) s w.0 w.1, Means-within b w.0 t w.2)
  ]
  Means-within (Closure e) s t h = (
    h.0,
    h.1,
    Reduces-within (Means roots e) (Means larger e) (Means-within e) s h.0 h.2,
    Means-within e h.0 h.1 h.3,
    Reduces-within (Means roots e) (Means larger e) (Means-within e) h.1 t h.4,
  )

pub Means-same : (roots others : ℕ → Relation) → ((index : ℕ) (s t : Tree) → roots index s t ↔ others index s t) → (e : Expression) (s t : Tree)
    → Means roots e s t ↔ Means others e s t
Means-same roots others same e s t =
    (Means-within roots others (λ i u v. (same i u v).0) e s t, Means-within others roots (λ i u v. (same i u v).1) e s t)

module _ (signature : Signature) (roots : ℕ → Relation) (between : (index : ℕ) → RelatesGround signature (roots index)) where
  pub RelatesGround-Means : (e : Expression) → RelatesGround signature (Means roots e)
  RelatesGround-Means (RootSteps index) s t h = between index s t h
  RelatesGround-Means (Inverse e) s t h = let w = RelatesGround-Means e t s h in (w.1, w.0)
  RelatesGround-Means (Union a b) s t h = elim h [ inl k ↦ RelatesGround-Means a s t k | inr k ↦ RelatesGround-Means b s t k ]
  RelatesGround-Means (Composition a b) s t h = elim h [
    | inl w ↦
        let g = RelatesGround-Means a s w.0 w.1 in
        (g.0, RewritesInParallel-keeps_ground signature (Means roots b) (RelatesGround-Means b) w.0 t w.2 g.1)
    | inr w ↦
        let g = RelatesGround-Means b w.0 t w.2 in
        (RewritesInParallel-comes_from_ground signature (Means roots a) (RelatesGround-Means a) s w.0 w.1 g.0, g.1)
  ]
  RelatesGround-Means (Closure e) s t h =
      let g = RelatesGround-Means e h.0 h.1 h.3 in (
        Reduces-comes_from_ground signature (Means roots e) (RelatesGround-Means e) s h.0 h.2 g.0,
        Reduces-keeps_ground signature (Means roots e) (RelatesGround-Means e) h.1 t h.4 g.1,
      )

-- the atoms
mutual
  Fills-within : (r q : Relation) → Within r q → (c : Context) → Within (Fills r c) (Fills q c)
  Fills-within r q w Hole s t h = w s t h
  Fills-within r q w (Over f cs) (Node g ss) (Node k ts) h = (h.0, h.1, AllFill-within r q w cs ss ts h.2)

  AllFill-within : (r q : Relation) → Within r q → (cs : Contexts) (ss ts : Trees) → AllFill r cs ss ts → AllFill q cs ss ts
  AllFill-within r q w NoContext Nil Nil h = h
  AllFill-within r q w NoContext Nil (More t ts) h = absurd h
  AllFill-within r q w NoContext (More s ss) ts h = absurd h
  AllFill-within r q w (MoreContexts c cs) Nil ts h = absurd h
  AllFill-within r q w (MoreContexts c cs) (More s ss) Nil h = absurd h
  AllFill-within r q w (MoreContexts c cs) (More s ss) (More t ts) h = (Fills-within r q w c s t h.0, AllFill-within r q w cs ss ts h.1)

pub HoldsInContext-within : (r q : Relation) → Within r q → (number : HoleNumber) (place : HolePlace) → Within (HoldsInContext r number place) (HoldsInContext q number place)
HoldsInContext-within r q w number place s t h = record {
  context = h.context;
  number_is = h.number_is;
  place_is = h.place_is;
  fills = Fills-within r q w h.context s t h.fills;
}

pub HoldsInContext-same : (r q : Relation) → ((s t : Tree) → r s t ↔ q s t) → (number : HoleNumber) (place : HolePlace) (s t : Tree)
    → HoldsInContext r number place s t ↔ HoldsInContext q number place s t
HoldsInContext-same r q same number place s t =
    (HoldsInContext-within r q (λ u v. (same u v).0) number place s t, HoldsInContext-within q r (λ u v. (same u v).1) number place s t)
