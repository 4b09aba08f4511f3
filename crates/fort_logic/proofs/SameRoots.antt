-- A result, which no proof cites: structures over one signature whose root steps relate the same trees have the same formulas true.
use Rattle.std.specs.Prelude.{◌↔◌, ℕ, All, Some, None}
use Rattle.fort_theory.specs.Trees.{Tree}
use Rattle.fort_theory.specs.Signatures.{Signature, HasConstant}
use Rattle.fort_theory.specs.Sides.{at_index, System, IsLinearSeparated}
use Rattle.fort_theory.specs.Patterns.{pattern_system}
use Rattle.fort_theory.specs.Rewriting.{Relation, RootStepAt}
use Rattle.fort_theory.specs.PatternSteps.{PatternStepAt}
use Rattle.fort_theory.proofs.IndexLaws.{at_index-map, All-at_index}
use Rattle.fort_theory.proofs.WithinRoots.{Within, Rewrites-within, RewritesBelow-within, RewritesAtMostOnce-within, RewritesEitherWay-within, Reduces-within, ReducesStrictly-within, Converts-within, RewritesInParallel-within, IsNormalForm-within}
use Rattle.fort_theory.proofs.PatternSteps.{PatternStep-from_RootStep, RootStep-from_PatternStep}
use Rattle.fort_theory.proofs.TerminationWithin.{IsTerminating-within}
use Rattle.fort_theory.specs.Expressions.{Means}
use Rattle.fort_theory.proofs.MeaningLaws.{Means-within, HoldsInContext-within}
use Rattle.fort_theory.proofs.SameCoreRoots.{over}
use Rattle.fort_logic.specs.Formulas.{SurfaceRel, Eq, Step, Star, Plus, Reflexive, Normal, Root, Below, Par, Either, Conv, Property, Cr, Wcr, Scr, Wn, Unr, Unc, Nfp, Formula, True, False, Related, InContext, Nf, Join, Sn, Has, Com, Not, And, Or, Imp, Iff, Exists, Forall, Infinite}
use Rattle.fort_theory.specs.Structures.{structure_of}
use Rattle.fort_theory.specs.PatternStructures.{pattern_structure}
use Rattle.fort_logic.specs.Truth.{Assignment, with_name, Relates, AreJoinable, HasProperty, Commute, Holds}

module _ (r q : Relation) (w : Within r q) (back : Within q r) where
  pub Relates-same_root : (rel : SurfaceRel) → Within (Relates r rel) (Relates q rel)
  Relates-same_root Eq s t h = h
  Relates-same_root Step s t h = Rewrites-within r q w s t h
  Relates-same_root Star s t h = Reduces-within r q w s t h
  Relates-same_root Plus s t h = ReducesStrictly-within r q w s t h
  Relates-same_root Reflexive s t h = RewritesAtMostOnce-within r q w s t h
  Relates-same_root Normal s t h = (Reduces-within r q w s t h.0, IsNormalForm-within q r back t h.1)
  Relates-same_root Root s t h = w s t h
  Relates-same_root Below s t h = RewritesBelow-within r q w s t h
  Relates-same_root Par s t h = RewritesInParallel-within r q w s t h
  Relates-same_root Either s t h = RewritesEitherWay-within r q w s t h
  Relates-same_root Conv s t h = Converts-within r q w s t h

module _ (signature : Signature) (r q : ℕ → Relation) (w : (i : ℕ) → Within (r i) (q i)) (back : (i : ℕ) → Within (q i) (r i)) where
  pub AreJoinable-same_root : (i : ℕ) (s t : Tree) → AreJoinable (over signature r) i s t → AreJoinable (over signature q) i s t
  AreJoinable-same_root i s t h none = h (λ u k. none u (k.0, Reduces-within (r i) (q i) (w i) s u k.1, Reduces-within (r i) (q i) (w i) t u k.2))

  pub HasProperty-same_root : (i : ℕ) (p : Property) → HasProperty (over signature r) i p → HasProperty (over signature q) i p
  HasProperty-same_root i Cr h = λ s t u gs gt gu a b.
      AreJoinable-same_root i t u (h s t u gs gt gu (Reduces-within (q i) (r i) (back i) s t a) (Reduces-within (q i) (r i) (back i) s u b))
  HasProperty-same_root i Wcr h = λ s t u gs gt gu a b.
      AreJoinable-same_root i t u (h s t u gs gt gu (Rewrites-within (q i) (r i) (back i) s t a) (Rewrites-within (q i) (r i) (back i) s u b))
  HasProperty-same_root i Scr h = λ s t u gs gt gu a b none.
      h s t u gs gt gu (Rewrites-within (q i) (r i) (back i) s t a) (Rewrites-within (q i) (r i) (back i) s u b)
      (λ v k. none v (k.0, RewritesAtMostOnce-within (r i) (q i) (w i) t v k.1, Reduces-within (r i) (q i) (w i) u v k.2))
  HasProperty-same_root i Wn h = λ s gs none.
      h s gs (λ t k. none t (k.0, Reduces-within (r i) (q i) (w i) s t k.1, IsNormalForm-within (q i) (r i) (back i) t k.2))
  HasProperty-same_root i Unr h = λ s t u gs gt gu a b nt nu.
      h s t u gs gt gu (Reduces-within (q i) (r i) (back i) s t a) (Reduces-within (q i) (r i) (back i) s u b) (IsNormalForm-within (r i) (q i) (w i) t nt) (IsNormalForm-within (r i) (q i) (w i) u nu)
  HasProperty-same_root i Unc h = λ s t gs gt a ns nt.
      h s t gs gt (Converts-within (q i) (r i) (back i) s t a) (IsNormalForm-within (r i) (q i) (w i) s ns) (IsNormalForm-within (r i) (q i) (w i) t nt)
  HasProperty-same_root i Nfp h = λ s t gs gt a nt none.
      h s t gs gt (Converts-within (q i) (r i) (back i) s t a) (IsNormalForm-within (r i) (q i) (w i) t nt) (λ k. none (Reduces-within (r i) (q i) (w i) s t k))

  pub Commute-same_root : Commute (over signature r) → Commute (over signature q)
  Commute-same_root h = λ s t u gs gt gu a b none.
      h s t u gs gt gu (Reduces-within (q 1) (r 1) (back 1) s t a) (Reduces-within (q 2) (r 2) (back 2) s u b)
      (λ v k. none v (k.0, Reduces-within (r 2) (q 2) (w 2) t v k.1, Reduces-within (r 1) (q 1) (w 1) u v k.2))

-- by recursion on the formula, both ways at once: a negation turns the direction
pub Holds-same_root : (signature : Signature) (r q : ℕ → Relation) → ((i : ℕ) → Within (r i) (q i)) → ((i : ℕ) → Within (q i) (r i))
    → (f : Formula) (m : Assignment) → Holds (over signature r) f m ↔ Holds (over signature q) f m
Holds-same_root signature r q w back True m = ((λ h. h), (λ h. h))
Holds-same_root signature r q w back False m = ((λ h. h), (λ h. h))
Holds-same_root signature r q w back (Related rel a b i) m = (
  (λ h no. h (λ k. no (Relates-same_root (r i) (q i) (w i) (back i) rel (m a) (m b) k))),
  (λ h no. h (λ k. no (Relates-same_root (q i) (r i) (back i) (w i) rel (m a) (m b) k))),
)
Holds-same_root signature r q w back (InContext e number place a b) m = (
  (λ h no. h (λ k. no (HoldsInContext-within (Means r e) (Means q e) (Means-within r q w e) number place (m a) (m b) k))),
  (λ h no. h (λ k. no (HoldsInContext-within (Means q e) (Means r e) (Means-within q r back e) number place (m a) (m b) k))),
)
Holds-same_root signature r q w back (Nf a i) m = (IsNormalForm-within (q i) (r i) (back i) (m a), IsNormalForm-within (r i) (q i) (w i) (m a))
Holds-same_root signature r q w back (Join a b i) m =
    (AreJoinable-same_root signature r q w back i (m a) (m b), AreJoinable-same_root signature q r back w i (m a) (m b))
Holds-same_root signature r q w back (Sn (Some a) i) m = (IsTerminating-within (q i) (r i) (back i) (m a), IsTerminating-within (r i) (q i) (w i) (m a))
Holds-same_root signature r q w back (Sn None i) m = (
  (λ all s gs. IsTerminating-within (q i) (r i) (back i) s (all s gs)),
  (λ all s gs. IsTerminating-within (r i) (q i) (w i) s (all s gs)),
)
Holds-same_root signature r q w back (Has p i) m =
    (HasProperty-same_root signature r q w back i p, HasProperty-same_root signature q r back w i p)
Holds-same_root signature r q w back Com m = (Commute-same_root signature r q w back, Commute-same_root signature q r back w)
Holds-same_root signature r q w back (Not f) m =
    let k = Holds-same_root signature r q w back f m in
    ((λ no h. no (k.1 h)), (λ no h. no (k.0 h)))
Holds-same_root signature r q w back (And f g) m =
    let k = Holds-same_root signature r q w back f m in
    let l = Holds-same_root signature r q w back g m in
    ((λ h. (k.0 h.0, l.0 h.1)), (λ h. (k.1 h.0, l.1 h.1)))
Holds-same_root signature r q w back (Or f g) m =
    let k = Holds-same_root signature r q w back f m in
    let l = Holds-same_root signature r q w back g m in
    ((λ h no_f no_g. h (λ a. no_f (k.0 a)) (λ b. no_g (l.0 b))), (λ h no_f no_g. h (λ a. no_f (k.1 a)) (λ b. no_g (l.1 b))))
Holds-same_root signature r q w back (Imp f g) m =
    let k = Holds-same_root signature r q w back f m in
    let l = Holds-same_root signature r q w back g m in
    ((λ h a. l.0 (h (k.1 a))), (λ h a. l.1 (h (k.0 a))))
Holds-same_root signature r q w back (Iff f g) m =
    let k = Holds-same_root signature r q w back f m in
    let l = Holds-same_root signature r q w back g m in
    ((λ h. ((λ a. l.0 (h.0 (k.1 a))), (λ b. k.0 (h.1 (l.1 b))))), (λ h. ((λ a. l.1 (h.0 (k.0 a))), (λ b. k.1 (h.1 (l.0 b))))))
Holds-same_root signature r q w back (Exists x f) m = (
  (λ h none. h (λ t k. none t (k.0, (Holds-same_root signature r q w back f (with_name m x t)).0 k.1))),
  (λ h none. h (λ t k. none t (k.0, (Holds-same_root signature r q w back f (with_name m x t)).1 k.1))),
)
Holds-same_root signature r q w back (Forall x f) m = (
  (λ h t g. (Holds-same_root signature r q w back f (with_name m x t)).0 (h t g)),
  (λ h t g. (Holds-same_root signature r q w back f (with_name m x t)).1 (h t g)),
)
Holds-same_root signature r q w back (Infinite x f) m = (
  (λ h ts none. h ts (λ t k. none t (k.0, (k.1.0, (Holds-same_root signature r q w back f (with_name m x t)).0 k.1.1)))),
  (λ h ts none. h ts (λ t k. none t (k.0, (k.1.0, (Holds-same_root signature r q w back f (with_name m x t)).1 k.1.1)))),
)

-- truth by rules and truth by the rules' patterns
pub Holds-by_patterns : (system : System) → HasConstant system.signature → All (All IsLinearSeparated) system.rules → (f : Formula) (m : Assignment)
    → Holds (structure_of system) f m ↔ Holds (pattern_structure (pattern_system system)) f m
Holds-by_patterns system constant apart =
    Holds-same_root system.signature (RootStepAt system) (PatternStepAt (pattern_system system))
    (λ i s t h. rw at_index-map (PatternStep-from_RootStep system.signature (at_index i system.rules) s t h))
    (λ i s t h. RootStep-from_PatternStep system.signature (at_index i system.rules) constant (All-at_index IsLinearSeparated i system.rules apart) s t
    (rw at_index-map at h))
