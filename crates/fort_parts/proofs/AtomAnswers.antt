-- What the atoms' tables say: over the terms of an assignment an atom is true exactly where its relation holds of them.
use Rattle.std.specs.Prelude.{◌≡◌, ◌↔◌, ℕ, [], ◌∷◌, length, Bool, Decides, Some, None, get_or, refl}
use Rattle.std.proofs.Common.{sym, subst}
use Rattle.fort_theory.specs.Trees.{Tree}
use Rattle.fort_theory.specs.Signatures.{Signature}
use Rattle.fort_theory.specs.Sides.{at_index}
use Rattle.fort_theory.specs.Patterns.{PatternSystem}
use Rattle.fort_theory.specs.PatternSteps.{PatternStep, PatternStepAt}
use Rattle.fort_theory.specs.Rewriting.{Relation}
use Rattle.fort_theory.specs.Logic.{Surely}
use Rattle.fort_theory.specs.Cores as core
use Rattle.fort_theory.specs.Cores.{Rel, Core}
use Rattle.fort_theory.specs.CoreTruth.{Places, RelatesBy, IsMetBy}
use Rattle.fort_theory.specs.PatternStructures.{pattern_structure}
use Rattle.fort_tables.specs.Tuples.{Tuple, IsTuple, IsFull}
use Rattle.fort_tables.specs.Tables.{Table}
use Rattle.fort_alike.specs.Atoms.{OfOne, OfTwo, HoldsBy, kind_for, pairs_for, relation_atom, normal_atom, IsTrueOfTuple}
use Rattle.fort_alike.specs.ExpressionAlike as expressions
use Rattle.fort_alike.specs.ExpressionAlike.{expression_atom}
use Rattle.fort_theory.specs.Expressions.{Expression, Means}
use Rattle.fort_theory.specs.Contexts.{HoleNumber, HolePlace, HoldsInContext}
use Rattle.fort_alike.specs.AssignedTuples.{tuple_of}
use Rattle.fort_alike.proofs.AtomPlaces.{place_of, ArePlaces-columns}
use Rattle.fort_alike.proofs.AtomTruth.{Says-RelatesBy, get_or-tuple_of, Decides-Surely}
use Rattle.fort_tables.specs.OperationTruth.{accepts}
use Rattle.fort_parts.specs.PartColumns.{columns_of}
use Rattle.fort_parts.specs.PartAnswers.{OfTable, said, AreGround, TellsTruth}
use Rattle.fort_parts.proofs.PartColumnLaws.{AreColumns-columns_of, columns_of-Normal, columns_of-IsTerm}
use Rattle.fort_parts.proofs.AssignedColumns.{AreTerms-tuple_of}
use Rattle.fort_parts.proofs.StepTables.{IsTuple-terms}

-- a table that accepts tuples of terms exactly where P holds of them
abbrev pub AcceptsExactly : Signature → ℕ → Table → (Tuple → Type 0) → Type 0
AcceptsExactly sig columns table P = (t : Tuple) → IsTuple sig columns t → IsFull t → Decides (accepts table t) (P t)

module _ (system : PatternSystem) (table : Table) where
  -- the relation of an atom
  IsTrueOf-relation : (rel : Rel) (index x y : ℕ) (v : Places)
      → IsTrueOfTuple (relation_atom system rel index x y (columns_of (core.Leaf (core.Related rel index x y)))) (tuple_of v (columns_of (core.Leaf (core.Related rel index x y))))
      ↔ RelatesBy (PatternStepAt system index) rel (v x) (v y)
  IsTrueOf-relation rel index x y v =
      let columns = columns_of (core.Leaf (core.Related rel index x y)) in
      let places = ArePlaces-columns rel index x y columns (AreColumns-columns_of (core.Leaf (core.Related rel index x y))) in
      let R : Relation = HoldsBy (PatternStep system.signature (pairs_for rel (at_index index system.rules))) (kind_for rel) in
      subst (λ z. OfTwo R z (get_or (tuple_of v columns) (place_of y columns) None) ↔ RelatesBy (PatternStepAt system index) rel (v x) (v y))
      (sym (get_or-tuple_of v columns (place_of x columns) x places.first_within places.first_is))
      (subst (λ z. OfTwo R (Some (v x)) z ↔ RelatesBy (PatternStepAt system index) rel (v x) (v y))
      (sym (get_or-tuple_of v columns (place_of y columns) y places.second_within places.second_is))
      (Says-RelatesBy system.signature (at_index index system.rules) rel (v x) (v y)))

  surely : (b : Bool) (P Q : Type 0) → P ↔ Q → Decides b P → Decides b (Surely Q)
  surely b P Q w d = Decides-Surely b ((λ e. w.0 (d.0 e)), (λ q. d.1 (w.1 q)))

  pub TellsTruth-Atom : (rel : Rel) (index x y : ℕ)
      → AcceptsExactly system.signature (length (columns_of (core.Leaf (core.Related rel index x y)))) table (IsTrueOfTuple (relation_atom system rel index x y (columns_of (core.Leaf (core.Related rel index x y)))))
      → TellsTruth (pattern_structure system) (core.Leaf (core.Related rel index x y)) (said (OfTable table))
  TellsTruth-Atom rel index x y exactly v grounded =
      let columns = columns_of (core.Leaf (core.Related rel index x y)) in
      let places = ArePlaces-columns rel index x y columns (AreColumns-columns_of (core.Leaf (core.Related rel index x y))) in
      let terms = AreTerms-tuple_of system.signature v columns grounded in
      surely (accepts table (tuple_of v columns)) _ _ (IsTrueOf-relation rel index x y v)
      (exactly (tuple_of v columns) (IsTuple-terms system.signature (length columns) (tuple_of v columns) places.some terms) terms.full)

  -- the relation of an expression
  pub IsTrueOf-expression : (e : Expression) (number : HoleNumber) (place : HolePlace) (x y : ℕ) (v : Places)
      → expressions.IsTrueOf (expression_atom system e number place x y (columns_of (core.Leaf (core.InContext e number place x y))))
      (tuple_of v (columns_of (core.Leaf (core.InContext e number place x y))))
      ↔ HoldsInContext (Means (PatternStepAt system) e) number place (v x) (v y)
  IsTrueOf-expression e number place x y v =
      let columns = columns_of (core.Leaf (core.InContext e number place x y)) in
      let places = ArePlaces-columns core.Eq 1 x y columns (AreColumns-columns_of (core.Leaf (core.Related core.Eq 1 x y))) in
      let R : Relation = HoldsInContext (Means (PatternStepAt system) e) number place in
      subst (λ z. OfTwo R z (get_or (tuple_of v columns) (place_of y columns) None) ↔ R (v x) (v y))
      (sym (get_or-tuple_of v columns (place_of x columns) x places.first_within places.first_is))
      (subst (λ z. OfTwo R (Some (v x)) z ↔ R (v x) (v y))
      (sym (get_or-tuple_of v columns (place_of y columns) y places.second_within places.second_is))
      ((λ h. h), (λ h. h)))

  -- accepted where the atom doesn't fail
  pub TellsTruth-Expression : (e : Expression) (number : HoleNumber) (place : HolePlace) (x y : ℕ)
      → AcceptsExactly system.signature (length (columns_of (core.Leaf (core.InContext e number place x y)))) table
      (λ t. Surely (expressions.IsTrueOf (expression_atom system e number place x y (columns_of (core.Leaf (core.InContext e number place x y)))) t))
      → TellsTruth (pattern_structure system) (core.Leaf (core.InContext e number place x y)) (said (OfTable table))
  TellsTruth-Expression e number place x y exactly v grounded =
      let columns = columns_of (core.Leaf (core.InContext e number place x y)) in
      let places = ArePlaces-columns core.Eq 1 x y columns (AreColumns-columns_of (core.Leaf (core.Related core.Eq 1 x y))) in
      let terms = AreTerms-tuple_of system.signature v columns grounded in
      let d = exactly (tuple_of v columns) (IsTuple-terms system.signature (length columns) (tuple_of v columns) places.some terms) terms.full in
      let w = IsTrueOf-expression e number place x y v in
      ((λ h not. d.0 h (λ p. not (w.0 p))), (λ p. d.1 (λ not. p (λ q. not (w.1 q)))))

  one_term : (x : ℕ) (v : Places) → AreGround system.signature v → IsTuple system.signature 1 (Some (v x) ∷ [])
  one_term x v grounded = record { width = refl; present = tt; grounded = (grounded x, tt) }

  pub TellsTruth-Nf : (index x : ℕ) → AcceptsExactly system.signature 1 table (IsTrueOfTuple (normal_atom system index))
      → TellsTruth (pattern_structure system) (core.Leaf (core.Normal index x)) (said (OfTable table))
  TellsTruth-Nf index x exactly v grounded =
      subst (λ ns. Decides (accepts table (tuple_of v ns)) (IsMetBy (pattern_structure system) (core.Leaf (core.Normal index x)) v)) (sym (columns_of-Normal index x))
      (exactly (Some (v x) ∷ []) (one_term x v grounded) tt)

  pub TellsTruth-Is : (x : ℕ) (term : Tree) → AcceptsExactly system.signature 1 table (λ t. OfOne (λ s. s ≡ term) (get_or t 0 None))
      → TellsTruth (pattern_structure system) (core.Leaf (core.IsTerm x term)) (said (OfTable table))
  TellsTruth-Is x term exactly v grounded =
      subst (λ ns. Decides (accepts table (tuple_of v ns)) (IsMetBy (pattern_structure system) (core.Leaf (core.IsTerm x term)) v)) (sym (columns_of-IsTerm x term))
      (surely (accepts table (Some (v x) ∷ [])) _ _ ((λ e. e), (λ e. e)) (exactly (Some (v x) ∷ []) (one_term x v grounded) tt))
