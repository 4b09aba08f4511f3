-- Results for whoever decides part by part: a table by the labels of an atom answers it.
use Rattle.std.specs.Prelude.{◌≡◌, ◌↔◌, ℕ, ◌<◌, List, length, Bool, Decides, None, get_or, refl}
use Rattle.std.proofs.Common.{ap, sym, ◌∙◌, subst, arith}
use Rattle.fort_theory.specs.Logic.{Surely}
use Rattle.fort_theory.specs.Trees.{Tree}
use Rattle.fort_theory.specs.Patterns.{PatternSystem}
use Rattle.fort_theory.specs.Cores as core
use Rattle.fort_theory.specs.Cores.{Rel, Core}
use Rattle.fort_theory.specs.PatternStructures.{pattern_structure}
use Rattle.fort_tables.specs.Tuples.{Tuple, IsTuple, IsFull}
use Rattle.fort_tables.specs.Tables.{Table}
use Rattle.fort_tables.specs.Labels.{Labelling}
use Rattle.fort_tables.specs.LabelRules.{IsTableBy}
use Rattle.fort_alike.specs.Atoms.{OfOne, relation_atom, normal_atom, IsTrueOfTuple}
use Rattle.fort_alike.specs.Alike.{Alike}
use Rattle.fort_alike.specs.ExpressionAlike as expressions
use Rattle.fort_alike.specs.ExpressionAlike.{expression_atom}
use Rattle.fort_alike.specs.AlikeAtTerm.{AlikeAtTerm}
use Rattle.fort_alike.proofs.AtomPlaces.{ArePlaces-columns}
use Rattle.fort_alike.proofs.AtomTruth.{Decides-Surely}
use Rattle.fort_theory.specs.Expressions.{Expression}
use Rattle.fort_theory.specs.Contexts.{HoleNumber, HolePlace}
use Rattle.fort_tables.specs.OperationTruth.{accepts}
use Rattle.fort_parts.specs.PartColumns.{columns_of}
use Rattle.fort_parts.specs.PartAnswers.{OfTable, said, TellsTruth, IsAnswerTo}
use Rattle.fort_parts.specs.PartLabels.{LabelsTellAlike}
use Rattle.fort_parts.proofs.PartColumnLaws.{AreColumns-columns_of, columns_of-Normal, columns_of-IsTerm}
use Rattle.fort_parts.proofs.StepTables.{IsTableOver-labels}
use Rattle.fort_parts.proofs.AtomAnswers.{AcceptsExactly, TellsTruth-Atom, TellsTruth-Expression, TellsTruth-Nf, TellsTruth-Is}

-- the labels of tuples of terms are accepted exactly where P holds of the tuple
abbrev pub AcceptsLabels : PatternSystem → ℕ → Labelling → (List ℕ → Bool) → (Tuple → Type 0) → Type 0
AcceptsLabels system columns label accepting P =
    (t : Tuple) → IsTuple system.signature columns t → IsFull t → Decides (accepting (label t)) (P t)

module _ (system : PatternSystem) (label : Labelling) (accepting : List ℕ → Bool) (table : Table) where
  by_table : (n : ℕ) (P : Tuple → Type 0) → IsTableBy system.signature n label accepting table → AcceptsLabels system n label accepting P
      → AcceptsExactly system.signature n table P
  by_table n P by exactly t is full =
      let d = exactly t is full in
      let e : accepts table t ≡ accepting (label t) = by.full t is full in
      ((λ h. d.0 (sym e ∙ h)), (λ p. e ∙ d.1 p))

  answer : (f : Core) → 0 < length (columns_of f) → TellsTruth (pattern_structure system) f (said (OfTable table))
      → IsTableBy system.signature (length (columns_of f)) label accepting table → IsAnswerTo (pattern_structure system) f (OfTable table)
  answer f some truth by = record {
    over = IsTableOver-labels system.signature (columns_of f) (length (columns_of f)) table label accepting some refl by;
    truth = truth;
  }

  pub IsAnswerTo-Atom : (rel : Rel) (index x y : ℕ)
      → AcceptsLabels system (length (columns_of (core.Leaf (core.Related rel index x y)))) label accepting (IsTrueOfTuple (relation_atom system rel index x y (columns_of (core.Leaf (core.Related rel index x y)))))
      → IsTableBy system.signature (length (columns_of (core.Leaf (core.Related rel index x y)))) label accepting table
      → IsAnswerTo (pattern_structure system) (core.Leaf (core.Related rel index x y)) (OfTable table)
  IsAnswerTo-Atom rel index x y exactly by =
      let f = core.Leaf (core.Related rel index x y) in
      answer f (ArePlaces-columns rel index x y (columns_of f) (AreColumns-columns_of f)).some
      (TellsTruth-Atom system table rel index x y (by_table (length (columns_of f)) _ by exactly)) by

  -- accepted where the atom doesn't fail
  pub IsAnswerTo-Expression_surely : (e : Expression) (number : HoleNumber) (place : HolePlace) (x y : ℕ)
      → AcceptsLabels system (length (columns_of (core.Leaf (core.InContext e number place x y)))) label accepting
      (λ t. Surely (expressions.IsTrueOf (expression_atom system e number place x y (columns_of (core.Leaf (core.InContext e number place x y)))) t))
      → IsTableBy system.signature (length (columns_of (core.Leaf (core.InContext e number place x y)))) label accepting table
      → IsAnswerTo (pattern_structure system) (core.Leaf (core.InContext e number place x y)) (OfTable table)
  IsAnswerTo-Expression_surely e number place x y exactly by =
      let f = core.Leaf (core.InContext e number place x y) in
      answer f (ArePlaces-columns core.Eq 1 x y (columns_of f) (AreColumns-columns_of (core.Leaf (core.Related core.Eq 1 x y)))).some
      (TellsTruth-Expression system table e number place x y (by_table (length (columns_of f)) _ by exactly)) by

  pub IsAnswerTo-Expression : (e : Expression) (number : HoleNumber) (place : HolePlace) (x y : ℕ)
      → AcceptsLabels system (length (columns_of (core.Leaf (core.InContext e number place x y)))) label accepting
      (expressions.IsTrueOf (expression_atom system e number place x y (columns_of (core.Leaf (core.InContext e number place x y)))))
      → IsTableBy system.signature (length (columns_of (core.Leaf (core.InContext e number place x y)))) label accepting table
      → IsAnswerTo (pattern_structure system) (core.Leaf (core.InContext e number place x y)) (OfTable table)
  IsAnswerTo-Expression e number place x y exactly by =
      IsAnswerTo-Expression_surely e number place x y (λ t is full. Decides-Surely (accepting (label t)) (exactly t is full)) by

  -- of one column
  one : (f : Core) → length (columns_of f) ≡ 1 → TellsTruth (pattern_structure system) f (said (OfTable table)) → IsTableBy system.signature 1 label accepting table
      → IsAnswerTo (pattern_structure system) f (OfTable table)
  one f single truth by = answer f (omega arith) truth (subst (λ n. IsTableBy system.signature n label accepting table) (sym single) by)

  pub IsAnswerTo-Nf : (index x : ℕ) → AcceptsLabels system 1 label accepting (IsTrueOfTuple (normal_atom system index))
      → IsTableBy system.signature 1 label accepting table → IsAnswerTo (pattern_structure system) (core.Leaf (core.Normal index x)) (OfTable table)
  IsAnswerTo-Nf index x exactly by =
      one (core.Leaf (core.Normal index x)) (ap length (columns_of-Normal index x)) (TellsTruth-Nf system table index x (by_table 1 _ by exactly)) by

  pub IsAnswerTo-Is : (x : ℕ) (term : Tree) → AcceptsLabels system 1 label accepting (λ t. OfOne (λ s. s ≡ term) (get_or t 0 None))
      → IsTableBy system.signature 1 label accepting table → IsAnswerTo (pattern_structure system) (core.Leaf (core.IsTerm x term)) (OfTable table)
  IsAnswerTo-Is x term exactly by =
      one (core.Leaf (core.IsTerm x term)) (ap length (columns_of-IsTerm x term)) (TellsTruth-Is system table x term (by_table 1 _ by exactly)) by

-- what labels of one column tell, at a formula of one column
module _ (system : PatternSystem) (label : Labelling) where
  pub LabelsTellAlike-Nf : (index x : ℕ)
      → ((t u : Tuple) → IsTuple system.signature 1 t → IsTuple system.signature 1 u → (label t ≡ label u) ↔ Alike (normal_atom system index) t u)
      → LabelsTellAlike system (core.Leaf (core.Normal index x)) label
  LabelsTellAlike-Nf index x tells = subst (λ ns. (t u : Tuple) → IsTuple system.signature (length ns) t → IsTuple system.signature (length ns) u
      → (label t ≡ label u) ↔ Alike (normal_atom system index) t u) (sym (columns_of-Normal index x)) tells

  pub LabelsTellAlike-Is : (x : ℕ) (term : Tree)
      → ((t u : Tuple) → IsTuple system.signature 1 t → IsTuple system.signature 1 u → (label t ≡ label u) ↔ AlikeAtTerm term t u)
      → LabelsTellAlike system (core.Leaf (core.IsTerm x term)) label
  LabelsTellAlike-Is x term tells = subst (λ ns. (t u : Tuple) → IsTuple system.signature (length ns) t → IsTuple system.signature (length ns) u
      → (label t ≡ label u) ↔ AlikeAtTerm term t u) (sym (columns_of-IsTerm x term)) tells
