-- To believe: the labels of an atom of an expression: the rule of the labels, and which labels are accepted; when they tell likeness at the atom and its truth.
use Rattle.std.specs.Prelude.{◌≡◌, ◌↔◌, ℕ, suc, List, length, Bool, Decides}
use Rattle.fort_theory.specs.Signatures.{Signature}
use Rattle.fort_theory.specs.Patterns.{PatternSystem}
use Rattle.fort_theory.specs.Expressions.{Expression}
use Rattle.fort_theory.specs.Contexts.{HoleNumber, HolePlace}
use Rattle.fort_theory.specs.Cores.{Leaf, InContext}
use Rattle.fort_theory.specs.Parts.{AreColumns}
use Rattle.fort_alike.specs.ListedAtoms.{AreArguments}
use Rattle.fort_tables.specs.BitRows.{words_for}
use Rattle.fort_tables.specs.Tuples.{Tuple, IsTuple}
use Rattle.fort_tables.specs.LabelRules.{LabelRule, label_of}
use Rattle.fort_alike.specs.ExpressionAlike.{ExpressionAtom, expression_atom, IsTrueOf, AlikeAtExpression}
use Rattle.fort_alike.specs.ExpressionRules.{expression_rule, expression_accepts, bit_count}
use Rattle.fort_relation_exprs.specs.RexSeen.{RexSeen, states_of}

abbrev pub rex_rule : Signature → RexSeen → LabelRule
rex_rule sig l = expression_rule sig l.shape (states_of l)

abbrev pub rex_accepts : RexSeen → List ℕ → Bool
rex_accepts l = expression_accepts l.shape (states_of l)

abbrev pub rex_words : RexSeen → ℕ
rex_words l = suc (words_for (bit_count l.shape (states_of l)))

-- two optional tuples have one label exactly where they are alike at the atom
abbrev pub TellsAlikeInContext : ExpressionAtom → RexSeen → Type 0
TellsAlikeInContext a l = (t u : Tuple) → IsTuple a.system.signature a.columns t → IsTuple a.system.signature a.columns u
    → (label_of (rex_rule a.system.signature l) t ≡ label_of (rex_rule a.system.signature l) u) ↔ AlikeAtExpression a t u

-- the label of an optional tuple is accepted exactly where the atom holds of its arguments
abbrev pub AcceptsInContext : ExpressionAtom → RexSeen → Type 0
AcceptsInContext a l = (t : Tuple) → IsTuple a.system.signature a.columns t → Decides (rex_accepts l (label_of (rex_rule a.system.signature l) t)) (IsTrueOf a t)

-- the labels are those of the atom x <<E, HOLES, PLACE>> y over its columns
pub record AreRexLabelsOver (system : PatternSystem) (e : Expression) (number : HoleNumber) (place : HolePlace) (x y : ℕ) (l : RexSeen) (columns : List ℕ) : Type 0 where
  pub count : l.shape.columns ≡ length columns
  pub alike : TellsAlikeInContext (expression_atom system e number place x y columns) l
  pub accepted : AcceptsInContext (expression_atom system e number place x y columns) l

pub record AreRexLabels (system : PatternSystem) (e : Expression) (number : HoleNumber) (place : HolePlace) (x y : ℕ) (l : RexSeen) : Type 0 where
  pub arguments : AreArguments l.shape.columns l.shape.first l.shape.second
  pub over : (columns : List ℕ) → AreColumns (Leaf (InContext e number place x y)) columns → AreRexLabelsOver system e number place x y l columns
