-- To believe: the labels of an atom: which columns there are, the rule of the labels, the label of an optional tuple, and which labels are accepted.
use Rattle.std.specs.Prelude.{◌≡◌, ◌↔◌, ℕ, suc, List, [], ◌∷◌, length, Bool, true, Decides, Contains, None, get_or}
use Rattle.fort_theory.specs.Trees.{Tree}
use Rattle.fort_theory.specs.Signatures.{Signature, IsGround}
use Rattle.fort_theory.specs.Patterns.{PatternSystem}
use Rattle.fort_theory.specs.PatternSteps.{PatternStepAt}
use Rattle.fort_theory.specs.Rewriting.{IsNormalForm}
use Rattle.fort_theory.specs.Sides.{System}
use Rattle.fort_theory.specs.Cores.{Rel, Core}
use Rattle.fort_theory.specs.CoreTruth.{Places, RelatesBy, IsMetBy}
use Rattle.fort_theory.specs.Structures.{structure_of}
use Rattle.fort_tables.specs.Tuples.{Tuple, IsTuple}
use Rattle.fort_tables.specs.BitRows.{words_for}
use Rattle.fort_tables.specs.Labels.{Labelling}
use Rattle.fort_tables.specs.LabelRules.{LabelRule, label_of}
use Rattle.fort_alike.specs.Atoms.{Atom, IsTrueOfTuple, OfOne}
use Rattle.fort_alike.specs.Alike.{Alike}
use Rattle.fort_alike.specs.AlikeAtTerm.{AlikeAtTerm}
use Rattle.fort_alike.specs.AtomRules.{marks_of, atom_rule, atom_accepts}
use Rattle.fort_alike.specs.AssignedTuples.{tuple_of}
use Rattle.fort_alike.specs.Subterms.{subterms}
use Rattle.fort_alike.specs.TermRule.{term_rule, term_accepts}
use Rattle.fort_context_closure.specs.PlainAtoms.{no_closure, signed}
use Rattle.fort_context_closure.specs.ClosedAtoms.{test_of}
use Rattle.fort_context_closure.specs.declared.atom_labels.AtomLabels.{AtomLabels}
use Rattle.fort_context_closure.specs.declared.atom_labels.AtomLabels.TheVariants.{Relation, Expression, Normal, Is}
use Rattle.fort_alike.specs.ExpressionAlike as expressions
use Rattle.fort_alike.specs.ExpressionAlike.{ExpressionAtom, AlikeAtExpression}
use Rattle.fort_relation_exprs.specs.RexView.{rex_rule, rex_accepts, rex_words}

abbrev pub column_count : AtomLabels → ℕ
column_count (Relation c) = c.atom.atom.columns
column_count (Expression l) = l.shape.columns
column_count (Normal a) = a.atom.columns
column_count (Is term) = 1

abbrev pub word_count : AtomLabels → ℕ
word_count (Relation c) = suc (words_for (length (marks_of c.atom)))
word_count (Expression l) = rex_words l
word_count (Normal a) = suc (words_for (length (marks_of a)))
word_count (Is term) = 2

-- the rule of the labels over a signature
abbrev pub rule_by : Signature → AtomLabels → LabelRule
rule_by sig (Relation c) = atom_rule (signed sig c.atom) (test_of c)
rule_by sig (Expression l) = rex_rule sig l
rule_by sig (Normal a) = atom_rule (signed sig a) no_closure
rule_by sig (Is term) = term_rule sig (subterms term)

abbrev pub label_by : Signature → AtomLabels → Labelling
label_by sig l = label_of (rule_by sig l)

abbrev pub accepted_by : Signature → AtomLabels → List ℕ → Bool
accepted_by sig (Relation c) = atom_accepts (signed sig c.atom)
accepted_by sig (Expression l) = rex_accepts l
accepted_by sig (Normal a) = atom_accepts (signed sig a)
accepted_by sig (Is term) = term_accepts (subterms term) term

-- two optional tuples over the signature have one label exactly where they are alike at the atom
abbrev pub TellsAlike : Signature → Atom → AtomLabels → Type 0
TellsAlike sig atom l = (t u : Tuple) → IsTuple sig atom.columns t → IsTuple sig atom.columns u → (label_by sig l t ≡ label_by sig l u) ↔ Alike atom t u

-- the label of an optional tuple is accepted exactly where the atom holds of its arguments
abbrev pub AcceptsTrue : Signature → Atom → AtomLabels → Type 0
AcceptsTrue sig atom l = (t : Tuple) → IsTuple sig atom.columns t → Decides (accepted_by sig l (label_by sig l t)) (IsTrueOfTuple atom t)

-- an assignment is accepted exactly where the terms that it gives x and y are related by the steps of the index
abbrev pub AcceptsRelated : PatternSystem → Rel → (index x y : ℕ) → List ℕ → AtomLabels → Type 0
AcceptsRelated system rel index x y columns l =
    (v : Places) → ((n : ℕ) → Contains columns n → IsGround system.signature (v n))
    → Decides (accepted_by system.signature l (label_by system.signature l (tuple_of v columns))) (RelatesBy (PatternStepAt system index) rel (v x) (v y))

abbrev pub AcceptsNormal : PatternSystem → (index x : ℕ) → AtomLabels → Type 0
AcceptsNormal system index x l =
    (v : Places) → IsGround system.signature (v x)
    → Decides (accepted_by system.signature l (label_by system.signature l (tuple_of v (x ∷ [])))) (IsNormalForm (PatternStepAt system index) (v x))

-- by substitutions: an assignment is accepted exactly where it makes the formula true in the structure of the rules themselves
abbrev pub AcceptsMet : System → Core → List ℕ → AtomLabels → Type 0
AcceptsMet system core columns l =
    (v : Places) → ((n : ℕ) → Contains columns n → IsGround system.signature (v n))
    → (accepted_by system.signature l (label_by system.signature l (tuple_of v columns)) ≡ true) ↔ IsMetBy (structure_of system) core v

-- the same for "the variable is this term"
abbrev pub TellsAlikeAtTerm : Signature → Tree → AtomLabels → Type 0
TellsAlikeAtTerm sig term l = (t u : Tuple) → IsTuple sig 1 t → IsTuple sig 1 u → (label_by sig l t ≡ label_by sig l u) ↔ AlikeAtTerm term t u

abbrev pub AcceptsTerm : Signature → Tree → AtomLabels → Type 0
AcceptsTerm sig term l = (t : Tuple) → IsTuple sig 1 t → Decides (accepted_by sig l (label_by sig l t)) (OfOne (λ s. s ≡ term) (get_or t 0 None))

-- the same for an atom of an expression
abbrev pub TellsAlikeAtExpression : ExpressionAtom → AtomLabels → Type 0
TellsAlikeAtExpression a l = (t u : Tuple) → IsTuple a.system.signature a.columns t → IsTuple a.system.signature a.columns u
    → (label_by a.system.signature l t ≡ label_by a.system.signature l u) ↔ AlikeAtExpression a t u

abbrev pub AcceptsExpression : ExpressionAtom → AtomLabels → Type 0
AcceptsExpression a l = (t : Tuple) → IsTuple a.system.signature a.columns t
    → Decides (accepted_by a.system.signature l (label_by a.system.signature l t)) (expressions.IsTrueOf a t)
