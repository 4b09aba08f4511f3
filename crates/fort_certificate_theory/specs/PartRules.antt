-- To believe: the labels by which the table of a part is made, from the system and from what was made for earlier parts (of an atom of an expression any that tell likeness and truth), and which labels are accepted; the value of a part without columns.
use Rattle.std.specs.Prelude.{◌≡◌, ◌↔◌, ℕ, List, [], map, length, Bool, true, false, not, Decides}
use Rattle.fort_theory.specs.Trees.{Tree}
use Rattle.fort_theory.specs.Signatures.{Signature}
use Rattle.fort_theory.specs.Sides.{at_index}
use Rattle.fort_theory.specs.Patterns.{Pattern, Pair, PatternSystem}
use Rattle.fort_theory.specs.PatternOrder.{AreSubpatternsInOrder}
use Rattle.fort_theory.specs.Cores as core
use Rattle.fort_theory.specs.Cores.{Atom, Core, Rel}
use Rattle.fort_tables.specs.Tables.{Table}
use Rattle.fort_tables.specs.Tuples.{Tuple, IsTuple}
use Rattle.fort_tables.specs.LabelRules.{LabelRule, IsLabelRule, label_of}
use Rattle.fort_alike.specs.Atoms.{pairs_for, relation_atom, normal_atom}
use Rattle.fort_alike.specs.ExpressionAlike.{ExpressionAtom, expression_atom, IsTrueOf, AlikeAtExpression}
use Rattle.fort_alike.specs.ListedAtoms.{listed}
use Rattle.fort_alike.specs.AtomRules.{atom_rule, atom_accepts}
use Rattle.fort_alike.specs.ClosureTests.{closure_test}
use Rattle.fort_alike.specs.Subterms.{subterms}
use Rattle.fort_alike.specs.TermRule.{term_rule, term_accepts}
use Rattle.fort_theory.specs.Logic.{Surely, Connective}
use Rattle.fort_tables.specs.Products.{connected, product_rule, product_accepts}
use Rattle.fort_tables.specs.Projections.{ArePure, some_below, project_rule, project_accepts}
use Rattle.fort_tables.specs.Counts.{Count, is_infinite, count_at}
use Rattle.fort_tables.specs.ManyLabels.{many_rule, many_accepts, many_value}
use Rattle.fort_parts.specs.PartColumns.{columns_of, place_in, places_in}
use Rattle.fort_parts.specs.PartAnswers.{Answer, OfValue, OfTable}
use Rattle.fort_parts.specs.PartSteps.{operand_of}
use Rattle.fort_alike.specs.ListedClosures.{Star, Conv, Pair as Item}
use Rattle.fort_certificate_theory.specs.ClosureSteps.{AreSidePatterns, numbers_of}
use Rattle.fort_certificate_theory.specs.Made.{MadeSoFar, IsAnswerOf}

-- a rule of labels, and the labels that it accepts where no column is absent
pub record Local : Type 0 where
  pub rule : LabelRule
  pub accepting : List ℕ → Bool

-- the closure that a relation reads, for the rules of an index
abbrev pub closure_for : MadeSoFar → Rel → ℕ → List Item
closure_for made core.Star index = made.closures Star index
closure_for made core.Plus index = made.closures Star index
closure_for made core.Conv index = made.closures Conv index
closure_for made other index = []

abbrev pub relation_local : PatternSystem → Rel → (index x y : ℕ) → (lefts rights : List Pattern) → List Item → Local
relation_local system rel index x y lefts rights items =
    let a = listed (relation_atom system rel index x y (columns_of (core.Leaf (core.Related rel index x y)))) lefts rights in
    record { rule = atom_rule a (closure_test rights lefts (numbers_of items)); accepting = atom_accepts a }

abbrev pub normal_local : PatternSystem → (index : ℕ) → (lefts : List Pattern) → Local
normal_local system index lefts =
    let a = listed (normal_atom system index) lefts [] in
    record { rule = atom_rule a (λ p q. false); accepting = atom_accepts a }

abbrev pub term_local : Signature → Tree → Local
term_local sig term = record { rule = term_rule sig (subterms term); accepting = term_accepts (subterms term) term }

-- of h, which joins f and g, by the answers of these
abbrev pub product_local : Connective → (h f g : Core) → (first second : Answer) → Local
product_local op h f g first second =
    let a = operand_of first (places_in (columns_of h) (columns_of f)) in
    let b = operand_of second (places_in (columns_of h) (columns_of g)) in
    record { rule = product_rule (length (columns_of h)) a b; accepting = product_accepts op a b }

abbrev pub project_local : Table → (c : ℕ) → Local
project_local body c = record { rule = project_rule body c; accepting = project_accepts body }

abbrev pub many_local : Table → (c : ℕ) → (ℕ → Bool) → Local
many_local body c many = record { rule = many_rule body c many; accepting = many_accepts body }

pub record IsRelationLocal (system : PatternSystem) (made : MadeSoFar) (rel : Rel) (index x y : ℕ) (local : Local) : Type 0 where
  pub lefts : List Pattern
  pub rights : List Pattern
  pub patterns : AreSidePatterns (pairs_for rel (at_index index system.rules)) lefts rights
  pub is : local ≡ relation_local system rel index x y lefts rights (closure_for made rel index)

pub record IsNormalLocal (system : PatternSystem) (index : ℕ) (local : Local) : Type 0 where
  pub lefts : List Pattern
  pub patterns : AreSubpatternsInOrder (map (λ (pair : Pair). pair.0) (at_index index system.rules)) lefts
  pub is : local ≡ normal_local system index lefts

pub record IsProductLocal (parts : List Core) (made : MadeSoFar) (op : Connective) (h f g : Core) (local : Local) : Type 0 where
  pub first : Answer
  pub second : Answer
  pub first_is : IsAnswerOf parts made f first
  pub second_is : IsAnswerOf parts made g second
  pub is : local ≡ product_local op h f g first second

pub record IsProjectLocal (parts : List Core) (made : MadeSoFar) (n : ℕ) (f : Core) (local : Local) : Type 0 where
  pub body : Table
  pub body_is : IsAnswerOf parts made f (OfTable body)
  pub is : local ≡ project_local body (place_in (columns_of f) n)

-- what is counted: the states of f with the column of the number n alone present
pub record IsCounted (parts : List Core) (made : MadeSoFar) (n : ℕ) (f : Core) (body : Table) (states : List ℕ) : Type 0 where
  pub body_is : IsAnswerOf parts made f (OfTable body)
  pub pure : ArePure body (place_in (columns_of f) n) states

-- whether a state is counted infinite
abbrev pub is_many : List ℕ → List Count → ℕ → Bool
is_many states counts q = is_infinite (count_at states counts q)

pub record IsManyLocal (parts : List Core) (made : MadeSoFar) (k n : ℕ) (f : Core) (local : Local) : Type 0 where
  pub body : Table
  pub states : List ℕ
  pub counted : IsCounted parts made n f body states
  pub is : local ≡ many_local body (place_in (columns_of f) n) (is_many states (made.counts k))

-- of an atom of an expression: two tuples have one label exactly where they are alike at the atom, and the accepted labels are those
-- of the tuples of which the atom surely is true
pub record IsExpressionLocal (a : ExpressionAtom) (local : Local) : Type 0 where
  pub rule : IsLabelRule local.rule
  pub signature : local.rule.signature ≡ a.system.signature
  pub columns : local.rule.columns ≡ a.columns
  pub alike : (t u : Tuple) → IsTuple a.system.signature a.columns t → IsTuple a.system.signature a.columns u
      → (label_of local.rule t ≡ label_of local.rule u) ↔ AlikeAtExpression a t u
  pub accepted : (t : Tuple) → IsTuple a.system.signature a.columns t → Decides (local.accepting (label_of local.rule t)) (Surely (IsTrueOf a t))

-- of an atom
abbrev pub IsAtomLocal : PatternSystem → MadeSoFar → Atom → Local → Type 0
IsAtomLocal system made (core.Related rel index x y) local = IsRelationLocal system made rel index x y local
IsAtomLocal system made (core.InContext e number place x y) local =
    IsExpressionLocal (expression_atom system e number place x y (columns_of (core.Leaf (core.InContext e number place x y)))) local
IsAtomLocal system made (core.Normal index x) local = IsNormalLocal system index local
IsAtomLocal system made (core.IsTerm x term) local = local ≡ term_local system.signature term

-- of part k, which is a formula with columns
abbrev pub IsLocalOf : PatternSystem → List Core → MadeSoFar → ℕ → Core → Local → Type 0
IsLocalOf system parts made k core.True local = ⊥
IsLocalOf system parts made k (core.Leaf a) local = IsAtomLocal system made a local
IsLocalOf system parts made k (core.Not f) local = ⊥
IsLocalOf system parts made k (core.Binary op f g) local = IsProductLocal parts made op (core.Binary op f g) f g local
IsLocalOf system parts made k (core.Exists n f) local = IsProjectLocal parts made n f local
IsLocalOf system parts made k (core.Infinite n f) local = IsManyLocal parts made k n f local

pub record IsConnectedValue (parts : List Core) (made : MadeSoFar) (op : Connective) (f g : Core) (value : Bool) : Type 0 where
  pub first : Bool
  pub second : Bool
  pub first_is : IsAnswerOf parts made f (OfValue first)
  pub second_is : IsAnswerOf parts made g (OfValue second)
  pub is : value ≡ connected op first second

pub record IsManyValue (parts : List Core) (made : MadeSoFar) (k n : ℕ) (f : Core) (value : Bool) : Type 0 where
  pub body : Table
  pub states : List ℕ
  pub counted : IsCounted parts made n f body states
  pub is : value ≡ many_value body (place_in (columns_of f) n) (is_many states (made.counts k))

-- of part k, which is a formula without columns
abbrev pub IsValueOf : List Core → MadeSoFar → ℕ → Core → Bool → Type 0
IsValueOf parts made k core.True value = value ≡ true
IsValueOf parts made k (core.Leaf a) value = ⊥
IsValueOf parts made k (core.Not f) value = (b : Bool) × IsAnswerOf parts made f (OfValue b) × (value ≡ not b)
IsValueOf parts made k (core.Binary op f g) value = IsConnectedValue parts made op f g value
IsValueOf parts made k (core.Exists n f) value =
    (body : Table) × IsAnswerOf parts made f (OfTable body) × (value ≡ some_below (length body.presences) body.accepting)
IsValueOf parts made k (core.Infinite n f) value = IsManyValue parts made k n f value
