-- To believe: an atom of a relation expression over optional tuples, and when two tuples are alike at it: the same columns are present, each argument meets the same conditions, and the same facts hold of the two arguments together.
use Rattle.std.specs.Prelude.{◌≡◌, ◌↔◌, ℕ, List, [], ◌∷◌, ◌++◌, Option, None, get_or, length, ◌==◌, Contains}
use Rattle.std.specs.List.{position_or_len}
use Rattle.fort_theory.specs.Trees.{Tree}
use Rattle.fort_theory.specs.Patterns.{PatternSystem}
use Rattle.fort_theory.specs.Rewriting.{Relation}
use Rattle.fort_tables.specs.Tuples.{Tuple, presence}
use Rattle.fort_alike.specs.Atoms.{OfOne, OfTwo}
use Rattle.fort_theory.specs.Expressions.{Expression}
use Rattle.fort_theory.specs.Contexts.{HoleNumber, OneHole, SomeHoles, AnyHoles, HolePlace, AtTheRoot, BelowTheRoot, AnyPlace, HoldsInContext}
use Rattle.fort_theory.specs.Conditions.{LeftCondition, RightCondition, MeansIn, MeetsLeft, MeetsRight}

-- the arguments are columns, from 0: one and the same column where both are one variable
pub record ExpressionAtom : Type 0 where
  pub system : PatternSystem
  pub expression : Expression
  pub number : HoleNumber
  pub place : HolePlace
  pub columns : ℕ
  pub first : ℕ
  pub second : ℕ

-- the atom x <<E, HOLES, PLACE>> y over these columns
abbrev pub expression_atom : PatternSystem → Expression → HoleNumber → HolePlace → (x y : ℕ) → List ℕ → ExpressionAtom
expression_atom system e number place x y columns = record {
  system = system;
  expression = e;
  number = number;
  place = place;
  columns = length columns;
  first = position_or_len (λ n. n == x) columns;
  second = position_or_len (λ n. n == y) columns;
}

abbrev pub meaning_of : ExpressionAtom → Relation
meaning_of a = MeansIn a.system a.expression

abbrev pub first_of : ExpressionAtom → Tuple → Option Tree
first_of a t = get_or t a.first None

abbrev pub second_of : ExpressionAtom → Tuple → Option Tree
second_of a t = get_or t a.second None

-- both arguments are there, and the atom holds of them
abbrev pub IsTrueOf : ExpressionAtom → Tuple → Type 0
IsTrueOf a t = OfTwo (HoldsInContext (meaning_of a) a.number a.place) (first_of a t) (second_of a t)

-- a fact on the two arguments together: they are equal; the atom with so many holes holds at any place, or below the root
pub data PairFact : Type 0 where
  Same : PairFact
  Anywhere : HoleNumber → PairFact
  Below : HoleNumber → PairFact

abbrev pub PairFactHolds : Relation → PairFact → Relation
PairFactHolds r Same s t = s ≡ t
PairFactHolds r (Anywhere number) s t = HoldsInContext r number AnyPlace s t
PairFactHolds r (Below number) s t = HoldsInContext r number BelowTheRoot s t

-- the facts that count; each one besides the atom itself is one that it is computed from
abbrev pub facts_anywhere : HoleNumber → List PairFact
facts_anywhere OneHole = Same ∷ Anywhere OneHole ∷ []
facts_anywhere SomeHoles = Anywhere AnyHoles ∷ Anywhere SomeHoles ∷ []
facts_anywhere AnyHoles = Anywhere AnyHoles ∷ []

-- at the root the conditions tell the relation
abbrev pub facts_at_root : HoleNumber → List PairFact
facts_at_root OneHole = []
facts_at_root SomeHoles = []
facts_at_root AnyHoles = Same ∷ []

abbrev pub facts_for : HoleNumber → HolePlace → List PairFact
facts_for number AtTheRoot = facts_at_root number
facts_for number BelowTheRoot = facts_anywhere number ++ Below number ∷ []
facts_for number AnyPlace = facts_anywhere number

pub record AlikeAtExpression (a : ExpressionAtom) (t u : Tuple) : Type 0 where
  pub present : presence t ≡ presence u
  pub firsts : (c : LeftCondition a.system a.expression)
      → OfOne (MeetsLeft a.system a.expression c) (first_of a t) ↔ OfOne (MeetsLeft a.system a.expression c) (first_of a u)
  pub seconds : (c : RightCondition a.system a.expression)
      → OfOne (MeetsRight a.system a.expression c) (second_of a t) ↔ OfOne (MeetsRight a.system a.expression c) (second_of a u)
  pub facts : (k : PairFact) → Contains (facts_for a.number a.place) k
      → OfTwo (PairFactHolds (meaning_of a) k) (first_of a t) (second_of a t) ↔ OfTwo (PairFactHolds (meaning_of a) k) (first_of a u) (second_of a u)
