-- To believe: when two optional tuples are alike at an atom: the same columns are present, each argument has the same patterns of the rules' sides, and the same facts hold of the two arguments together.
use Rattle.std.specs.Prelude.{◌≡◌, ◌≢◌, ◌↔◌, List, [], ◌∷◌, map, Contains, Bool, true, false}
use Rattle.fort_theory.specs.Trees.{Tree}
use Rattle.fort_theory.specs.Patterns.{Pattern, IsInstance, Pair}
use Rattle.fort_theory.specs.PatternOrder.{StandsWithin}
use Rattle.fort_theory.specs.Rewriting.{Relation, Rewrites, RewritesBelow, Reduces, ReducesStrictly, RewritesInParallel, IsNormalForm}
use Rattle.fort_tables.specs.Tuples.{Tuple, presence}
use Rattle.fort_alike.specs.Atoms.{AtomKind, EqKind, RootKind, StepKind, BelowKind, ParKind, NfKind, StarKind, PlusKind, Atom, root_of, OfOne, OfTwo, first_of, second_of}

-- a fact on the two arguments together; IsNormal is about the first alone, which is the second too
pub data Fact : Type 0 where
  Same : Fact
  Steps : Fact
  StepsBelow : Fact
  StepsInParallel : Fact
  IsNormal : Fact
  Goes : Fact
  GoesStrictly : Fact

abbrev pub FactHolds : Relation → Fact → Relation
FactHolds root Same s t = s ≡ t
FactHolds root Steps s t = Rewrites root s t
FactHolds root StepsBelow s t = RewritesBelow root s t
FactHolds root StepsInParallel s t = RewritesInParallel root s t
FactHolds root IsNormal s t = IsNormalForm root s
FactHolds root Goes s t = Reduces root s t
FactHolds root GoesStrictly s t = ReducesStrictly root s t

-- the facts that count, by kind; none for a root step, which the patterns tell. Each further fact of a kind is one that the others
-- are computed from: equality and steps for a step, any number of steps for at least one
abbrev pub facts_of : AtomKind → List Fact
facts_of EqKind = Same ∷ []
facts_of RootKind = []
facts_of StepKind = Same ∷ Steps ∷ []
facts_of BelowKind = Same ∷ Steps ∷ StepsBelow ∷ []
facts_of ParKind = StepsInParallel ∷ []
facts_of NfKind = IsNormal ∷ []
facts_of StarKind = Goes ∷ []
facts_of PlusKind = Goes ∷ GoesStrictly ∷ []

-- whether the patterns that count are those with an instance that the first argument reduces to, and that reduces to the second,
-- in the place of those of which the term is an instance
abbrev pub is_reaching : AtomKind → Bool
is_reaching StarKind = true
is_reaching PlusKind = true
is_reaching other = false

-- the term reduces to some instance of the pattern; some instance of it reduces to the term
abbrev pub Reaches : Relation → Pattern → Tree → Type 0
Reaches root q s = (u : Tree) × IsInstance q u × Reduces root s u

abbrev pub IsReachedFrom : Relation → Pattern → Tree → Type 0
IsReachedFrom root p t = (u : Tree) × IsInstance p u × Reduces root u t

abbrev pub FirstHas : Bool → Relation → Pattern → Tree → Type 0
FirstHas false root p s = IsInstance p s
FirstHas true root p s = Reaches root p s

abbrev pub SecondHas : Bool → Relation → Pattern → Tree → Type 0
SecondHas false root p t = IsInstance p t
SecondHas true root p t = IsReachedFrom root p t

-- the patterns that count for the first argument stand within left sides, those for the second within right sides; none do for
-- the second where the atom is a normal form
abbrev pub IsLeftPattern : Atom → Pattern → Type 0
IsLeftPattern a p = StandsWithin (map (λ (pair : Pair). pair.0) a.pairs) p

abbrev pub IsRightPattern : Atom → Pattern → Type 0
IsRightPattern a p = (a.kind ≢ NfKind) × StandsWithin (map (λ (pair : Pair). pair.1) a.pairs) p

pub record Alike (a : Atom) (t u : Tuple) : Type 0 where
  pub present : presence t ≡ presence u
  pub firsts : (p : Pattern) → IsLeftPattern a p
      → OfOne (FirstHas (is_reaching a.kind) (root_of a) p) (first_of a t) ↔ OfOne (FirstHas (is_reaching a.kind) (root_of a) p) (first_of a u)
  pub seconds : (p : Pattern) → IsRightPattern a p
      → OfOne (SecondHas (is_reaching a.kind) (root_of a) p) (second_of a t) ↔ OfOne (SecondHas (is_reaching a.kind) (root_of a) p) (second_of a u)
  pub facts : (k : Fact) → Contains (facts_of a.kind) k
      → OfTwo (FactHolds (root_of a) k) (first_of a t) (second_of a t) ↔ OfTwo (FactHolds (root_of a) k) (first_of a u) (second_of a u)
