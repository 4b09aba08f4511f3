-- To believe: an atom of a formula over its columns: its kind, the columns of its arguments, and its rules as pairs of patterns; the relation that it says of the terms there.
use Rattle.std.specs.Prelude.{◌≡◌, ℕ, List, [], ◌++◌, map, length, Option, None, Some, get_or, ◌==◌}
use Rattle.std.specs.List.{position_or_len}
use Rattle.fort_theory.specs.Trees.{Tree}
use Rattle.fort_theory.specs.Signatures.{Signature}
use Rattle.fort_theory.specs.Sides.{at_index}
use Rattle.fort_theory.specs.Patterns.{Pair, PatternSystem}
use Rattle.fort_theory.specs.PatternSteps.{PatternStep}
use Rattle.fort_theory.specs.Rewriting.{Relation, Rewrites, RewritesBelow, Reduces, ReducesStrictly, RewritesInParallel, IsNormalForm}
use Rattle.fort_theory.specs.Cores.{Rel, Eq, Root, Below, Step, Par, Plus, Star, Conv}
use Rattle.fort_tables.specs.Tuples.{Tuple}

-- a conversion is a reduction by the rules both ways, and has no kind of its own
pub data AtomKind : Type 0 where
  EqKind : AtomKind
  RootKind : AtomKind
  StepKind : AtomKind
  BelowKind : AtomKind
  ParKind : AtomKind
  NfKind : AtomKind
  StarKind : AtomKind
  PlusKind : AtomKind

-- the arguments are columns, from 0: one and the same column where both are one variable, and for a normal form
pub record Atom : Type 0 where
  pub signature : Signature
  pub columns : ℕ
  pub first : ℕ
  pub second : ℕ
  pub kind : AtomKind
  pub pairs : List Pair

abbrev pub root_of : Atom → Relation
root_of a = PatternStep a.signature a.pairs

-- what the atom says of two terms; of a normal form it is said of the first
abbrev pub HoldsBy : Relation → AtomKind → Relation
HoldsBy root EqKind s t = s ≡ t
HoldsBy root RootKind s t = root s t
HoldsBy root StepKind s t = Rewrites root s t
HoldsBy root BelowKind s t = RewritesBelow root s t
HoldsBy root ParKind s t = RewritesInParallel root s t
HoldsBy root NfKind s t = IsNormalForm root s
HoldsBy root StarKind s t = Reduces root s t
HoldsBy root PlusKind s t = ReducesStrictly root s t

-- of a term that is there; of two that are
abbrev pub OfOne : (Tree → Type 0) → Option Tree → Type 0
OfOne P None = ⊥
OfOne P (Some s) = P s

abbrev pub OfTwo : Relation → Option Tree → Option Tree → Type 0
OfTwo R None y = ⊥
OfTwo R (Some s) None = ⊥
OfTwo R (Some s) (Some t) = R s t

abbrev pub first_of : Atom → Tuple → Option Tree
first_of a t = get_or t a.first None

abbrev pub second_of : Atom → Tuple → Option Tree
second_of a t = get_or t a.second None

-- both arguments are there, and the atom's relation holds of them
abbrev pub IsTrueOfTuple : Atom → Tuple → Type 0
IsTrueOfTuple a t = OfTwo (HoldsBy (root_of a) a.kind) (first_of a t) (second_of a t)

-- each pair, and then each pair exchanged
abbrev pub both_ways : List Pair → List Pair
both_ways pairs = pairs ++ map (λ (pair : Pair). (pair.1, pair.0)) pairs

abbrev pub kind_for : Rel → AtomKind
kind_for Eq = EqKind
kind_for Root = RootKind
kind_for Below = BelowKind
kind_for Step = StepKind
kind_for Par = ParKind
kind_for Plus = PlusKind
kind_for Star = StarKind
kind_for Conv = StarKind

-- equality is about no rules
abbrev pub pairs_for : Rel → List Pair → List Pair
pairs_for Eq pairs = []
pairs_for Conv pairs = both_ways pairs
pairs_for other pairs = pairs

-- the atom x REL y over these columns, for the rules of an index
abbrev pub relation_atom : PatternSystem → Rel → (index x y : ℕ) → List ℕ → Atom
relation_atom system rel index x y columns = record {
  signature = system.signature;
  columns = length columns;
  first = position_or_len (λ n. n == x) columns;
  second = position_or_len (λ n. n == y) columns;
  kind = kind_for rel;
  pairs = pairs_for rel (at_index index system.rules);
}

-- normal forms for the rules of an index, over one column
abbrev pub normal_atom : PatternSystem → ℕ → Atom
normal_atom system index = record {
  signature = system.signature;
  columns = 1;
  first = 0;
  second = 0;
  kind = NfKind;
  pairs = at_index index system.rules;
}
