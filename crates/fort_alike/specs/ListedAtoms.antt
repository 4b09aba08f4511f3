-- To believe: an atom with the patterns of its rules' sides in two lists, what is asked of it, and what the marks are that its labels have bits for.
use Rattle.std.specs.Prelude.{◌≡◌, ◌↔◌, ◌⊎◌, ℕ, List, All, Contains, Option, Bool}
use Rattle.fort_theory.specs.Trees.{Tree}
use Rattle.fort_theory.specs.Signatures.{HasConstant}
use Rattle.fort_theory.specs.Patterns.{Pattern, FitsPair}
use Rattle.fort_theory.specs.Rewriting.{Relation}
use Rattle.fort_tables.specs.Tuples.{Tuple}
use Rattle.fort_alike.specs.Atoms.{Atom, NfKind, root_of, OfOne, OfTwo, first_of, second_of}
use Rattle.fort_alike.specs.Alike.{Fact, FactHolds, is_reaching, FirstHas, SecondHas, IsLeftPattern, IsRightPattern}

-- the patterns that count for the first argument, and those for the second
pub record ListedAtom : Type 0 where
  pub atom : Atom
  pub lefts : List Pattern
  pub rights : List Pattern

abbrev pub listed : Atom → (lefts rights : List Pattern) → ListedAtom
listed atom lefts rights = record { atom = atom; lefts = lefts; rights = rights }

-- one column, which is both arguments, or two, one for each
abbrev pub AreArguments : (columns first second : ℕ) → Type 0
AreArguments columns first second =
    ((columns ≡ 1) × (first ≡ 0) × (second ≡ 0)) ⊎ (((columns ≡ 2) × (first ≡ 0) × (second ≡ 1)) ⊎ ((columns ≡ 2) × (first ≡ 1) × (second ≡ 0)))

pub record IsListedAtom (a : ListedAtom) : Type 0 where
  pub arguments : AreArguments a.atom.columns a.atom.first a.atom.second
  -- a normal form is about one column
  pub single : a.atom.kind ≡ NfKind → a.atom.columns ≡ 1
  pub constant : HasConstant a.atom.signature
  pub fit : All (FitsPair a.atom.signature) a.atom.pairs
  -- the lists have exactly the patterns that count
  pub left_patterns : (p : Pattern) → Contains a.lefts p ↔ IsLeftPattern a.atom p
  pub right_patterns : (p : Pattern) → Contains a.rights p ↔ IsRightPattern a.atom p

-- what one bit of a label is about
pub data Mark : Type 0 where
  OfFirst : Pattern → Mark
  OfSecond : Pattern → Mark
  OfBoth : Fact → Mark

abbrev pub MarkHolds : Bool → Relation → Mark → Option Tree → Option Tree → Type 0
MarkHolds reaching root (OfFirst p) x y = OfOne (FirstHas reaching root p) x
MarkHolds reaching root (OfSecond p) x y = OfOne (SecondHas reaching root p) y
MarkHolds reaching root (OfBoth k) x y = OfTwo (FactHolds root k) x y

-- the mark's pattern counts for the argument in the tuple; its fact holds of both
abbrev pub Holds : ListedAtom → Mark → Tuple → Type 0
Holds a m t = MarkHolds (is_reaching a.atom.kind) (root_of a.atom) m (first_of a.atom t) (second_of a.atom t)
