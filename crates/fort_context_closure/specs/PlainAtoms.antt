-- To believe: an atom without its signature, whose labels are the same, and with one; a rule of labels that asks no closure; an atom with pairs that are handed in.
use Rattle.std.specs.Prelude.{◌≡◌, ℕ, List, [], map, length, ◌==◌, Bool, false}
use Rattle.std.specs.List.{position_or_len}
use Rattle.fort_theory.specs.Signatures.{Signature}
use Rattle.fort_theory.specs.Patterns.{Pattern, Pair, PatternSystem}
use Rattle.fort_theory.specs.PatternOrder.{AreSubpatternsInOrder}
use Rattle.fort_theory.specs.Sides.{at_index}
use Rattle.fort_theory.specs.Cores.{Rel, Leaf, Related}
use Rattle.fort_theory.specs.Parts.{AreColumns}
use Rattle.fort_alike.specs.Atoms.{Atom, NfKind, kind_for, pairs_for, relation_atom, normal_atom}
use Rattle.fort_alike.specs.ListedAtoms.{ListedAtom, listed, IsListedAtom}
use Rattle.fort_alike.specs.ClosureTests.{IsClosure}
use Rattle.fort_findings.specs.declared.closure.ClosureEntry.{ClosureEntry}
use Rattle.fort_context_closure.specs.ClosedAtoms.{ClosedAtom, test_of}

-- of the kinds of single steps, whose rule asks none
abbrev pub no_closure : Pattern → Pattern → Bool
no_closure p q = false

-- no step of a label reads the signature
abbrev pub unsigned : Atom → Atom
unsigned a = record { signature = []; columns = a.columns; first = a.first; second = a.second; kind = a.kind; pairs = a.pairs }

abbrev pub signed : Signature → ListedAtom → ListedAtom
signed sig a = listed (record {
  signature = sig;
  columns = a.atom.columns;
  first = a.atom.first;
  second = a.atom.second;
  kind = a.atom.kind;
  pairs = a.atom.pairs;
}) a.lefts a.rights

-- it is this atom, with the patterns that count for it
pub record IsAtomOf (atom : Atom) (a : ListedAtom) : Type 0 where
  pub same : a.atom ≡ unsigned atom
  pub is_listed : IsListedAtom (listed atom a.lefts a.rights)

-- the atom of normal forms for the rules of an index; of its rules only the left sides are known
pub record IsNormalAtomOf (system : PatternSystem) (index : ℕ) (a : ListedAtom) : Type 0 where
  pub same : a ≡ listed (record {
    signature = [];
    columns = 1;
    first = 0;
    second = 0;
    kind = NfKind;
    pairs = a.atom.pairs;
  }) a.lefts []
  pub left_sides : map (λ (pair : Pair). pair.0) a.atom.pairs ≡ map (λ (pair : Pair). pair.0) (at_index index system.rules)
  pub is_listed : IsListedAtom (listed (normal_atom system index) a.lefts [])
  pub left_order : AreSubpatternsInOrder (map (λ (pair : Pair). pair.0) (at_index index system.rules)) a.lefts

-- the atom x REL y for the rules of an index, whichever list is that of its columns, and a test of its closure
abbrev pub IsRelationAtomOf : PatternSystem → Rel → (index x y : ℕ) → ClosedAtom → Type 0
IsRelationAtomOf system rel index x y c =
    (columns : List ℕ) → AreColumns (Leaf (Related rel index x y)) columns
    → IsAtomOf (relation_atom system rel index x y columns) c.atom
    × IsClosure (listed (relation_atom system rel index x y columns) c.atom.lefts c.atom.rights) (test_of c)

-- a listed atom of these rules and patterns, whichever list is that of its columns
pub record IsOfRules (rel : Rel) (x y : ℕ) (pairs : List Pair) (lefts rights : List Pattern) (a : ListedAtom) : Type 0 where
  pub same : (index : ℕ) (columns : List ℕ) → AreColumns (Leaf (Related rel index x y)) columns
      → a.atom ≡ record {
        signature = [];
        columns = length columns;
        first = position_or_len (λ n. n == x) columns;
        second = position_or_len (λ n. n == y) columns;
        kind = kind_for rel;
        pairs = pairs;
      }
  pub lefts_are : a.lefts ≡ lefts
  pub rights_are : a.rights ≡ rights

-- the atom x REL y for the rules of an index, whichever list is that of its columns, over the patterns of its rules' sides in order, and a
-- closure test by these entries
pub record IsByPairs (system : PatternSystem) (rel : Rel) (index x y : ℕ) (entries : List ClosureEntry) (c : ClosedAtom) : Type 0 where
  pub rules : IsOfRules rel x y (pairs_for rel (at_index index system.rules)) c.atom.lefts c.atom.rights c.atom
  pub left_order : AreSubpatternsInOrder (map (λ (pair : Pair). pair.0) (pairs_for rel (at_index index system.rules))) c.atom.lefts
  pub right_order : AreSubpatternsInOrder (map (λ (pair : Pair). pair.1) (pairs_for rel (at_index index system.rules))) c.atom.rights
  pub entries_are : c.entries ≡ entries
