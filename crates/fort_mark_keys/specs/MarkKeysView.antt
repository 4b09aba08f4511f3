-- To believe: the atom whose masks the keys of marks write, without its signature and its rules, which no mask reads; of which kind, arguments and patterns it is.
use Rattle.std.specs.Prelude.{◌≡◌, ℕ, suc, List, [], length}
use Rattle.fort_theory.specs.Patterns.{Pattern}
use Rattle.fort_tables.specs.BitRows.{words_for}
use Rattle.fort_alike.specs.Atoms.{AtomKind}
use Rattle.fort_alike.specs.ListedAtoms.{ListedAtom, listed}
use Rattle.fort_alike.specs.AtomRules.{marks_of}
use Rattle.fort_tables.specs.Tuples.{TupleSymbol}
use Rattle.fort_mark_keys.specs.AskedMarks.{asked_mask}
use Rattle.fort_mark_keys.specs.AskedFacts.{kind_seen}
use Rattle.fort_mark_keys.specs.declared.mark_keys.MarkKeys.{MarkKeys}

abbrev pub keys_seen : MarkKeys → ListedAtom
keys_seen k = listed (record {
  signature = [];
  columns = k.arguments.columns;
  first = k.arguments.first;
  second = k.arguments.second;
  kind = kind_seen k.rel;
  pairs = [];
}) k.left k.right

abbrev pub mark_words : ListedAtom → ℕ
mark_words a = suc (words_for (length (marks_of a)))

-- its kind, its arguments and its patterns are these
pub record IsOfPatterns (kind : AtomKind) (first second : ℕ) (lefts rights : List Pattern) (a : ListedAtom) : Type 0 where
  pub kind_is : a.atom.kind ≡ kind
  pub first_is : a.atom.first ≡ first
  pub second_is : a.atom.second ≡ second
  pub lefts_are : a.lefts ≡ lefts
  pub rights_are : a.rights ≡ rights

-- they have the same masks, of one width
pub record AsksAs (k a : ListedAtom) : Type 0 where
  pub masks : (f : TupleSymbol) (j : ℕ) → asked_mask k f j ≡ asked_mask a f j
  pub words : mark_words k ≡ mark_words a
