-- To believe: the keys of an atom's labels: what is asked at a place, and the key of a label there; which masks are those of an atom.
use Rattle.std.specs.Prelude.{ℕ, List, []}
use Rattle.fort_tables.specs.Tuples.{TupleSymbol}
use Rattle.fort_alike.specs.ListedAtoms.{ListedAtom}
use Rattle.fort_mark_keys.specs.MaskedWords.{masked}
use Rattle.fort_mark_keys.specs.AskedMarks.{asked_mask, HasSides}
use Rattle.fort_mark_keys.specs.AskedTerms.{asked_numbers, number_seen}
use Rattle.fort_mark_keys.specs.MarkKeysView.{keys_seen, mark_words, IsOfPatterns}
use Rattle.fort_mark_keys.specs.TermKeysView.{listed_seen}
use Rattle.fort_mark_keys.specs.declared.mark_keys.MarkKeys.{MarkKeys}
use Rattle.fort_atom_keys.specs.declared.keys.AtomKeys.{AtomKeys}
use Rattle.fort_atom_keys.specs.declared.keys.AtomKeys.TheVariants.{Marks, Whole, Term}

abbrev pub view_of : AtomKeys → TupleSymbol → ℕ → List ℕ
view_of (Marks k) f j = asked_mask (keys_seen k) f j
view_of (Whole k) f j = []
view_of (Term k) f j = asked_numbers (listed_seen k) f j

abbrev pub key_of : AtomKeys → (view label : List ℕ) → List ℕ
key_of (Marks k) v w = masked v w
key_of (Whole k) v w = w
key_of (Term k) v w = number_seen v w

abbrev pub words_of : AtomKeys → ℕ
words_of (Marks k) = mark_words (keys_seen k)
words_of (Whole k) = k.width
words_of (Term k) = 2

-- they are of the atom's kind, arguments and patterns, among which are the sides of its rules
pub record AreMasksOf (a : ListedAtom) (k : MarkKeys) : Type 0 where
  pub sides : HasSides a
  pub patterns : IsOfPatterns a.atom.kind a.atom.first a.atom.second a.lefts a.rights (keys_seen k)
