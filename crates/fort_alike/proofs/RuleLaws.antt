-- The laws of an atom's rule as one of labels; a buffer with a row's bits is the row.
use Rattle.std.specs.Prelude.{◌≡◌, ℕ, suc, ◌*◌, ◌<◌, ◌≤◌, List, [], ◌∷◌, map, length, drop, get_or, Bool, false, refl}
use Rattle.std.proofs.Common.{ap, ◌∙◌, arith, inl, inr}
use Rattle.fort_theory.specs.Signatures.{most_columns}
use Rattle.fort_theory.specs.Patterns.{Pattern}
use Rattle.fort_tables.specs.Tuples.{TupleSymbol, presence}
use Rattle.fort_tables.specs.Labels.{first_word, TellsPresence, HasWidth}
use Rattle.fort_tables.specs.LabelRules.{label_of, IsLabelRule}
use Rattle.fort_tables.specs.BitRows.{AreWords, has_bit, words_for}
use Rattle.fort_tables.proofs.LabelRuleLaws.{TellsPresence-rule, HasWidth-rule}
use Rattle.fort_tables.proofs.BitRowLaws.{bit_row_is}
use Rattle.fort_alike.specs.ListedAtoms.{ListedAtom, AreArguments, IsListedAtom, Mark}
use Rattle.fort_alike.specs.AtomRules.{marks_of, row_of, atom_rule}
use Rattle.fort_alike.proofs.Bits.{length-row_of}

columns-bounds : (columns first second : ℕ) → AreArguments columns first second → (0 < columns) × (columns ≤ most_columns)
columns-bounds columns first second (inl w) = let e = w.0 in (omega arith, omega arith)
columns-bounds columns first second (inr (inl w)) = let e = w.0 in (omega arith, omega arith)
columns-bounds columns first second (inr (inr w)) = let e = w.0 in (omega arith, omega arith)

module _ (a : ListedAtom) (closure : Pattern → Pattern → Bool) where
  tells : (f : TupleSymbol) (ws : List (List ℕ)) → first_word ((atom_rule a closure).step f ws) ≡ presence f
  tells f ws = refl

  pub IsLabelRule-atom : IsListedAtom a → IsLabelRule (atom_rule a closure)
  IsLabelRule-atom is =
      let bounds = columns-bounds a.atom.columns a.atom.first a.atom.second is.arguments in
      record { some = bounds.0; narrow = bounds.1; tells = tells }

  pub TellsPresence-atom : TellsPresence a.atom.signature a.atom.columns (label_of (atom_rule a closure))
  TellsPresence-atom = TellsPresence-rule a.atom.signature (atom_rule a closure) tells

  pub HasWidth-atom : HasWidth a.atom.signature a.atom.columns (label_of (atom_rule a closure)) (suc (words_for (length (marks_of a))))
  HasWidth-atom =
      HasWidth-rule a.atom.signature (atom_rule a closure) (suc (words_for (length (marks_of a))))
      (λ f ws. length-row_of (marks_of a) (presence f) _)

-- a buffer is the row where its bits are those of the marks, and the bits past them are off
pub row_is : (out : List ℕ) (marks : List Mark) (n : ℕ) (b : Mark → Bool) → length out ≡ suc (words_for (length marks)) → AreWords out → get_or out 0 0 ≡ n
    → ((q : ℕ) → q < 64 * words_for (length marks) → has_bit (drop 1 out) q ≡ get_or (map b marks) q false) → out ≡ row_of marks n b
row_is [] marks n b l small f h = absurd (omega arith)
row_is (x ∷ out) marks n b l small f h =
    ap (λ y. y ∷ out) f
    ∙ ap (λ ys. n ∷ ys) (bit_row_is (length marks) (λ k. get_or (map b marks) k false) out (omega arith) (λ i m. small (suc i) (omega arith)) h)
