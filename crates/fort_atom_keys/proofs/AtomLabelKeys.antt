-- The labels of an atom go by its keys, over any signature.
use Rattle.std.proofs.Common.{◌≡◌, ℕ, List, Bool, refl, sym, subst}
use Rattle.fort_theory.specs.Signatures.{Signature}
use Rattle.fort_theory.specs.Trees.{Tree}
use Rattle.fort_theory.specs.Patterns.{Pattern}
use Rattle.fort_tables.specs.LabelRules.{label_of}
use Rattle.fort_classes.specs.Keys.{GoesByEachKey}
use Rattle.fort_label_keys.specs.ViewKeys.{keys_by}
use Rattle.fort_alike.specs.ListedAtoms.{ListedAtom}
use Rattle.fort_alike.specs.Subterms.{subterms}
use Rattle.fort_alike.specs.AtomRules.{atom_rule}
use Rattle.fort_relation_exprs.specs.RexView.{rex_rule, rex_words}
use Rattle.fort_context_closure.specs.PlainAtoms.{no_closure, signed}
use Rattle.fort_context_closure.specs.ClosedAtoms.{test_of}
use Rattle.fort_context_closure.specs.AtomLabelsView.{rule_by, label_by, word_count}
use Rattle.fort_context_closure.specs.declared.atom_labels.AtomLabels.{AtomLabels}
use Rattle.fort_context_closure.specs.declared.atom_labels.AtomLabels.TheVariants.{Relation, Expression, Normal, Is}
use Rattle.fort_mark_keys.specs.MaskedWords.{masked}
use Rattle.fort_mark_keys.specs.AskedMarks.{asked_mask, HasSides}
use Rattle.fort_mark_keys.specs.AskedTerms.{asked_numbers, number_seen}
use Rattle.fort_mark_keys.specs.MarkKeysView.{keys_seen}
use Rattle.fort_mark_keys.specs.TermKeysView.{listed_seen}
use Rattle.fort_mark_keys.specs.declared.mark_keys.MarkKeys.{MarkKeys}
use Rattle.fort_mark_keys.proofs.MaskKeyLaws.{GoesByEachKey-whole, GoesByEachKey-masks, AsksAs-patterns}
use Rattle.fort_mark_keys.proofs.TermKeyLaws.{GoesByEachKey-term}
use Rattle.fort_atom_keys.specs.KeysView.{view_of, key_of, words_of, AreMasksOf}
use Rattle.fort_atom_keys.specs.declared.keys.AtomKeys.{AtomKeys}
use Rattle.fort_atom_keys.specs.declared.keys.AtomKeys.TheVariants.{Marks, Whole, Term}

-- the keys are of the labels' own sort, and of their own patterns, width or term
abbrev pub AreKeysOf : AtomLabels → AtomKeys → Type 0
AreKeysOf (Relation c) (Marks k) = AreMasksOf c.atom k
AreKeysOf (Relation c) (Whole k) = ⊥
AreKeysOf (Relation c) (Term k) = ⊥
AreKeysOf (Expression r) (Marks k) = ⊥
AreKeysOf (Expression r) (Whole k) = k.width ≡ rex_words r
AreKeysOf (Expression r) (Term k) = ⊥
AreKeysOf (Normal a) (Marks k) = AreMasksOf a k
AreKeysOf (Normal a) (Whole k) = ⊥
AreKeysOf (Normal a) (Term k) = ⊥
AreKeysOf (Is term) (Marks k) = ⊥
AreKeysOf (Is term) (Whole k) = ⊥
AreKeysOf (Is term) (Term k) = listed_seen k ≡ subterms term

-- no mask reads the signature
goes-masks : (sig : Signature) (n : ℕ) (a : ListedAtom) (closure : Pattern → Pattern → Bool) (k : MarkKeys) → AreMasksOf a k
    → GoesByEachKey sig n (label_of (atom_rule (signed sig a) closure)) (keys_by (asked_mask (keys_seen k)) masked)
goes-masks sig n a closure k own =
    let sides : HasSides (signed sig a) = record { lefts = own.sides.lefts; rights = own.sides.rights } in
    GoesByEachKey-masks sig n (signed sig a) closure (keys_seen k) sides (AsksAs-patterns (keys_seen k) (signed sig a) own.patterns)

-- Result: the labels of an atom go by its keys
pub GoesByEachKey-keys : (sig : Signature) (l : AtomLabels) (k : AtomKeys) → AreKeysOf l k
    → GoesByEachKey sig (rule_by sig l).columns (label_by sig l) (keys_by (view_of k) (key_of k))
GoesByEachKey-keys sig (Relation c) (Marks k) h = goes-masks sig c.atom.atom.columns c.atom (test_of c) k h
GoesByEachKey-keys sig (Relation c) (Whole k) h = absurd h
GoesByEachKey-keys sig (Relation c) (Term k) h = absurd h
GoesByEachKey-keys sig (Expression r) (Marks k) h = absurd h
GoesByEachKey-keys sig (Expression r) (Whole k) h = GoesByEachKey-whole sig (rex_rule sig r).columns (rex_rule sig r)
GoesByEachKey-keys sig (Expression r) (Term k) h = absurd h
GoesByEachKey-keys sig (Normal a) (Marks k) h = goes-masks sig a.atom.columns a no_closure k h
GoesByEachKey-keys sig (Normal a) (Whole k) h = absurd h
GoesByEachKey-keys sig (Normal a) (Term k) h = absurd h
GoesByEachKey-keys sig (Is term) (Marks k) h = absurd h
GoesByEachKey-keys sig (Is term) (Whole k) h = absurd h
GoesByEachKey-keys sig (Is term) (Term k) h =
    subst (λ (listed : List Tree). GoesByEachKey sig 1 (label_by sig (Is term)) (keys_by (asked_numbers listed) number_seen)) (sym h)
    (GoesByEachKey-term sig 1 (subterms term))

-- Result: keys of labels are as wide as the labels
pub words-keys : (l : AtomLabels) (k : AtomKeys) → AreKeysOf l k → words_of k ≡ word_count l
words-keys (Relation c) (Marks k) h = (AsksAs-patterns (keys_seen k) c.atom h.patterns).words
words-keys (Relation c) (Whole k) h = absurd h
words-keys (Relation c) (Term k) h = absurd h
words-keys (Expression r) (Marks k) h = absurd h
words-keys (Expression r) (Whole k) h = h
words-keys (Expression r) (Term k) h = absurd h
words-keys (Normal a) (Marks k) h = (AsksAs-patterns (keys_seen k) a h.patterns).words
words-keys (Normal a) (Whole k) h = absurd h
words-keys (Normal a) (Term k) h = absurd h
words-keys (Is term) (Marks k) h = absurd h
words-keys (Is term) (Whole k) h = absurd h
words-keys (Is term) (Term k) h = refl
