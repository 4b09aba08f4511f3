-- Law: the signature and the columns of the rule of an atom's labels; the first word of a label is the presence, and all have one width.
use Rattle.std.specs.Prelude.{◌≡◌, ℕ, List, length, refl}
use Rattle.fort_theory.specs.Signatures.{Signature}
use Rattle.fort_tables.specs.Tuples.{TupleSymbol, presence}
use Rattle.fort_tables.specs.Labels.{first_word}
use Rattle.fort_alike.specs.AtomRules.{marks_of}
use Rattle.fort_alike.proofs.Bits.{length-row_of}
use Rattle.fort_context_closure.specs.declared.atom_labels.AtomLabels.{AtomLabels}
use Rattle.fort_context_closure.specs.declared.atom_labels.AtomLabels.TheVariants.{Relation, Expression, Normal, Is}
use Rattle.fort_relation_exprs.specs.RexWords.{has_rex_words}
use Rattle.fort_context_closure.specs.AtomLabelsView.{column_count, word_count, rule_by}

pub signature_by : (sig : Signature) (l : AtomLabels) → (rule_by sig l).signature ≡ sig
signature_by sig (Relation c) = refl
signature_by sig (Expression l) = refl
signature_by sig (Normal a) = refl
signature_by sig (Is term) = refl

pub columns_by : (sig : Signature) (l : AtomLabels) → (rule_by sig l).columns ≡ column_count l
columns_by sig (Relation c) = refl
columns_by sig (Expression l) = refl
columns_by sig (Normal a) = refl
columns_by sig (Is term) = refl

pub tells_by : (sig : Signature) (l : AtomLabels) (f : TupleSymbol) (ws : List (List ℕ)) → first_word ((rule_by sig l).step f ws) ≡ presence f
tells_by sig (Relation c) f ws = refl
tells_by sig (Expression l) f ws = refl
tells_by sig (Normal a) f ws = refl
tells_by sig (Is term) f ws = refl

pub has_words_by : (sig : Signature) (l : AtomLabels) (f : TupleSymbol) (ws : List (List ℕ)) → length ((rule_by sig l).step f ws) ≡ word_count l
has_words_by sig (Relation c) f ws = length-row_of (marks_of c.atom) (presence f) _
has_words_by sig (Expression l) f ws = has_rex_words sig l f ws
has_words_by sig (Normal a) f ws = length-row_of (marks_of a) (presence f) _
has_words_by sig (Is term) f ws = refl
