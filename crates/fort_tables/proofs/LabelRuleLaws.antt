-- The laws of the labels of a rule, and that a table of labels is one by labels.
use Rattle.std.proofs.Common.{◌≡◌, ℕ, List, map, length, Bool, sym, subst}
use Rattle.fort_theory.specs.Signatures.{Signature}
use Rattle.fort_tables.specs.Tuples.{Tuple, TupleSymbol, root, kids, presence, IsTuple}
use Rattle.fort_tables.specs.Entries.{Entry}
use Rattle.fort_tables.specs.Tables.{Table, IsTable, IsReached}
use Rattle.fort_tables.specs.Labels.{Labelling, first_word, TellsPresence, HasWidth, GivesLabel, IsTableOf}
use Rattle.fort_tables.specs.LabelRules.{LabelRule, label_of, entry_label, IsTableBy}
use Rattle.fort_tables.proofs.TupleLaws.{fold_tuple-step}
use Rattle.fort_tables.proofs.FoldLaws.{GivesLabel-fold, TellsPresence-fold, HasWidth-fold}

-- Result: the label of a tuple comes from its root and its children's labels
pub label_of-step : (r : LabelRule) (t : Tuple) → label_of r t ≡ r.step (root t) (map (label_of r) (kids t))
label_of-step r t = fold_tuple-step r.step t

pub TellsPresence-rule : (sig : Signature) (r : LabelRule) → ((f : TupleSymbol) (ws : List (List ℕ)) → first_word (r.step f ws) ≡ presence f) → TellsPresence sig r.columns (label_of r)
TellsPresence-rule sig r tells = TellsPresence-fold sig r.columns r.step tells

pub HasWidth-rule : (sig : Signature) (r : LabelRule) (width : ℕ) → ((f : TupleSymbol) (ws : List (List ℕ)) → length (r.step f ws) ≡ width) → HasWidth sig r.columns (label_of r) width
HasWidth-rule sig r width h = HasWidth-fold sig r.columns width r.step h

pub GivesLabel-rule : (sig : Signature) (n : ℕ) (r : LabelRule) (labels : List (List ℕ)) (e : Entry) (out : List ℕ) → out ≡ entry_label r labels e → GivesLabel sig n (label_of r) labels e out
GivesLabel-rule sig n r labels e out is = GivesLabel-fold sig n r.step labels e out is

-- each state of a table of labels has a tuple
pub IsReached-labels : (sig : Signature) (n : ℕ) (label : Labelling) (accepting : List ℕ → Bool) (table : Table) → IsTableOf sig n label accepting table → IsReached table
IsReached-labels sig n label accepting table h q l =
    let r = h.reached q l in
    let is : IsTuple table.signature table.columns r.0 = subst (λ (s : Signature). IsTuple s table.columns r.0) (sym h.signature) (subst (λ (c : ℕ). IsTuple sig c r.0) (sym h.columns_are) r.1) in
    (r.0, is, r.2)

pub IsTableBy-labels : (sig : Signature) (n : ℕ) (label : Labelling) (accepting : List ℕ → Bool) (table : Table) → IsTableOf sig n label accepting table → IsTable table → IsTableBy sig n label accepting table
IsTableBy-labels sig n label accepting table h lawful = record {
  signature = h.signature;
  columns_are = h.columns_are;
  lawful = lawful;
  reached = IsReached-labels sig n label accepting table h;
  full = h.full;
  partial = h.partial;
}
