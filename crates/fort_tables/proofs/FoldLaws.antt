-- A labelling that is a fold: what its step makes of an entry is the label of each tuple of that root and of children so labelled.
use Rattle.std.proofs.Common.{◌≡◌, ℕ, List, [], map, length, get_or, ap, sym, ◌∙◌}
use Rattle.fort_theory.specs.Signatures.{Signature}
use Rattle.fort_tables.specs.Tuples.{Tuple, TupleSymbol, rebuilt, root, kids, presence, IsTupleSymbol, AreKids, fold_tuple}
use Rattle.fort_tables.specs.Entries.{Entry}
use Rattle.fort_tables.proofs.TupleLaws.{fold_tuple-step, root-rebuilt, kids-rebuilt, IsTuple-rebuilt}
use Rattle.fort_tables.specs.Labels.{Labelling, first_word, TellsPresence, HasWidth, GivesLabel}
use Rattle.fort_tables.proofs.TableLaws.{presence_root}

pub GivesLabel-fold : (sig : Signature) (n : ℕ) (step : TupleSymbol → List (List ℕ) → List ℕ) (labels : List (List ℕ)) (e : Entry) (out : List ℕ) → out ≡ step e.symbol (map (λ q. get_or labels q []) e.kids) → GivesLabel sig n (fold_tuple step) labels e out
GivesLabel-fold sig n step labels e out is t h root_is same =
    fold_tuple-step step t
    ∙ (ap (λ f. step f (map (fold_tuple step) (kids t))) root_is
    ∙ (ap (step e.symbol) same ∙ sym is))

-- what is rebuilt from the entry's symbol has the label
pub GivesLabel-rebuilt : (sig : Signature) (n : ℕ) (label : Labelling) (labels : List (List ℕ)) (e : Entry) (out : List ℕ) → GivesLabel sig n label labels e out → IsTupleSymbol sig n e.symbol → (us : List Tuple) → AreKids sig e.symbol us → map label us ≡ map (λ q. get_or labels q []) e.kids → label (rebuilt e.symbol us) ≡ out
GivesLabel-rebuilt sig n label labels e out gives s us h same =
    gives (rebuilt e.symbol us) (IsTuple-rebuilt sig n e.symbol us s h) (root-rebuilt e.symbol us) (ap (map label) (kids-rebuilt sig e.symbol us h) ∙ same)

-- the laws of a labelling that is a fold, from its step
pub TellsPresence-fold : (sig : Signature) (n : ℕ) (step : TupleSymbol → List (List ℕ) → List ℕ) → ((f : TupleSymbol) (ws : List (List ℕ)) → first_word (step f ws) ≡ presence f) → TellsPresence sig n (fold_tuple step)
TellsPresence-fold sig n step h t is = ap first_word (fold_tuple-step step t) ∙ (h (root t) (map (fold_tuple step) (kids t)) ∙ presence_root t)

pub HasWidth-fold : (sig : Signature) (n width : ℕ) (step : TupleSymbol → List (List ℕ) → List ℕ) → ((f : TupleSymbol) (ws : List (List ℕ)) → length (step f ws) ≡ width) → HasWidth sig n (fold_tuple step) width
HasWidth-fold sig n width step h t is = ap length (fold_tuple-step step t) ∙ h (root t) (map (fold_tuple step) (kids t))
