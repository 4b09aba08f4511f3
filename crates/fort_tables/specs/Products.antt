-- To believe: the label of a product: the presence, and for each of two operands its state, counted from 1, on its own columns, or 0 where none of these is present or it is a truth; which labels a connective accepts.
use Rattle.std.specs.Prelude.{◌≡◌, ℕ, suc, ◌-◌, List, [], ◌∷◌, map, take, length, get_or, Bool, not, ◌&&◌, ◌||◌, if◌then◌else◌}
use Rattle.fort_theory.specs.Logic.{Connective, And, Or, Iff}
use Rattle.fort_theory.specs.Signatures.{Signature}
use Rattle.fort_tables.specs.Tuples.{Tuple, TupleSymbol, presence, symbol_kids}
use Rattle.fort_tables.specs.Entries.{entry}
use Rattle.fort_tables.specs.Tables.{Table, IsTable, IsReached, state_of}
use Rattle.fort_tables.specs.LabelRules.{LabelRule}
use Rattle.fort_tables.specs.Selections.{selected, is_present, ArePlaces}

-- a table with the places of its columns among those of the product, or a truth
pub data Operand : Type 0 where
  OfTable : (table : Table) (places : List ℕ) → Operand
  OfTruth : Bool → Operand

-- a truth has no columns
abbrev pub places_of : Operand → List ℕ
places_of (OfTable table places) = places
places_of (OfTruth b) = []

-- that of the first operand that is a table
abbrev pub signature_of : Operand → Operand → Signature
signature_of (OfTable table places) second = table.signature
signature_of (OfTruth b) (OfTable table places) = table.signature
signature_of (OfTruth b) (OfTruth c) = []

-- a place for each of the table's columns
abbrev pub IsOperand : Signature → ℕ → Operand → Type 0
IsOperand sig columns (OfTable table places) = (table.signature ≡ sig) × ((length places ≡ table.columns) × ArePlaces columns places)
IsOperand sig columns (OfTruth b) = Unit {0}

pub record AreOperands (sig : Signature) (columns : ℕ) (first second : Operand) : Type 0 where
  pub first_is : IsOperand sig columns first
  pub second_is : IsOperand sig columns second

abbrev pub IsLawful : Operand → Type 0
IsLawful (OfTable table places) = IsTable table × IsReached table
IsLawful (OfTruth b) = Unit {0}

-- an operand's word in the label of a tuple
abbrev pub operand_word : Operand → Tuple → ℕ
operand_word (OfTable table places) t = if is_present (selected places t) then suc (state_of table (selected places t)) else 0
operand_word (OfTruth b) t = 0

-- the state that the word at i tells
abbrev pub state_at : ℕ → List ℕ → ℕ
state_at i w = get_or w i 0 - 1

-- the same from the root's symbol and the children's labels, in which it is word i; of the children, the first ones count, as many
-- as the operand's own columns have
abbrev pub operand_step : ℕ → Operand → TupleSymbol → List (List ℕ) → ℕ
operand_step i (OfTable table places) f ws =
    if is_present (selected places f)
    then suc (table.target (entry (selected places f) (map (state_at i) (take (symbol_kids table.signature (selected places f)) ws))))
    else 0
operand_step i (OfTruth b) f ws = 0

abbrev pub product_rule : ℕ → Operand → Operand → LabelRule
product_rule columns first second = record {
  signature = signature_of first second;
  columns = columns;
  step = λ f ws. presence f ∷ operand_step 1 first f ws ∷ operand_step 2 second f ws ∷ [];
}

abbrev pub connected : Connective → Bool → Bool → Bool
connected And a b = a && b
connected Or a b = a || b
connected Iff a b = if a then b else not b

-- whether the operand accepts, by its word in the label of a tuple of terms
abbrev pub operand_accepts : ℕ → Operand → List ℕ → Bool
operand_accepts i (OfTable table places) w = table.accepting (state_at i w)
operand_accepts i (OfTruth b) w = b

abbrev pub product_accepts : Connective → Operand → Operand → List ℕ → Bool
product_accepts op first second w = connected op (operand_accepts 1 first w) (operand_accepts 2 second w)
