-- Inside: entries over labels in which one word is an operand's; the entry of the operand below one.
use Rattle.std.specs.Prelude.{◌≡◌, ◌<◌, ◌≤◌, ℕ, List, [], map, take, length, get_or}
use Rattle.fort_theory.specs.Signatures.{Signature}
use Rattle.fort_tables.specs.Tuples.{Tuple, presence, IsTuple, IsFull, AreSymbols, symbol_kids}
use Rattle.fort_tables.specs.Entries.{Entry, entry, IsEntry}
use Rattle.fort_tables.specs.Tables.{Table, IsTableEntry}
use Rattle.fort_tables.specs.Labels.{first_word}
use Rattle.fort_tables.specs.Selections.{selected}
use Rattle.fort_tables.specs.Products.{Operand, IsOperand, operand_word, state_at}

-- the label tells the tuple's presence, and word i of it is the operand's
pub record IsWordOf (o : Operand) (i : ℕ) (w : List ℕ) (t : Tuple) : Type 0 where
  pub first : first_word w ≡ presence t
  pub word : get_or w i 0 ≡ operand_word o t

pub record IsOverWords (sig : Signature) (columns : ℕ) (o : Operand) (i : ℕ) (labels : List (List ℕ)) (e : Entry) : Type 0 where
  pub entry : IsEntry sig columns (map first_word labels) e
  pub operand : IsOperand sig columns o
  pub words : (q : ℕ) → q < length labels → (t : Tuple) × IsTuple sig columns t × IsWordOf o i (get_or labels q []) t

-- the operand's entry below one of all columns
pub record IsOperandEntry (table : Table) (places : List ℕ) (i : ℕ) (e : Entry) (ws : List (List ℕ)) : Type 0 where
  pub symbols : AreSymbols table.signature (selected places e.symbol)
  pub count : symbol_kids table.signature (selected places e.symbol) ≤ length ws
  pub entry : IsTableEntry table (entry (selected places e.symbol) (map (state_at i) (take (symbol_kids table.signature (selected places e.symbol)) ws)))

-- word i of the label is the operand's of some tuple of terms
pub record IsFullWordAt (o : Operand) (i : ℕ) (w : List ℕ) : Type 0 where
  pub signature : Signature
  pub columns : ℕ
  pub operand : IsOperand signature columns o
  pub tuple : Tuple
  pub is_tuple : IsTuple signature columns tuple
  pub full : IsFull tuple
  pub word : get_or w i 0 ≡ operand_word o tuple
