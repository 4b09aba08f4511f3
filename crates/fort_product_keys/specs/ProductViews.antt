-- To believe: what a place asks of the label of a product's child: for each operand one more than the number of its view there, and the presence of its states there, or twice 0 where the operand has no such child or is a truth; and the key by this: for each operand one more than the leader, in the view, of the state that the label tells, or 0.
use Rattle.std.specs.Prelude.{◌≡◌, ℕ, suc, ◌-◌, List, [], ◌∷◌, length, get_or, Bool, ◌&&◌, ◌==◌, nat_lt, if◌then◌else◌}
use Rattle.fort_theory.specs.Signatures.{Signature}
use Rattle.fort_tables.specs.Tuples.{TupleSymbol, symbol_kids, kid_presence}
use Rattle.fort_tables.specs.Tables.{Table}
use Rattle.fort_tables.specs.Selections.{selected}
use Rattle.fort_tables.specs.Products.{Operand, OfTable, OfTruth, IsOperand}
use Rattle.fort_table_classes.specs.KnownSymbols.{are_symbols}

-- whether the symbol has so many columns, and the table's own ones have such a child
abbrev pub has_kid_at : Table → List ℕ → ℕ → TupleSymbol → ℕ → Bool
has_kid_at table places columns f j = (length f == columns) && (are_symbols table.signature f && nat_lt j (symbol_kids table.signature (selected places f)))

-- one more than the number of the place's view, by these numbers of the table's views
abbrev pub view_word : (TupleSymbol → ℕ → ℕ) → Operand → ℕ → TupleSymbol → ℕ → ℕ
view_word number (OfTable table places) columns f j = if has_kid_at table places columns f j then suc (number (selected places f) j) else 0
view_word number (OfTruth b) columns f j = 0

-- the presence of the states there
abbrev pub presence_word : Operand → ℕ → TupleSymbol → ℕ → ℕ
presence_word (OfTable table places) columns f j = if has_kid_at table places columns f j then kid_presence table.signature (selected places f) j else 0
presence_word (OfTruth b) columns f j = 0

-- whether the word tells a state of this presence
abbrev pub tells_state : Table → ℕ → ℕ → Bool
tells_state table presence word = nat_lt 0 word && (nat_lt (word - 1) (length table.presences) && (get_or table.presences (word - 1) 0 == presence))

-- one more than the leader of the state; the word itself where it tells none that may stand there
abbrev pub key_word : (ℕ → ℕ → ℕ) → Operand → ℕ → ℕ → ℕ → ℕ
key_word leader (OfTable table places) view presence word =
    if view == 0 then 0 else if tells_state table presence word then suc (leader (view - 1) (word - 1)) else word
key_word leader (OfTruth b) view presence word = 0

-- numbers of views for each operand, and the leaders in them
abbrev pub product_view : (TupleSymbol → ℕ → ℕ) → (TupleSymbol → ℕ → ℕ) → Operand → Operand → ℕ → TupleSymbol → ℕ → List ℕ
product_view number1 number2 first second columns f j =
    view_word number1 first columns f j ∷ presence_word first columns f j ∷ view_word number2 second columns f j ∷ presence_word second columns f j ∷ []

abbrev pub key_in_view : (ℕ → ℕ → ℕ) → (ℕ → ℕ → ℕ) → Operand → Operand → List ℕ → List ℕ → List ℕ
key_in_view leader1 leader2 first second seen w =
    key_word leader1 first (get_or seen 0 0) (get_or seen 1 0) (get_or w 1 0) ∷ key_word leader2 second (get_or seen 2 0) (get_or seen 3 0) (get_or w 2 0) ∷ []

-- the two words of a view are those of some place of a product
pub record IsSomeView (number : TupleSymbol → ℕ → ℕ) (o : Operand) (view presence : ℕ) : Type 0 where
  pub signature : Signature
  pub columns : ℕ
  pub operand : IsOperand signature columns o
  pub symbol : TupleSymbol
  pub place : ℕ
  pub view_is : view ≡ view_word number o columns symbol place
  pub presence_is : presence ≡ presence_word o columns symbol place
