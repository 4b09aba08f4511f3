-- To believe: what a place asks of the label of a product's child, and the key by this, by the views of a program's operands; a truth has none.
use Rattle.std.specs.Prelude.{ℕ, List}
use Rattle.fort_tables.specs.Tuples.{TupleSymbol}
use Rattle.fort_tables.specs.Tables.{Table}
use Rattle.fort_products.specs.Operands.{operand_of}
use Rattle.fort_products.specs.declared.operand.Operand.{Operand}
use Rattle.fort_products.specs.declared.operand.Operand.TheVariants.{Auto, Truth}
use Rattle.fort_product_keys.specs.ProductViews.{product_view, key_in_view}

-- the numbers of an operand's views, and the leaders in them
abbrev pub numbers_of : {T : Type 0} → (T → TupleSymbol → ℕ → ℕ) → Operand T → TupleSymbol → ℕ → ℕ
numbers_of number (Auto t places) f j = number t.now f j
numbers_of number (Truth b) f j = 0

abbrev pub leaders_of : {T : Type 0} → (T → ℕ → ℕ → ℕ) → Operand T → ℕ → ℕ → ℕ
leaders_of leader (Auto t places) view state = leader t.now view state
leaders_of leader (Truth b) view state = state

-- the view of a place, by the tables' numbers of views
abbrev pub view_of : {T : Type 0} → (T → Table) → (T → TupleSymbol → ℕ → ℕ) → Operand T → Operand T → ℕ → TupleSymbol → ℕ → List ℕ
view_of table number first second columns = product_view (numbers_of number first) (numbers_of number second) (operand_of table first) (operand_of table second) columns

-- the key in a view, by the tables' leaders in views
abbrev pub key_of : {T : Type 0} → (T → Table) → (T → ℕ → ℕ → ℕ) → Operand T → Operand T → List ℕ → List ℕ → List ℕ
key_of table leader first second = key_in_view (leaders_of leader first) (leaders_of leader second) (operand_of table first) (operand_of table second)
