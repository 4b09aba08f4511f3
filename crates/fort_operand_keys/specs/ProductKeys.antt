-- To believe: the key of a product's label at a place: for each operand the leader of its state there, at its own symbol, counted from 1, or 0 where the operand has no such child or is a truth.
use Rattle.std.specs.Prelude.{ℕ, suc, List, [], ◌∷◌, nat_lt, if◌then◌else◌}
use Rattle.fort_tables.specs.Tuples.{TupleSymbol, symbol_kids}
use Rattle.fort_tables.specs.Selections.{selected}
use Rattle.fort_tables.specs.Products.{Operand, OfTable, OfTruth, state_at}
use Rattle.fort_classes.specs.Leaders.{Leaders}
use Rattle.fort_classes.specs.Keys.{Keys}
use Rattle.fort_operand_keys.specs.TableLeaders.{IsLedBy}

-- a truth has no states
abbrev pub IsLedOperand : Operand → Leaders → Type 0
IsLedOperand (OfTable table places) lead = IsLedBy table lead
IsLedOperand (OfTruth b) lead = Unit {0}

-- what is asked of an operand, whose word is word i of the child's label
abbrev pub operand_key : ℕ → Leaders → Operand → TupleSymbol → ℕ → List ℕ → ℕ
operand_key i lead (OfTable table places) f j w = if nat_lt j (symbol_kids table.signature (selected places f)) then suc (lead (selected places f) j (state_at i w)) else 0
operand_key i lead (OfTruth b) f j w = 0

abbrev pub product_key : Leaders → Leaders → Operand → Operand → Keys
product_key lead1 lead2 first second f j w = operand_key 1 lead1 first f j w ∷ operand_key 2 lead2 second f j w ∷ []
