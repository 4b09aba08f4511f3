-- To believe: the operand that a program's operand is.
use Rattle.fort_tables.specs.Tables.{Table}
use Rattle.fort_tables.specs.Products as products
use Rattle.fort_products.specs.declared.operand.Operand.{Operand}
use Rattle.fort_products.specs.declared.operand.Operand.TheVariants.{Auto, Truth}

abbrev pub operand_of : {T : Type 0} → (T → Table) → Operand T → products.Operand
operand_of table (Auto t places) = products.OfTable (table t.now) places.now
operand_of table (Truth b) = products.OfTruth b
