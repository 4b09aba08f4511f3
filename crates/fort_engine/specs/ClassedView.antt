-- To believe: which operand of a product an answer with classes is: its table, or its truth.
use Rattle.std.specs.Prelude.{◌≡◌, ℕ, List}
use Rattle.fort_tables.specs.Tables.{Table, listed_table}
use Rattle.fort_tables.specs.Products.{Operand, OfTable, OfTruth}
use Rattle.fort_parts.specs.PartAnswers.{Answer}
use Rattle.fort_parts.specs.PartSteps.{operand_of}
use Rattle.fort_classed_tables.specs.declared.classed_table.ClassedTable.{ClassedTable}
use Rattle.fort_engine.specs.declared.classed.ClassedAnswer.{ClassedAnswer}
use Rattle.fort_engine.specs.declared.classed.ClassedAnswer.TheVariants.{Auto, Truth}

abbrev pub classed_table : ClassedTable → Table
classed_table c = listed_table c.table.now

abbrev pub operand_in : ClassedAnswer → List ℕ → Operand
operand_in (Auto c) places = OfTable (classed_table c) places
operand_in (Truth b) places = OfTruth b

-- two answers as operands at these places
pub record AreClassed (a : Answer) (places : List ℕ) (first : ClassedAnswer) (b : Answer) (others : List ℕ) (second : ClassedAnswer) : Type 0 where
  pub first_is : operand_in first places ≡ operand_of a places
  pub second_is : operand_in second others ≡ operand_of b others
