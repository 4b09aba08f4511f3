-- To believe: so many tuples of one column have labels all different in the product of a table and the complement of another.
use Rattle.std.specs.Prelude.{ℕ, List, [], ◌∷◌}
use Rattle.fort_tables.specs.Tuples.{Tuple}
use Rattle.fort_tables.specs.Tables.{Table}
use Rattle.fort_tables.specs.Labels.{HaveLabels}
use Rattle.fort_tables.specs.LabelRules.{label_of}
use Rattle.fort_tables.specs.Products.{OfTable, product_rule}
use Rattle.fort_tables.specs.OperationTruth.{complemented}

abbrev pub HaveDifferenceLabels : Table → Table → ℕ → List Tuple → Type 0
HaveDifferenceLabels first second count ts =
    HaveLabels first.signature 1 (label_of (product_rule 1 (OfTable first (0 ∷ [])) (OfTable (complemented second) (0 ∷ [])))) count ts
