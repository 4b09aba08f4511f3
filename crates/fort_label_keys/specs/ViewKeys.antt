-- To believe: the key of a label at a place is its key in the place's view.
use Rattle.std.specs.Prelude.{ℕ, List}
use Rattle.fort_tables.specs.Tuples.{TupleSymbol}
use Rattle.fort_classes.specs.Keys.{Keys}

abbrev pub keys_by : (TupleSymbol → ℕ → List ℕ) → (List ℕ → List ℕ → List ℕ) → Keys
keys_by view key f j label = key (view f j) label
