-- To believe: the tuple symbol that a number has in a base, its first column the greatest digit.
use Rattle.std.specs.Prelude.{ℕ, zero, suc, ◌/◌, ◌%◌, ◌^◌, [], ◌∷◌}
use Rattle.fort_tables.specs.Tuples.{TupleSymbol}
use Rattle.fort_tuple_symbols.specs.Columns.{column_of}

-- the last n columns that a number has
abbrev pub columns_at : ℕ → ℕ → ℕ → TupleSymbol
columns_at base zero number = []
columns_at base (suc n) number = column_of (number / base ^ n % base) ∷ columns_at base n number
