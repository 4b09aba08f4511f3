-- To believe: how many entries are of a tuple symbol.
use Rattle.std.specs.Prelude.{ℕ, ◌+◌, List, [], ◌∷◌, Option, None, Some, Bool, true, false, ◌&&◌, ◌==◌, if◌then◌else◌}
use Rattle.fort_tables.specs.Tuples.{TupleSymbol}
use Rattle.fort_tables.specs.Entries.{Entry}

abbrev pub same_column : Option ℕ → Option ℕ → Bool
same_column None None = true
same_column None (Some h) = false
same_column (Some g) None = false
same_column (Some g) (Some h) = g == h

abbrev pub same_symbol : TupleSymbol → TupleSymbol → Bool
same_symbol [] [] = true
same_symbol [] (y ∷ ys) = false
same_symbol (x ∷ xs) [] = false
same_symbol (x ∷ xs) (y ∷ ys) = same_column x y && same_symbol xs ys

-- how many entries are of this tuple symbol
abbrev pub count_with : TupleSymbol → List Entry → ℕ
count_with f [] = 0
count_with f (e ∷ es) = (if same_symbol f e.symbol then 1 else 0) + count_with f es
