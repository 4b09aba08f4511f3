-- Inside: whether an entry comes before another, as a test.
use Rattle.std.specs.Prelude.{ℕ, List, [], ◌∷◌, Option, None, Some, Bool, true, false, nat_lt, if◌then◌else◌}
use Rattle.fort_tables.specs.Tuples.{TupleSymbol}
use Rattle.fort_tables.specs.Entries.{Entry, stage}

abbrev pub column_test : Option ℕ → Option ℕ → Bool
column_test x None = false
column_test None (Some h) = true
column_test (Some g) (Some h) = nat_lt g h

abbrev pub symbol_test : TupleSymbol → TupleSymbol → Bool
symbol_test [] ys = false
symbol_test (x ∷ xs) [] = false
symbol_test (x ∷ xs) (y ∷ ys) = if column_test x y then true else (if column_test y x then false else symbol_test xs ys)

abbrev pub states_test : List ℕ → List ℕ → Bool
states_test [] ys = false
states_test (x ∷ xs) [] = false
states_test (x ∷ xs) (y ∷ ys) = if nat_lt x y then true else (if nat_lt y x then false else states_test xs ys)

-- whether an entry comes before another, as a test
abbrev pub entry_test : Entry → Entry → Bool
entry_test a b =
    if nat_lt (stage a.kids) (stage b.kids) then true
    else (if nat_lt (stage b.kids) (stage a.kids) then false
    else (if symbol_test a.symbol b.symbol then true
    else (if symbol_test b.symbol a.symbol then false
    else states_test a.kids b.kids)))
