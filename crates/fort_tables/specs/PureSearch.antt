-- Inside: the search for children through the entries with one column alone present.
use Rattle.std.specs.Prelude.{ℕ, ◌-◌, List, [], ◌++◌, length, Some, Bool, ◌&&◌, ◌==◌}
use Rattle.std.specs.List.{insert, list_any}
use Rattle.fort_tables.specs.Tuples.{TupleSymbol, all_absent, arity}
use Rattle.fort_tables.specs.Entries.{entry}
use Rattle.fort_tables.specs.Tables.{Table}
use Rattle.fort_tables.specs.Projections.{is_pure, some_below, some_choice}

-- the symbol g alone in column c
abbrev pub lone_symbol : Table → ℕ → ℕ → TupleSymbol
lone_symbol body c g = insert (all_absent (body.columns - 1)) c (Some g)

abbrev pub has_number : ℕ → List ℕ → Bool
has_number k ks = list_any (λ i. i == k) ks

-- whether k is a child where some choice of the n remaining children gives q
abbrev pub is_child_after : Table → ℕ → TupleSymbol → List ℕ → ℕ → ℕ → ℕ → ℕ → Bool
is_child_after body c f before j n q k =
    some_choice (length body.presences) (λ _ i. is_pure body c i) j n (λ ks. (body.target (entry f (before ++ ks)) == q) && has_number k (before ++ ks))

abbrev pub is_child_under : Table → ℕ → ℕ → ℕ → ℕ → Bool
is_child_under body c q k g = is_child_after body c (lone_symbol body c g) [] 0 (arity body.signature g) q k

-- whether k is a child of some entry with column c alone present that gives q
abbrev pub is_child : Table → ℕ → ℕ → ℕ → Bool
is_child body c q k = some_below (length body.signature) (is_child_under body c q k)
