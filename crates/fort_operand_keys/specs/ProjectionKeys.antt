-- To believe: the key of a projection's label at a place: the leader of the body's state with the column absent, at the symbol with the column absent and at each symbol in the column that has no such child; and for each symbol in the column that has one, the leaders of the states of the label's set.
use Rattle.std.specs.Prelude.{ℕ, List, [], ◌∷◌, length, None, Some, nat_lt, Bool, ◌&&◌, ◌==◌, if◌then◌else◌}
use Rattle.std.specs.List.{insert}
use Rattle.fort_tables.specs.Tuples.{TupleSymbol, arity}
use Rattle.fort_tables.specs.Tables.{Table}
use Rattle.fort_tables.specs.BitRows.{bit_row}
use Rattle.fort_tables.specs.Laid.{joined_below}
use Rattle.fort_tables.specs.Projections.{some_below, absent_state, has_state}
use Rattle.fort_classes.specs.Leaders.{Leaders}
use Rattle.fort_classes.specs.Keys.{Keys}

-- whether some state below n that passes has this leader
abbrev pub some_led : ℕ → (ℕ → ℕ) → (ℕ → Bool) → ℕ → Bool
some_led n leader passes r = some_below n (λ q. passes q && (leader q == r))

-- the leaders of the states below n that pass, as a row of bits
abbrev pub leader_row : ℕ → (ℕ → ℕ) → (ℕ → Bool) → List ℕ
leader_row n leader passes = bit_row n (some_led n leader passes)

-- what the symbol g in column c asks of child j
abbrev pub key_under : Table → ℕ → Leaders → TupleSymbol → ℕ → List ℕ → ℕ → List ℕ
key_under body c lead f j w g =
    if nat_lt j (arity body.signature g)
    then leader_row (length body.presences) (lead (insert f c (Some g)) j) (has_state w)
    else lead (insert f c (Some g)) j (absent_state w) ∷ []

abbrev pub projection_key : Table → ℕ → Leaders → Keys
projection_key body c lead f j w = lead (insert f c None) j (absent_state w) ∷ joined_below (length body.signature) (key_under body c lead f j w)
