-- To believe: the key of the label of "infinitely many" at a place: that of the projection, and for each symbol in the column that has such a child, also the leaders of the states that infinitely many terms give.
use Rattle.std.specs.Prelude.{ℕ, List, [], ◌∷◌, ◌++◌, length, None, Some, nat_lt, if◌then◌else◌}
use Rattle.std.specs.List.{insert}
use Rattle.fort_tables.specs.Tuples.{TupleSymbol, arity}
use Rattle.fort_tables.specs.Tables.{Table}
use Rattle.fort_tables.specs.Laid.{joined_below}
use Rattle.fort_tables.specs.Projections.{absent_state, has_state}
use Rattle.fort_tables.specs.ManyLabels.{has_many}
use Rattle.fort_classes.specs.Leaders.{Leaders}
use Rattle.fort_classes.specs.Keys.{Keys}
use Rattle.fort_operand_keys.specs.ProjectionKeys.{leader_row}

-- the leaders of the states of the label's two sets: given by some term, and by infinitely many
abbrev pub both_rows : Table → (ℕ → ℕ) → List ℕ → List ℕ
both_rows body leader w = leader_row (length body.presences) leader (has_state w) ++ leader_row (length body.presences) leader (has_many (length body.presences) w)

-- what the symbol g in column c asks of child j
abbrev pub many_key_under : Table → ℕ → Leaders → TupleSymbol → ℕ → List ℕ → ℕ → List ℕ
many_key_under body c lead f j w g = if nat_lt j (arity body.signature g) then both_rows body (lead (insert f c (Some g)) j) w else lead (insert f c (Some g)) j (absent_state w) ∷ []

abbrev pub many_key : Table → ℕ → Leaders → Keys
many_key body c lead f j w = lead (insert f c None) j (absent_state w) ∷ joined_below (length body.signature) (many_key_under body c lead f j w)
