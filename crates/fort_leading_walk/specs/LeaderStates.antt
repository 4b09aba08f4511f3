-- Inside: the states up to the newest one that lead at each place, in order, and the test whether child states lead.
use Rattle.std.specs.Prelude.{ℕ, suc, ◌+◌, List, [], ◌∷◌, filter, Bool, true, ◌&&◌, ◌==◌}
use Rattle.fort_tables.specs.Tuples.{TupleSymbol}
use Rattle.fort_classes.specs.Leaders.{Leaders}
use Rattle.fort_entry_walk.specs.Walks.{states_with}

-- the state is the first of its class at this place
abbrev pub opens_class : Leaders → TupleSymbol → ℕ → ℕ → Bool
opens_class lead f j q = lead f j q == q

-- each child from child j on is its class's leader
abbrev pub all_lead : Leaders → TupleSymbol → ℕ → List ℕ → Bool
all_lead lead f j [] = true
all_lead lead f j (k ∷ ks) = opens_class lead f j k && all_lead lead f (suc j) ks

-- from child j on, for each presence that is wanted the states that have it and lead there
abbrev pub leader_states : Leaders → TupleSymbol → List ℕ → ℕ → ℕ → List ℕ → List (List ℕ)
leader_states lead f ps newest j [] = []
leader_states lead f ps newest j (want ∷ wants) = filter (opens_class lead f j) (states_with ps want 0 (newest + 1)) ∷ leader_states lead f ps newest (suc j) wants
