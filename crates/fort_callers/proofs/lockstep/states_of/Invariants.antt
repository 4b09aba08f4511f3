use Rattle.std.proofs.Common.{◌≡◌, map, take}
use Rattle.fort_tables.specs.Entries.{tuples_of}
use Rattle.fort_tables.specs.Tables.{listed_table, state_of}
use Rattle.fort_callers.proofs.lockstep.states_of.Given as goal

abbrev pub invariant-loop-k : goal.invariant-loop-k
invariant-loop-k l = l.states.items ≡ take l.k (map (state_of (listed_table l.table)) (tuples_of l.dag))
