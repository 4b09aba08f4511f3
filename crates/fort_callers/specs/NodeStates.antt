-- Inside: a node as an entry over the states of the nodes before it.
use Rattle.std.specs.Prelude.{ℕ, List, map, get_or}
use Rattle.fort_tables.specs.Entries.{Entry, entry}

abbrev pub over_states : List ℕ → Entry → Entry
over_states states e = entry e.symbol (map (λ k. get_or states k 0) e.kids)
