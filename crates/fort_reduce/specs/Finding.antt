-- Inside: where a list has the targets under one tuple symbol.
use Rattle.std.specs.Prelude.{◌≡◌, ℕ, ◌-◌, ◌^◌, List, get_or, min}
use Rattle.fort_tables.specs.Tuples.{TupleSymbol}
use Rattle.fort_tables.specs.Tables.{Table}
use Rattle.fort_target_lists.specs.Places.{number_of, place_from}
use Rattle.fort_target_lists.specs.Flats.{IsFlatOf}
use Rattle.fort_target_lists.specs.declared.flat.FlatTargets.{FlatTargets}

-- the list is the table's, and the tuple symbol's targets start there
pub record IsStartIn (body : Table) (f : TupleSymbol) (flat : FlatTargets) (start : ℕ) : Type 0 where
  pub flat_is : IsFlatOf body flat
  pub start_is : start ≡ get_or flat.listing.starts.items (number_of flat.base f) 0

-- the place of first child states in the list
abbrev pub place_in : FlatTargets → List ℕ → ℕ
place_in flat ks = min (place_from flat.spots.ranks.items flat.spots.alike.items 0 ks) (2 ^ 64 - 1)
