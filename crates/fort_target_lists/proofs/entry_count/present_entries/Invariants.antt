use Rattle.std.proofs.Common.{◌≡◌, ℕ, ◌-◌, ◌^◌, min, List}
use Rattle.fort_tables.specs.Tuples.{kid_presence}
use Rattle.fort_target_lists.specs.Places.{AreCounts}
use Rattle.fort_target_lists.proofs.PlaceLaws.{room}
use Rattle.fort_target_lists.proofs.entry_count.present_entries.Given as goal

abbrev pub invariant-loop-j : goal.invariant-loop-j
invariant-loop-j l = (ps : List ℕ) → AreCounts ps l.counts → l.entries ≡ min (room ps (kid_presence l.signature l.symbol) 0 l.j) (2 ^ 64 - 1)
