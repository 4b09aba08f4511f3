use Rattle.std.proofs.Common.{◌≡◌, ◌-◌, ◌^◌, min}
use Rattle.fort_tables.specs.Tuples.{kid_presence}
use Rattle.fort_target_lists.proofs.PlaceLaws.{room}
use Rattle.fort_classed_tables.proofs.counted.Counted.room.Given as goal

abbrev pub invariant-loop-i : goal.invariant-loop-i
invariant-loop-i l = l.room ≡ min (room l.self.table.now.presences (kid_presence l.self.table.now.signature l.symbol) l.from l.i) (2 ^ 64 - 1)
