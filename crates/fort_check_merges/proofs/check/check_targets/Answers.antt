use Rattle.std.proofs.Common.{refl, arith}
use Rattle.fort_check_steps.proofs.RoomLaws.{lay_fewer, list_fewer}
use Rattle.fort_check_merges.specs.GivenMerges.{listed_in}
use Rattle.fort_check_merges.proofs.RoomTables.{states_most}
use Rattle.fort_check_merges.proofs.check.check_targets.Goals as goal

pub lay-requires-clause-room : goal.lay-requires-clause-room
lay-requires-clause-room c = lay_fewer c.requires.scratch.lay (states_most (listed_in c.args.given.now) c.requires.table.listed)

pub lay-requires-clause-list_room : goal.lay-requires-clause-list_room
lay-requires-clause-list_room c = list_fewer c.requires.scratch.list (states_most (listed_in c.args.given.now) c.requires.table.listed) (omega arith)

pub check_entries-requires-clause-list : goal.check_entries-requires-clause-list
check_entries-requires-clause-list c =
    c.lay.ensures.list (listed_in c.args.given.now)
    (record { listed = c.requires.table.listed; signature = refl; columns_are = refl; presences_are = refl; targets_are = refl })
