use Rattle.std.proofs.Common.{◌-◌, take, length}
use Rattle.fort_tables.specs.Tables.{Table}
use Rattle.fort_target_lists.specs.ToldWalks.{IsBefore}
use Rattle.fort_target_lists.proofs.ToldLaws.{IsToldBelow}
use Rattle.fort_target_lists.proofs.told_walk.ToldWalk.+lay_kids.Given as goal

abbrev pub decreases-lay_kids : goal.decreases-lay_kids
decreases-lay_kids g l = l.rest

abbrev pub decreases-states : goal.decreases-states
decreases-states g l = length l.self.chains.now.nexts.items - l.q

abbrev pub invariant-states : goal.invariant-states
invariant-states g l = (body : Table) → IsBefore body l.self l.symbol (take l.j l.kids) l.j l.rest → g.T.EntryTargets.turned l.targets body l.symbol
    → IsToldBelow body l.symbol (take l.j l.kids) l.j (l.rest - 1) l.q l.initial.laid.items l.laid.items
