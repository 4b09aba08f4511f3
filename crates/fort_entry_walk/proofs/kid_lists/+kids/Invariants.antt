use Rattle.std.proofs.Common.{◌≡◌, ◌+◌, ◌-◌, length, ◌*◌}
use Rattle.fort_entry_walk.specs.Walks.{kid_lists_from, states_with}
use Rattle.fort_entry_walk.proofs.kid_lists.+kids.Given as goal

abbrev pub decreases-first_kids : goal.decreases-first_kids
decreases-first_kids l = 2 * length l.wants.now

abbrev pub decreases-first_kids_from : goal.decreases-first_kids_from
decreases-first_kids_from l = 2 * length l.wants.now + 1

abbrev pub invariant-first_kids_from-loop-q : goal.invariant-first_kids_from-loop-q
invariant-first_kids_from-loop-q l =
    kid_lists_from l.presences l.greatest l.wants l.has_greatest (states_with l.presences l.want l.q (l.greatest + 1 - l.q)) ≡ kid_lists_from l.presences l.greatest l.wants l.has_greatest (states_with l.presences l.want l.from (l.greatest + 1 - l.from))
