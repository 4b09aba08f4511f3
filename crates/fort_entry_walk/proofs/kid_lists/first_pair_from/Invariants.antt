use Rattle.std.proofs.Common.{◌≡◌, ◌+◌, ◌-◌, [], ◌∷◌, false}
use Rattle.fort_entry_walk.specs.Walks.{kid_lists_from, states_with}
use Rattle.fort_entry_walk.proofs.kid_lists.first_pair_from.Given as goal

abbrev pub invariant-loop-q : goal.invariant-loop-q
invariant-loop-q l =
    kid_lists_from l.presences l.greatest (l.last ∷ []) false (states_with l.presences l.want l.q (l.greatest + 1 - l.q)) ≡ kid_lists_from l.presences l.greatest (l.last ∷ []) false (states_with l.presences l.want l.from (l.greatest + 1 - l.from))
