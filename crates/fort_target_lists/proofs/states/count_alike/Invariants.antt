use Rattle.std.proofs.Common.{◌≡◌, ℕ, ◌<◌, get_or, length, vec_capacity}
use Rattle.fort_tables.specs.StateRanks.{count_of}
use Rattle.fort_target_lists.proofs.states.count_alike.Given as goal

abbrev pub invariant-loop-q : goal.invariant-loop-q
invariant-loop-q l = record {
  size : length l.alike.items ≡ l.q;
  done : (k : ℕ) → k < l.q → get_or l.alike.items k 0 ≡ count_of (get_or l.presences k 0) l.presences;
  room : vec_capacity l.alike ≡ vec_capacity l.initial.alike;
}
