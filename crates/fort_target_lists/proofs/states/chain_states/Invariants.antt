use Rattle.std.proofs.Common.{◌≡◌, ℕ, ◌-◌, ◌^◌, length}
use Rattle.fort_target_lists.specs.Chains.{AreChainsFrom}
use Rattle.fort_target_lists.proofs.states.chain_states.Given as goal

abbrev pub invariant-loop-k : goal.invariant-loop-k
invariant-loop-k l = record {
  size : length l.firsts ≡ length l.initial.firsts;
  chains : (columns : ℕ) → length l.initial.firsts ≡ 2 ^ columns → AreChainsFrom columns (length l.presences - l.k) l.presences l.firsts l.nexts;
}
