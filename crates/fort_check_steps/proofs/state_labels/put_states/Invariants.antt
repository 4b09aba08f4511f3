use Rattle.std.proofs.Common.{◌≡◌, take, vec_len, vec_capacity}
use Rattle.fort_check_steps.proofs.state_labels.put_states.Given as goal

abbrev pub invariant-loop-q : goal.invariant-loop-q
invariant-loop-q l = record {
  states : l.noted.items ≡ take l.q-index l.states;
  len : vec_len l.noted ≡ l.q-index;
  capacity : vec_capacity l.noted ≡ vec_capacity l.initial.noted;
}
