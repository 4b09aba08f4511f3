use Rattle.std.proofs.Common.{◌≡◌, vec_len, vec_capacity}
use Rattle.fort_check_steps.proofs.state_labels.put_zeros.Given as goal

abbrev pub invariant-loop : goal.invariant-loop
invariant-loop l = record { len : vec_len l.label ≡ l.counter; capacity : vec_capacity l.label ≡ vec_capacity l.initial.label }
