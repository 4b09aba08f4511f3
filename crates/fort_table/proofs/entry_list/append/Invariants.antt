use Rattle.std.proofs.Common.{◌≡◌, ◌+◌, ◌++◌, take, vec_len, vec_capacity}
use Rattle.fort_table.proofs.entry_list.append.Given as goal

abbrev pub invariant-loop-k : goal.invariant-loop-k
invariant-loop-k l = record {
  numbers : l.numbers.items ≡ l.initial.numbers.items ++ take l.k l.more;
  count : vec_len l.numbers ≡ vec_len l.initial.numbers + l.k;
  capacity : vec_capacity l.numbers ≡ vec_capacity l.initial.numbers;
}
