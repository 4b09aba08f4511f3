use Rattle.std.proofs.Common.{◌≡◌, ◌+◌, ◌≤◌, ◌++◌, map, take, length, get_or, vec_len, vec_capacity}
use Rattle.fort_target_lists.proofs.class_reader.push_classes.Given as goal

abbrev pub invariant-loop-class : goal.invariant-loop-class
invariant-loop-class l = record {
  items : l.laid.items ≡ l.fn.laid.items ++ map (λ c. get_or l.row c 0) (take l.class-index l.classes);
  room : vec_len l.laid + length l.classes ≤ vec_capacity l.laid + l.class-index;
}
