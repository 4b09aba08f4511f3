use Rattle.std.proofs.Common.{◌≡◌, ◌≤◌, take}
use Rattle.fort_tables.specs.Tuples.{symbol_kids}
use Rattle.fort_target_lists.proofs.columns.kid_count.Given as goal

abbrev pub invariant-loop-k : goal.invariant-loop-k
invariant-loop-k l = record {
  count : l.count ≡ symbol_kids l.sig (take l.k l.sym);
  few : l.count ≤ 8;
}
