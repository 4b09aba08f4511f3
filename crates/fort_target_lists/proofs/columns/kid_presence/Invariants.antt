use Rattle.std.proofs.Common.{◌≡◌, ◌-◌, ◌^◌, ◌<◌, drop, length}
use Rattle.fort_tables.specs.Tuples.{kid_presence}
use Rattle.fort_target_lists.proofs.columns.kid_presence.Given as goal

abbrev pub invariant-loop-k : goal.invariant-loop-k
invariant-loop-k l = record {
  presence : l.presence ≡ kid_presence l.sig (drop (length l.sym - l.k) l.sym) l.j;
  small : l.presence < 2 ^ l.k;
}
