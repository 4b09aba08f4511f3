use Rattle.std.proofs.Common.{◌*◌}
use Rattle.std.specs.Slice.Scan.{HoldsNowhere}
use Rattle.fort_tables.specs.BitRows.{has_bit}
use Rattle.fort_projections.proofs.bits.next_bit.Given as goal

abbrev pub invariant-loop-k : goal.invariant-loop-k
invariant-loop-k l = HoldsNowhere (has_bit l.words) l.from (64 * l.k)
