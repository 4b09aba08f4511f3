use Rattle.std.proofs.Common.{arith}
use Rattle.fort_label_bits.proofs.RowBitLaws.{HasBits-none}
use Rattle.fort_label_bits.proofs.bits.clear.Goals as goal

pub returns : goal.returns
returns c = HasBits-none c.loop-i.out (λ k l. c.loop-i.invariant k (omega (arith, l, c.loop-i-test.false, c.loop-i.auto.out)))
