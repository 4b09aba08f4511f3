use Rattle.std.proofs.Common.{arith}
use Rattle.fort_label_bits.proofs.bits.put_first.Goals as goal

pub returns : goal.returns
returns c bits h = record { first_is = c.set_first.ensures.first; words = λ i l. omega (arith, c.type_inv.out i); bits_are = c.set_first.ensures.bits bits h }
