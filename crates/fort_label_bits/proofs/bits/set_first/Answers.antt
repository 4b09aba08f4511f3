use Rattle.fort_label_bits.proofs.RowBitLaws.{HasBits-first}
use Rattle.fort_label_bits.proofs.bits.set_first.Goals as goal

pub returns-clause-bits : goal.returns-clause-bits
returns-clause-bits c bits h = HasBits-first bits c.args.out.now c.args.first h
