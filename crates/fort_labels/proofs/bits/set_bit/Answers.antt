use Rattle.fort_tables.proofs.BitRowLaws.{has_bit-set}
use Rattle.fort_labels.proofs.bits.set_bit.Goals as goal

pub returns-clause-bits : goal.returns-clause-bits
returns-clause-bits c = λ i. has_bit-set c.args.words.now c.args.q i c.requires
