use Rattle.fort_label_bits.proofs.RowBitLaws.{HasBits-on}
use Rattle.fort_label_bits.proofs.bits.put_mark.Goals as goal

pub returns-then-on : goal.returns-then-on
returns-then-on c bits l h = rw c.if-on.true (HasBits-on bits c.args.out.now c.set_bit.new.words c.args.bit l h c.set_bit.ensures.bits)
