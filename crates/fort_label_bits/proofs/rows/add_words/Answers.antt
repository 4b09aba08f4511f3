use Rattle.std.proofs.Common.{arith}
use Rattle.fort_label_bits.proofs.BitRowListLaws.{bit_of-added}
use Rattle.fort_label_bits.proofs.rows.add_words.Goals as goal

pub returns : goal.returns
returns c =
    bit_of-added c.args.out.now c.args.row.now c.loop-k.out (λ i l. c.loop-k.invariant.before i (omega arith)) (λ i l. c.loop-k.invariant.after i (omega arith))
