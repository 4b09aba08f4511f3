use Rattle.std.proofs.Common.{◌≡◌, true, false, refl}
use Rattle.fort_label_bits.specs.RowBits.{bit_of}
use Rattle.fort_label_bits.proofs.BitRowListLaws.{or-off}
use Rattle.fort_label_bits.proofs.rows.add_row.Goals as goal

pub returns-then-not-on : goal.returns-then-not-on
returns-then-not-on c q =
    let off : c.args.on ≡ false = c.if-not-on.true in
    rw off (or-off (bit_of q c.args.out.now) false refl)

pub returns : goal.returns
returns c q =
    let on : c.args.on ≡ true = c.if-not-on.false in
    rw on (c.add_words.ensures q)
