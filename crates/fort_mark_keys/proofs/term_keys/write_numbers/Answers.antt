use Rattle.std.proofs.Common.{arith}
use Rattle.fort_tuple_symbols.specs.Columns.{as_column}
use Rattle.fort_mark_keys.proofs.SubtermListLaws.{numbers-are}
use Rattle.fort_mark_keys.proofs.term_keys.write_numbers.Goals as goal

pub returns : goal.returns
returns c =
    numbers-are (λ t. t.now) c.args.listed.now (as_column c.args.root) c.args.place c.set_numbers.new.out (omega (arith, c.requires.room, c.set_numbers.ensures.width))
    (λ i l. omega (arith, c.type_inv.out i)) c.set_numbers.ensures.bits
