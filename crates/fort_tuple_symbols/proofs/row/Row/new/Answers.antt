use Rattle.std.proofs.Common.{replicate, refl}
use Rattle.fort_tuple_symbols.proofs.RowRoom.{size_is, zeros_left}
use Rattle.fort_tuple_symbols.proofs.row.Row.new.Goals as goal

pub invariant_of-result : goal.invariant_of-result
invariant_of-result c =
    let i = c.sym.invariant in
    record {
      short = i.short;
      size = i.size;
      clear = i.clear;
      small = i.small;
      few = c.requires;
      room = rw c.copy_from_slice.ensures.after (size_is 8 c.args.kids.now (replicate 8 0) c.requires refl);
      empty = rw c.copy_from_slice.ensures.after (zeros_left 8 c.args.kids.now);
    }
