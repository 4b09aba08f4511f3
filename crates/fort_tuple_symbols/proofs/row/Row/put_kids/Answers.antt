use Rattle.std.proofs.Common.{replicate, refl}
use Rattle.fort_tuple_symbols.proofs.RowRoom.{size_is, zeros_left}
use Rattle.fort_tuple_symbols.proofs.row.Row.put_kids.Goals as goal

pub invariant_of-self : goal.invariant_of-self
invariant_of-self c =
    let i = c.self.invariant in
    rw c.copy_from_slice.ensures.after (record {
      short = i.short;
      size = i.size;
      clear = i.clear;
      small = i.small;
      few = c.requires;
      room = size_is 8 c.args.kids.now (replicate 8 0) c.requires refl;
      empty = zeros_left 8 c.args.kids.now;
    })
