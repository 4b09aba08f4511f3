use Rattle.std.proofs.Common.{length, drop, replicate, refl}
use Rattle.fort_tuple_symbols.proofs.Bounds.{bound-append, bound-drop, bound-zeros}
use Rattle.fort_tuple_symbols.proofs.RowRoom.{size_is, zeros_left}
use Rattle.fort_tuple_symbols.proofs.row.Row.put.Goals as goal

pub invariant_of-self : goal.invariant_of-self
invariant_of-self c =
    rw (c.copy_from_slice.ensures.after, c.copy_from_slice-2.ensures.after) (record {
      short = c.requires.short;
      size = size_is 16 c.args.digits.now (replicate 16 0) c.requires.short refl;
      clear = zeros_left 16 c.args.digits.now;
      small = bound-append 65536 c.args.digits.now (drop (length c.args.digits.now) (replicate 16 0)) c.requires.small (bound-drop 65536 (length c.args.digits.now) (replicate 16 0) (bound-zeros 65536 16));
      few = c.requires.few;
      room = size_is 8 c.args.kids.now (replicate 8 0) c.requires.few refl;
      empty = zeros_left 8 c.args.kids.now;
    })
