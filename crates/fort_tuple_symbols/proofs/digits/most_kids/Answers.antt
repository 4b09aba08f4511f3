use Rattle.std.proofs.Common.{◌-◌, length, arith}
use Rattle.fort_tuple_symbols.proofs.Bounds.{bound-up_to}
use Rattle.fort_tuple_symbols.proofs.digits.most_kids.Goals as goal

pub column_arity-requires : goal.column_arity-requires
column_arity-requires c = bound-up_to (length c.args.sig.now) (length c.args.sig.now) c.args.digits.now (omega arith) c.requires (c.loop-i.i - 1)
