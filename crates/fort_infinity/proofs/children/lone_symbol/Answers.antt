use Rattle.std.proofs.Common.{◌-◌, arith}
use Rattle.fort_infinity.proofs.ChildrenLaws.{lone_made}
use Rattle.fort_infinity.proofs.children.lone_symbol.Goals as goal

pub returns : goal.returns
returns c = lone_made (c.args.columns - 1) c.args.column c.args.sym.0 c.new.result c.with_column.result (omega (arith, c.requires.narrow)) c.new.ensures c.with_column.ensures
