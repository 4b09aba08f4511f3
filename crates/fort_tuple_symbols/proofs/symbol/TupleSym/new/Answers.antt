use Rattle.std.proofs.Common.{length, arith, ◌∙◌, ap, take}
use Rattle.fort_tuple_symbols.specs.Columns.{symbol_of}
use Rattle.fort_tuple_symbols.proofs.Bounds.{bound-set}
use Rattle.fort_tuple_symbols.proofs.SymbolLaws.{filled_more, filled_all, symbol_filled}
use Rattle.fort_tuple_symbols.proofs.symbol.TupleSym.new.Goals as goal

pub loop-i-preserved : goal.loop-i-preserved
loop-i-preserved c = record {
  filled = filled_more c.args.columns.now c.loop-i.digits c.loop-i.i c.digit.result _ (omega arith) c.requires c.loop-i.invariant.filled c.digit.ensures.value;
  small = bound-set 65536 c.loop-i.digits c.loop-i.i c.digit.result c.loop-i.invariant.small c.digit.ensures.small;
}

pub returns : goal.returns
returns c =
    let filled = filled_all c.args.columns.now c.loop-i.digits c.loop-i.i (omega arith) c.loop-i.invariant.filled in
    ap (λ ds. symbol_of (take (length c.args.columns.now) ds)) filled ∙ symbol_filled c.args.columns.now
