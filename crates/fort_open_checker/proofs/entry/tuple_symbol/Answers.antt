use Rattle.std.proofs.Common.{get_or, None, ◌∙◌, arith}
use Rattle.fort_open_checker.proofs.NodeTestLaws.{symbols_at, small_symbol, symbol_read}
use Rattle.fort_open_checker.proofs.entry.tuple_symbol.Goals as goal

pub digit_of-requires : goal.digit_of-requires
digit_of-requires c =
    let s = c.requires.symbols in
    small_symbol s.0 (omega (arith, s.1.few)) (get_or c.args.columns.now c.loop-k.k None) (symbols_at s.0 c.args.columns.now c.loop-k.k s.2)

pub returns : goal.returns
returns c =
    c.from_digits.ensures
    ∙ symbol_read c.args.columns.now c.loop-k.digits (omega (arith, c.loop-k.invariant.long, c.requires.few)) (λ i l. c.loop-k.invariant.values i (omega arith))
