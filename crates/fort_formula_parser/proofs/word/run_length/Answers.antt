use Rattle.std.proofs.Common.{sym, below_more}
use Rattle.fort_formula_parser.proofs.word.run_length.Goals as goal

pub loop-i-preserved : goal.loop-i-preserved
loop-i-preserved c = below_more _ _ c.loop-i.invariant (sym c.if-not-is_name_byte.ensures)
