use Rattle.std.proofs.Common.{sym, below_more}
use Rattle.fort_formula_parser.proofs.ground.run_length.Goals as goal

pub loop-i-preserved : goal.loop-i-preserved
loop-i-preserved c = below_more _ _ c.loop-i.invariant (sym c.if-not-is_ground_byte.ensures)
