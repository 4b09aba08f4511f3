use Rattle.std.proofs.Common.{sym, ◌∙◌, arith}
use Rattle.fort_check_steps.proofs.SparseLaws.{scattered_turn, scattered_end}
use Rattle.fort_check_steps.proofs.sparse_rows.scatter.Goals as goal

pub loop-k-preserved : goal.loop-k-preserved
loop-k-preserved c = sym (scattered_turn c.loop-k.out c.args.places.now c.args.words.now c.loop-k.k (omega arith) c.requires.count) ∙ c.loop-k.invariant

pub returns : goal.returns
returns c = sym (scattered_end c.loop-k.out c.args.places.now c.args.words.now c.loop-k.k (omega arith)) ∙ c.loop-k.invariant
