use Rattle.std.proofs.Common.{arith}
use Rattle.fort_tables.specs.Products.{state_at}
use Rattle.fort_target_lists.proofs.StateLists.{states_read}
use Rattle.fort_products.proofs.words.states_at.Goals as goal

pub returns : goal.returns
returns c = states_read (state_at c.args.at) c.args.rows.now.labels c.args.row.now.kids c.loop-j.states c.args.count (omega (arith, c.requires.few, c.loop-j.invariant.size)) c.requires.there (λ k l. c.loop-j.invariant.done k (omega (arith, c.loop-j-test.false)))
