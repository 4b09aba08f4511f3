use Rattle.fort_tree_automata.proofs.TakenLaws.{AllMarkTaken-more}
use Rattle.fort_tree_automata.proofs.nta.Nta.+row.Goals as goal

pub loop-kid-preserved : goal.loop-kid-preserved
loop-kid-preserved t c =
    AllMarkTaken-more c.args.self.now c.deref-kid-items.result.now c.loop-kid.kid-index c.kid-item.result c.loop-kid.rows.items c.push.new.self.items c.in_ok-row.field-0
    c.loop-kid-test.true c.kid-item.is c.in_ok-push.ensures.items c.loop-kid.invariant c.in_ok-row.ensures.exact
