use Rattle.std.proofs.Common.{arith}
use Rattle.std.proofs.lemmas.List.{take_all}
use Rattle.fort_infinity.proofs.TryLaws.{OnErr-always, woken_more, woken_all, woken_some}
use Rattle.fort_infinity.proofs.ranks.Ranking.woken.Goals as goal

pub loop-k-preserved : goal.loop-k-preserved
loop-k-preserved c =
    woken_more c.args.self.now c.args.ranked.now c.loop-k.k-index c.loop-k.woken.items c.list.result.now c.extend_from_slice.new.self.items c.loop-k-test.true c.loop-k.invariant c.list.ensures c.in_ok-extend_from_slice.ensures.items

pub returns-clause-woken : goal.returns-clause-woken
returns-clause-woken c = woken_all c.args.self.now c.args.ranked.now c.loop-k.k-index c.loop-k.woken.items (take_all c.loop-k.k-index c.args.ranked.now c.loop-k-test.false) c.loop-k.invariant

pub returns-in_err-extend_from_slice-clause-memory : goal.returns-in_err-extend_from_slice-clause-memory
returns-in_err-extend_from_slice-clause-memory c =
    OnErr-always c.from_residual.result _
    (woken_some c.args.self.now c.args.ranked.now c.loop-k.k-index c.list.result.now c.loop-k-test.true c.list.ensures (omega (arith, c.in_err-extend_from_slice.ensures.full, c.loop-k.woken.ok.0, c.loop-k.woken.ok.1)))
