use Rattle.std.proofs.Common.{sym, subst, take, get_or}
use Rattle.std.proofs.lemmas.List.{take_more}
use Rattle.fort_gtt_closure.specs.Groups.{AreByFirst}
use Rattle.fort_gtt_closure.proofs.GroupLaws.{AreByFirst-none, AreByFirst-more}
use Rattle.fort_gtt_closure.proofs.groups.grouped.Goals as goal

pub loop-pair-init : goal.loop-pair-init
loop-pair-init c = AreByFirst-none c.args.count c.in_ok-groups.groups c.in_ok-groups.ensures

pub loop-pair-preserved : goal.loop-pair-preserved
loop-pair-preserved c =
    let pairs = c.args.pairs.now in
    let i = c.loop-pair.pair-index in
    subst (λ ps. AreByFirst c.args.count ps c.push.new.self) (sym (take_more pairs i (0, 0) c.loop-pair-test.true))
    (AreByFirst-more c.args.count (take i pairs) (get_or pairs i (0, 0)) c.loop-pair.groups c.push.new.self c.loop-pair.invariant c.in_ok-push.ensures.ok)
