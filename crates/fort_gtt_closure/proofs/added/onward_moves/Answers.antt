use Rattle.std.proofs.Common.{◌∙◌, ap, sym, subst}
use Rattle.std.proofs.lemmas.Result.{IfOk-weaker}
use Rattle.fort_gtt_closure.specs.Added.{AreOnward}
use Rattle.fort_gtt_closure.specs.Groups.{AreByFirst}
use Rattle.fort_gtt_closure.proofs.ThroughLaws.{states_of, AreOnward-through}
use Rattle.fort_gtt_closure.proofs.added.onward_moves.Goals as goal

pub returns : goal.returns
returns c =
    let es = c.args.closed.now.entries.items in
    let by : AreByFirst c.args.count (states_of es) c.in_ok-groups.groups =
    subst (λ ps. AreByFirst c.args.count ps c.in_ok-groups.groups) (c.deref-2.ensures.value ∙ (c.in_ok-reached.ensures ∙ ap states_of c.deref.ensures.value)) c.in_ok-groups.ensures in
    IfOk-weaker c.through.result _ _ (λ moves is. subst (AreOnward es c.args.pairs.now) (sym is) (AreOnward-through es c.args.count c.in_ok-groups.groups c.args.pairs.now by c.requires)) c.through.ensures
