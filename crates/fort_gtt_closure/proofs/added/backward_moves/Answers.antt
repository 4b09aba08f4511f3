use Rattle.std.proofs.Common.{◌≡◌, ◌∙◌, ap, map, sym, subst}
use Rattle.std.proofs.lemmas.Result.{IfOk-weaker}
use Rattle.fort_transducers.proofs.InverseLaws.{exchanged}
use Rattle.fort_gtt_closure.specs.Added.{AreBackward}
use Rattle.fort_gtt_closure.specs.Groups.{AreByFirst, through}
use Rattle.fort_gtt_closure.proofs.ThroughLaws.{states_of, AreBackward-through}
use Rattle.fort_gtt_closure.proofs.added.backward_moves.Goals as goal

pub returns : goal.returns
returns c =
    let es = c.args.closed.now.entries.items in
    let pairs = c.args.pairs.now in
    let listed : c.in_ok-listed.listed.items ≡ states_of es = c.in_ok-listed.ensures ∙ ap states_of c.deref.ensures.value in
    let turned : c.in_ok-reaching.reaching.items ≡ map exchanged (states_of es) = c.in_ok-reaching.ensures ∙ ap (map exchanged) (c.deref-2.ensures.value ∙ listed) in
    let by : AreByFirst c.args.count (map exchanged (states_of es)) c.in_ok-groups.groups =
    subst (λ ps. AreByFirst c.args.count ps c.in_ok-groups.groups) (c.deref-3.ensures.value ∙ turned) c.in_ok-groups.ensures in
    let back = AreBackward-through es c.args.count c.in_ok-groups.groups pairs by c.requires in
    IfOk-weaker c.through.result _ _ (λ moves is. subst (AreBackward es pairs) (sym (is ∙ ap (through c.in_ok-groups.groups) (c.deref-4.ensures.value ∙ c.in_ok-turned.ensures))) back) c.through.ensures
