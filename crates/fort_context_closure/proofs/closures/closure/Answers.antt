use Rattle.std.proofs.Common.{sym, ◌∙◌, true≢false}
use Rattle.std.proofs.lemmas.Result.{IfOk-weaker}
use Rattle.fort_theory.specs.Sides.{at_index}
use Rattle.fort_relations.specs.RelView.{as_rel}
use Rattle.fort_alike.specs.Atoms.{pairs_for}
use Rattle.fort_context_closure.proofs.MakerLaws.{ListsRules-own}
use Rattle.fort_context_closure.proofs.ClosureLaws.{root_steps_of}
use Rattle.fort_context_closure.proofs.closures.closure.Goals as goal

pub returns-then-not-is_reduction-clause-passes : goal.returns-then-not-is_reduction-clause-passes
returns-then-not-is_reduction-clause-passes c e = absurd (true≢false (sym e ∙ sym c.if-not-is_reduction.ensures))

pub closure_of-requires : goal.closure_of-requires
closure_of-requires c = ListsRules-own _ c.in_ok-list.list c.in_ok-list.ensures

pub returns-clause-passes : goal.returns-clause-passes
returns-clause-passes c =
    let pairs = pairs_for (as_rel c.args.rel) (at_index c.args.index c.args.system.now.rules) in
    IfOk-weaker c.closure_of.result _ _
    (λ closed w e. (w.agtt, root_steps_of pairs c.in_ok-list.list c.in_ok-list.ensures w.agtt w.is, w.passed))
    c.closure_of.ensures

pub returns-clause-none : goal.returns-clause-none
returns-clause-none c = IfOk-weaker c.closure_of.result _ _ (λ closed h e. absurd (true≢false (c.if-not-is_reduction.ensures ∙ e))) c.closure_of.ensures
