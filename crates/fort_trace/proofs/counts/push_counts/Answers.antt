use Rattle.std.proofs.Common.{sym, subst}
use Rattle.fort_steps.specs.declared.step.Step.TheVariants.{Counts}
use Rattle.fort_trace.specs.Recording.{CountsPushed}
use Rattle.fort_trace.proofs.ClosureLaws.{one_more}
use Rattle.fort_trace.proofs.CountLaws.{CountsPushed-none}
use Rattle.fort_trace.proofs.counts.push_counts.Goals as goal

pub returns-in_ok-push : goal.returns-in_ok-push
returns-in_ok-push c =
    let old = c.args.steps.now.items in
    let new = c.push.new.self.items in
    subst (λ o. CountsPushed c.args.k o old new) (sym c.in-Some.is) (one_more old new (Counts c.args.k c.in-Some.counts) c.in_ok-push.ensures.items)

pub returns-in_default : goal.returns-in_default
returns-in_default c = CountsPushed-none c.args.k c.args.counts c.args.steps.now.items c.in_default.not-Some
