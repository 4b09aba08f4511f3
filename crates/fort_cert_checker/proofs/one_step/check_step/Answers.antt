use Rattle.std.proofs.Common.{List, set, map, get_or, sym, ap, ◌∙◌, subst, arith, ◌+◌, refl}
use Rattle.fort_theory.specs.Cores as core
use Rattle.fort_certificate_theory.specs.Certificates as certificates
use Rattle.fort_certificate_theory.specs.Certificates.{Step}
use Rattle.fort_certificate_theory.specs.Made.{MadeSoFar}
use Rattle.fort_findings.specs.FindingView.{as_which, as_pair}
use Rattle.fort_steps.specs.StepView.{as_step}
use Rattle.fort_findings.specs.declared.closure.ClosureEntry.{ClosureEntry}
use Rattle.fort_check_steps.specs.StepAnswers.{as_reason, outcome_of}
use Rattle.fort_check_steps.specs.declared.room.PartRoom.{PartRoom}
use Rattle.fort_certificate_theory.specs.Checked.{IsFailing}
use Rattle.fort_cert_checker.specs.Pasts.{IsMarkRoomFor}
use Rattle.fort_cert_checker.specs.Fronts.{IsDueBehind, IsFineStep, IsReady, IsLoopAt}
use Rattle.fort_cert_checker.proofs.LoopSteps as loop
use Rattle.fort_cert_checker.proofs.OwnSteps.{on_ok, if_err}
use Rattle.fort_cert_checker.proofs.one_step.check_step.Goals as goal

pub check_pairs-requires : goal.check_pairs-requires
check_pairs-requires c = let d = c.requires.due in record { due = (c.args.given.now.system.now, as_which c.in-Closure.field-0, c.in-Closure.field-1, loop.closure_for c.args.given.now.system.now d.1 d.0 d.2 c.args.given.now.plans.now c.args.closures.now c.args.rooms.now c.args.scratch.now c.args.marks.now c.args.place d.3 d.4.1 d.4.2 (as_step (get_or c.args.given.now.steps.now c.args.place c.index-given-place.result)) (loop.step_at c.args.given.now.steps.now d.2 c.args.place c.index-given-place.result (as_step (get_or c.args.given.now.steps.now c.args.place c.index-given-place.result)) d.4.0 d.4.2.low) (as_which c.in-Closure.field-0) c.in-Closure.field-1 (map as_pair c.deref.result.now) (ap as_step c.in-Closure.is ∙ ap (λ (xs : List ClosureEntry). certificates.Closure (as_which c.in-Closure.field-0) c.in-Closure.field-1 (map as_pair xs)) (sym c.deref.ensures.value)) (get_or c.args.closures.now c.args.place c.index-closures-place.result) ((loop.element_at c.args.closures.now c.args.place c.index-closures-place.result (let l = d.4.2.due_low in let m = d.4.1.ready.closures_made.count in omega (arith, l, m))).1 (get_or c.args.closures.now c.args.place c.index-closures-place.result))) }

pub bounds-given-part : goal.bounds-given-part
bounds-given-part c = let d = c.requires.due in loop.plan_low c.args.given.now.system.now d.1 d.0 d.2 c.args.given.now.plans.now c.args.closures.now c.args.rooms.now c.args.scratch.now c.args.marks.now c.args.place d.3 d.4.1 d.4.2 (as_step (get_or c.args.given.now.steps.now c.args.place c.index-given-place.result)) (loop.step_at c.args.given.now.steps.now d.2 c.args.place c.index-given-place.result (as_step (get_or c.args.given.now.steps.now c.args.place c.index-given-place.result)) d.4.0 d.4.2.low) c.in-Part.k (loop.named (get_or c.args.given.now.steps.now c.args.place c.index-given-place.result) c.in-Part.k c.in-Part.is).0 (loop.named (get_or c.args.given.now.steps.now c.args.place c.index-given-place.result) c.in-Part.k c.in-Part.is).1

pub split_at_mut-front-requires : goal.split_at_mut-front-requires
split_at_mut-front-requires c = let d = c.requires.due in let l = loop.room_low c.args.given.now.system.now d.1 d.0 d.2 c.args.given.now.plans.now c.args.closures.now c.args.rooms.now c.args.scratch.now c.args.marks.now c.args.place d.3 d.4.1 d.4.2 (as_step (get_or c.args.given.now.steps.now c.args.place c.index-given-place.result)) (loop.step_at c.args.given.now.steps.now d.2 c.args.place c.index-given-place.result (as_step (get_or c.args.given.now.steps.now c.args.place c.index-given-place.result)) d.4.0 d.4.2.low) c.in-Part.k (loop.named (get_or c.args.given.now.steps.now c.args.place c.index-given-place.result) c.in-Part.k c.in-Part.is).0 (loop.named (get_or c.args.given.now.steps.now c.args.place c.index-given-place.result) c.in-Part.k c.in-Part.is).1 in omega (arith, l)

pub bounds-back-0 : goal.bounds-back-0
bounds-back-0 c = let d = c.requires.due in let l = loop.room_low c.args.given.now.system.now d.1 d.0 d.2 c.args.given.now.plans.now c.args.closures.now c.args.rooms.now c.args.scratch.now c.args.marks.now c.args.place d.3 d.4.1 d.4.2 (as_step (get_or c.args.given.now.steps.now c.args.place c.index-given-place.result)) (loop.step_at c.args.given.now.steps.now d.2 c.args.place c.index-given-place.result (as_step (get_or c.args.given.now.steps.now c.args.place c.index-given-place.result)) d.4.0 d.4.2.low) c.in-Part.k (loop.named (get_or c.args.given.now.steps.now c.args.place c.index-given-place.result) c.in-Part.k c.in-Part.is).0 (loop.named (get_or c.args.given.now.steps.now c.args.place c.index-given-place.result) c.in-Part.k c.in-Part.is).1 in let m = c.split_at_mut-front.ensures.back_len in omega (arith, l, m)

pub bounds-marks-part : goal.bounds-marks-part
bounds-marks-part c = let d = c.requires.due in loop.mark_low c.args.given.now.system.now d.1 d.0 d.2 c.args.given.now.plans.now c.args.closures.now c.args.rooms.now c.args.scratch.now c.args.marks.now c.args.place d.3 d.4.1 d.4.2 (as_step (get_or c.args.given.now.steps.now c.args.place c.index-given-place.result)) (loop.step_at c.args.given.now.steps.now d.2 c.args.place c.index-given-place.result (as_step (get_or c.args.given.now.steps.now c.args.place c.index-given-place.result)) d.4.0 d.4.2.low) c.in-Part.k (loop.named (get_or c.args.given.now.steps.now c.args.place c.index-given-place.result) c.in-Part.k c.in-Part.is).0 (loop.named (get_or c.args.given.now.steps.now c.args.place c.index-given-place.result) c.in-Part.k c.in-Part.is).1

pub check_own-requires : goal.check_own-requires
check_own-requires c = let d = c.requires.due in record { due = (d.0, (get_or d.0 c.in-Part.k core.True), d.3, (subst (λ (ts : List Step). IsDueBehind c.args.given.now.system.now d.0 ts c.args.given.now.plans.now c.split_at_mut-front.result.0.now d.3 (get_or d.0 c.in-Part.k core.True) (get_or c.args.given.now.plans.now c.in-Part.k c.index-given-part.result) (as_step (get_or c.args.given.now.steps.now c.args.place c.index-given-place.result)) (get_or c.split_at_mut-front.result.1.now 0 c.index-back-0.result) c.args.scratch.now (get_or c.args.marks.now c.in-Part.k c.index-marks-part.result)) d.4.0 (loop.behind c.args.given.now.system.now d.1 d.0 d.2 c.args.given.now.plans.now c.args.closures.now c.args.rooms.now c.args.scratch.now c.args.marks.now c.args.place d.3 d.4.1 d.4.2 (as_step (get_or c.args.given.now.steps.now c.args.place c.index-given-place.result)) (loop.step_at c.args.given.now.steps.now d.2 c.args.place c.index-given-place.result (as_step (get_or c.args.given.now.steps.now c.args.place c.index-given-place.result)) d.4.0 d.4.2.low) c.in-Part.k (loop.named (get_or c.args.given.now.steps.now c.args.place c.index-given-place.result) c.in-Part.k c.in-Part.is).0 (loop.named (get_or c.args.given.now.steps.now c.args.place c.index-given-place.result) c.in-Part.k c.in-Part.is).1 (get_or c.args.given.now.plans.now c.in-Part.k c.index-given-part.result) (get_or c.split_at_mut-front.result.1.now 0 c.index-back-0.result) (get_or c.args.marks.now c.in-Part.k c.index-marks-part.result) (loop.element_at c.args.given.now.plans.now c.in-Part.k c.index-given-part.result (loop.plan_low c.args.given.now.system.now d.1 d.0 d.2 c.args.given.now.plans.now c.args.closures.now c.args.rooms.now c.args.scratch.now c.args.marks.now c.args.place d.3 d.4.1 d.4.2 (as_step (get_or c.args.given.now.steps.now c.args.place c.index-given-place.result)) (loop.step_at c.args.given.now.steps.now d.2 c.args.place c.index-given-place.result (as_step (get_or c.args.given.now.steps.now c.args.place c.index-given-place.result)) d.4.0 d.4.2.low) c.in-Part.k (loop.named (get_or c.args.given.now.steps.now c.args.place c.index-given-place.result) c.in-Part.k c.in-Part.is).0 (loop.named (get_or c.args.given.now.steps.now c.args.place c.index-given-place.result) c.in-Part.k c.in-Part.is).1)) (loop.first_behind c.args.rooms.now c.split_at_mut-front.result.0.now c.split_at_mut-front.result.1.now c.in-Part.k c.index-back-0.result c.split_at_mut-front.ensures.value c.split_at_mut-front.ensures.front_len (let l = loop.room_low c.args.given.now.system.now d.1 d.0 d.2 c.args.given.now.plans.now c.args.closures.now c.args.rooms.now c.args.scratch.now c.args.marks.now c.args.place d.3 d.4.1 d.4.2 (as_step (get_or c.args.given.now.steps.now c.args.place c.index-given-place.result)) (loop.step_at c.args.given.now.steps.now d.2 c.args.place c.index-given-place.result (as_step (get_or c.args.given.now.steps.now c.args.place c.index-given-place.result)) d.4.0 d.4.2.low) c.in-Part.k (loop.named (get_or c.args.given.now.steps.now c.args.place c.index-given-place.result) c.in-Part.k c.in-Part.is).0 (loop.named (get_or c.args.given.now.steps.now c.args.place c.index-given-place.result) c.in-Part.k c.in-Part.is).1 in let m = c.split_at_mut-front.ensures.back_len in omega (arith, l, m)) (loop.room_low c.args.given.now.system.now d.1 d.0 d.2 c.args.given.now.plans.now c.args.closures.now c.args.rooms.now c.args.scratch.now c.args.marks.now c.args.place d.3 d.4.1 d.4.2 (as_step (get_or c.args.given.now.steps.now c.args.place c.index-given-place.result)) (loop.step_at c.args.given.now.steps.now d.2 c.args.place c.index-given-place.result (as_step (get_or c.args.given.now.steps.now c.args.place c.index-given-place.result)) d.4.0 d.4.2.low) c.in-Part.k (loop.named (get_or c.args.given.now.steps.now c.args.place c.index-given-place.result) c.in-Part.k c.in-Part.is).0 (loop.named (get_or c.args.given.now.steps.now c.args.place c.index-given-place.result) c.in-Part.k c.in-Part.is).1)) (loop.element_at c.args.marks.now c.in-Part.k c.index-marks-part.result (loop.mark_low c.args.given.now.system.now d.1 d.0 d.2 c.args.given.now.plans.now c.args.closures.now c.args.rooms.now c.args.scratch.now c.args.marks.now c.args.place d.3 d.4.1 d.4.2 (as_step (get_or c.args.given.now.steps.now c.args.place c.index-given-place.result)) (loop.step_at c.args.given.now.steps.now d.2 c.args.place c.index-given-place.result (as_step (get_or c.args.given.now.steps.now c.args.place c.index-given-place.result)) d.4.0 d.4.2.low) c.in-Part.k (loop.named (get_or c.args.given.now.steps.now c.args.place c.index-given-place.result) c.in-Part.k c.in-Part.is).0 (loop.named (get_or c.args.given.now.steps.now c.args.place c.index-given-place.result) c.in-Part.k c.in-Part.is).1)) c.split_at_mut-front.result.0.now (get_or d.0 c.in-Part.k core.True) c.split_at_mut-front.ensures.front refl))) }

pub returns-in-Closure-clause-fine : goal.returns-in-Closure-clause-fine
returns-in-Closure-clause-fine c = loop.when_fine c.check_pairs.result
    (λ fine parts root ss made same at due. loop.closure_done c.args.given.now.system.now root parts ss c.args.given.now.plans.now c.args.closures.now c.args.rooms.now c.args.scratch.now c.args.marks.now c.args.place made at due (as_step (get_or c.args.given.now.steps.now c.args.place c.index-given-place.result)) (loop.step_at c.args.given.now.steps.now ss c.args.place c.index-given-place.result (as_step (get_or c.args.given.now.steps.now c.args.place c.index-given-place.result)) same due.low) (as_which c.in-Closure.field-0) c.in-Closure.field-1 (map as_pair c.deref.result.now) (ap as_step c.in-Closure.is ∙ ap (λ (xs : List ClosureEntry). certificates.Closure (as_which c.in-Closure.field-0) c.in-Closure.field-1 (map as_pair xs)) (sym c.deref.ensures.value)) (get_or c.args.closures.now c.args.place c.index-closures-place.result) ((loop.element_at c.args.closures.now c.args.place c.index-closures-place.result (let l = due.due_low in let m = at.ready.closures_made.count in omega (arith, l, m))).1 (get_or c.args.closures.now c.args.place c.index-closures-place.result)) c.check_pairs.new.plan (λ g x. c.check_pairs.ensures.kept c.args.given.now.system.now g x) (outcome_of c.check_pairs.result) (c.check_pairs.ensures.judged c.args.given.now.system.now (as_which c.in-Closure.field-0) c.in-Closure.field-1 (loop.closure_for c.args.given.now.system.now root parts ss c.args.given.now.plans.now c.args.closures.now c.args.rooms.now c.args.scratch.now c.args.marks.now c.args.place made at due (as_step (get_or c.args.given.now.steps.now c.args.place c.index-given-place.result)) (loop.step_at c.args.given.now.steps.now ss c.args.place c.index-given-place.result (as_step (get_or c.args.given.now.steps.now c.args.place c.index-given-place.result)) same due.low) (as_which c.in-Closure.field-0) c.in-Closure.field-1 (map as_pair c.deref.result.now) (ap as_step c.in-Closure.is ∙ ap (λ (xs : List ClosureEntry). certificates.Closure (as_which c.in-Closure.field-0) c.in-Closure.field-1 (map as_pair xs)) (sym c.deref.ensures.value)) (get_or c.args.closures.now c.args.place c.index-closures-place.result) ((loop.element_at c.args.closures.now c.args.place c.index-closures-place.result (let l = due.due_low in let m = at.ready.closures_made.count in omega (arith, l, m))).1 (get_or c.args.closures.now c.args.place c.index-closures-place.result)))) fine)

pub returns-in-Closure-clause-failing : goal.returns-in-Closure-clause-failing
returns-in-Closure-clause-failing c = loop.when_failing c.check_pairs.result
    (λ e fails parts root ss made same at due s.
    subst (λ (x : Step). IsFailing c.args.given.now.system.now parts made x e.place (as_reason e.reason)) (sym (loop.step_at c.args.given.now.steps.now ss c.args.place c.index-given-place.result s same due.low))
    (loop.closure_fails c.args.given.now.system.now root parts ss c.args.given.now.plans.now c.args.closures.now c.args.rooms.now c.args.scratch.now c.args.marks.now c.args.place made at due (as_step (get_or c.args.given.now.steps.now c.args.place c.index-given-place.result)) (loop.step_at c.args.given.now.steps.now ss c.args.place c.index-given-place.result (as_step (get_or c.args.given.now.steps.now c.args.place c.index-given-place.result)) same due.low) (as_which c.in-Closure.field-0) c.in-Closure.field-1 (map as_pair c.deref.result.now) (ap as_step c.in-Closure.is ∙ ap (λ (xs : List ClosureEntry). certificates.Closure (as_which c.in-Closure.field-0) c.in-Closure.field-1 (map as_pair xs)) (sym c.deref.ensures.value)) (get_or c.args.closures.now c.args.place c.index-closures-place.result) ((loop.element_at c.args.closures.now c.args.place c.index-closures-place.result (let l = due.due_low in let m = at.ready.closures_made.count in omega (arith, l, m))).1 (get_or c.args.closures.now c.args.place c.index-closures-place.result)) (outcome_of c.check_pairs.result) (c.check_pairs.ensures.judged c.args.given.now.system.now (as_which c.in-Closure.field-0) c.in-Closure.field-1 (loop.closure_for c.args.given.now.system.now root parts ss c.args.given.now.plans.now c.args.closures.now c.args.rooms.now c.args.scratch.now c.args.marks.now c.args.place made at due (as_step (get_or c.args.given.now.steps.now c.args.place c.index-given-place.result)) (loop.step_at c.args.given.now.steps.now ss c.args.place c.index-given-place.result (as_step (get_or c.args.given.now.steps.now c.args.place c.index-given-place.result)) same due.low) (as_which c.in-Closure.field-0) c.in-Closure.field-1 (map as_pair c.deref.result.now) (ap as_step c.in-Closure.is ∙ ap (λ (xs : List ClosureEntry). certificates.Closure (as_which c.in-Closure.field-0) c.in-Closure.field-1 (map as_pair xs)) (sym c.deref.ensures.value)) (get_or c.args.closures.now c.args.place c.index-closures-place.result) ((loop.element_at c.args.closures.now c.args.place c.index-closures-place.result (let l = due.due_low in let m = at.ready.closures_made.count in omega (arith, l, m))).1 (get_or c.args.closures.now c.args.place c.index-closures-place.result)))) e.place (as_reason e.reason) fails))

pub returns-in-Closure-clause-ready : goal.returns-in-Closure-clause-ready
returns-in-Closure-clause-ready c parts root ss made same at due = loop.closure_ready c.args.given.now.system.now root parts ss c.args.given.now.plans.now c.args.closures.now c.args.rooms.now c.args.scratch.now c.args.marks.now c.args.place made at due (as_step (get_or c.args.given.now.steps.now c.args.place c.index-given-place.result)) (loop.step_at c.args.given.now.steps.now ss c.args.place c.index-given-place.result (as_step (get_or c.args.given.now.steps.now c.args.place c.index-given-place.result)) same due.low) (as_which c.in-Closure.field-0) c.in-Closure.field-1 (map as_pair c.deref.result.now) (ap as_step c.in-Closure.is ∙ ap (λ (xs : List ClosureEntry). certificates.Closure (as_which c.in-Closure.field-0) c.in-Closure.field-1 (map as_pair xs)) (sym c.deref.ensures.value)) (get_or c.args.closures.now c.args.place c.index-closures-place.result) ((loop.element_at c.args.closures.now c.args.place c.index-closures-place.result (let l = due.due_low in let m = at.ready.closures_made.count in omega (arith, l, m))).1 (get_or c.args.closures.now c.args.place c.index-closures-place.result)) c.check_pairs.new.plan (λ g x. c.check_pairs.ensures.kept c.args.given.now.system.now g x)

pub returns-in-Part-clause-fine : goal.returns-in-Part-clause-fine
returns-in-Part-clause-fine c = on_ok c.check_own.result
    (λ fine parts root ss made same at due.
    subst (λ (rs : List PartRoom). (next : MadeSoFar) × IsLoopAt c.args.given.now.system.now root parts ss c.args.given.now.plans.now c.args.closures.now rs c.check_own.new.scratch (set c.args.marks.now c.in-Part.k c.check_own.new.marks) (c.args.place + 1) next) (sym (loop.set_first_behind c.args.rooms.now c.split_at_mut-front.result.0.now c.split_at_mut-front.result.1.now c.in-Part.k c.check_own.new.room c.split_at_mut-front.ensures.value c.split_at_mut-front.ensures.front_len))
    (loop.part_next c.args.given.now.system.now root parts ss c.args.given.now.plans.now c.args.closures.now c.args.rooms.now c.args.scratch.now c.args.marks.now c.args.place made at due (as_step (get_or c.args.given.now.steps.now c.args.place c.index-given-place.result)) (loop.step_at c.args.given.now.steps.now ss c.args.place c.index-given-place.result (as_step (get_or c.args.given.now.steps.now c.args.place c.index-given-place.result)) same due.low) c.in-Part.k (loop.named (get_or c.args.given.now.steps.now c.args.place c.index-given-place.result) c.in-Part.k c.in-Part.is).0 (loop.named (get_or c.args.given.now.steps.now c.args.place c.index-given-place.result) c.in-Part.k c.in-Part.is).1 (get_or c.args.given.now.plans.now c.in-Part.k c.index-given-part.result) (get_or c.split_at_mut-front.result.1.now 0 c.index-back-0.result) (get_or c.args.marks.now c.in-Part.k c.index-marks-part.result) (loop.element_at c.args.given.now.plans.now c.in-Part.k c.index-given-part.result (loop.plan_low c.args.given.now.system.now root parts ss c.args.given.now.plans.now c.args.closures.now c.args.rooms.now c.args.scratch.now c.args.marks.now c.args.place made at due (as_step (get_or c.args.given.now.steps.now c.args.place c.index-given-place.result)) (loop.step_at c.args.given.now.steps.now ss c.args.place c.index-given-place.result (as_step (get_or c.args.given.now.steps.now c.args.place c.index-given-place.result)) same due.low) c.in-Part.k (loop.named (get_or c.args.given.now.steps.now c.args.place c.index-given-place.result) c.in-Part.k c.in-Part.is).0 (loop.named (get_or c.args.given.now.steps.now c.args.place c.index-given-place.result) c.in-Part.k c.in-Part.is).1)) (loop.first_behind c.args.rooms.now c.split_at_mut-front.result.0.now c.split_at_mut-front.result.1.now c.in-Part.k c.index-back-0.result c.split_at_mut-front.ensures.value c.split_at_mut-front.ensures.front_len (let l = loop.room_low c.args.given.now.system.now root parts ss c.args.given.now.plans.now c.args.closures.now c.args.rooms.now c.args.scratch.now c.args.marks.now c.args.place made at due (as_step (get_or c.args.given.now.steps.now c.args.place c.index-given-place.result)) (loop.step_at c.args.given.now.steps.now ss c.args.place c.index-given-place.result (as_step (get_or c.args.given.now.steps.now c.args.place c.index-given-place.result)) same due.low) c.in-Part.k (loop.named (get_or c.args.given.now.steps.now c.args.place c.index-given-place.result) c.in-Part.k c.in-Part.is).0 (loop.named (get_or c.args.given.now.steps.now c.args.place c.index-given-place.result) c.in-Part.k c.in-Part.is).1 in let m = c.split_at_mut-front.ensures.back_len in omega (arith, l, m)) (loop.room_low c.args.given.now.system.now root parts ss c.args.given.now.plans.now c.args.closures.now c.args.rooms.now c.args.scratch.now c.args.marks.now c.args.place made at due (as_step (get_or c.args.given.now.steps.now c.args.place c.index-given-place.result)) (loop.step_at c.args.given.now.steps.now ss c.args.place c.index-given-place.result (as_step (get_or c.args.given.now.steps.now c.args.place c.index-given-place.result)) same due.low) c.in-Part.k (loop.named (get_or c.args.given.now.steps.now c.args.place c.index-given-place.result) c.in-Part.k c.in-Part.is).0 (loop.named (get_or c.args.given.now.steps.now c.args.place c.index-given-place.result) c.in-Part.k c.in-Part.is).1)) (loop.element_at c.args.marks.now c.in-Part.k c.index-marks-part.result (loop.mark_low c.args.given.now.system.now root parts ss c.args.given.now.plans.now c.args.closures.now c.args.rooms.now c.args.scratch.now c.args.marks.now c.args.place made at due (as_step (get_or c.args.given.now.steps.now c.args.place c.index-given-place.result)) (loop.step_at c.args.given.now.steps.now ss c.args.place c.index-given-place.result (as_step (get_or c.args.given.now.steps.now c.args.place c.index-given-place.result)) same due.low) c.in-Part.k (loop.named (get_or c.args.given.now.steps.now c.args.place c.index-given-place.result) c.in-Part.k c.in-Part.is).0 (loop.named (get_or c.args.given.now.steps.now c.args.place c.index-given-place.result) c.in-Part.k c.in-Part.is).1)) c.check_own.new.room c.check_own.new.scratch c.check_own.new.marks c.check_own.ensures.room c.check_own.ensures.scratch (subst (λ (ts : List Step). IsMarkRoomFor ts (get_or c.args.given.now.plans.now c.in-Part.k c.index-given-part.result).work c.check_own.new.marks) (sym same) ((c.check_own.ensures.marks parts (get_or parts c.in-Part.k core.True)) made (subst (λ (ts : List Step). IsDueBehind c.args.given.now.system.now parts ts c.args.given.now.plans.now c.split_at_mut-front.result.0.now made (get_or parts c.in-Part.k core.True) (get_or c.args.given.now.plans.now c.in-Part.k c.index-given-part.result) (as_step (get_or c.args.given.now.steps.now c.args.place c.index-given-place.result)) (get_or c.split_at_mut-front.result.1.now 0 c.index-back-0.result) c.args.scratch.now (get_or c.args.marks.now c.in-Part.k c.index-marks-part.result)) same (loop.behind c.args.given.now.system.now root parts ss c.args.given.now.plans.now c.args.closures.now c.args.rooms.now c.args.scratch.now c.args.marks.now c.args.place made at due (as_step (get_or c.args.given.now.steps.now c.args.place c.index-given-place.result)) (loop.step_at c.args.given.now.steps.now ss c.args.place c.index-given-place.result (as_step (get_or c.args.given.now.steps.now c.args.place c.index-given-place.result)) same due.low) c.in-Part.k (loop.named (get_or c.args.given.now.steps.now c.args.place c.index-given-place.result) c.in-Part.k c.in-Part.is).0 (loop.named (get_or c.args.given.now.steps.now c.args.place c.index-given-place.result) c.in-Part.k c.in-Part.is).1 (get_or c.args.given.now.plans.now c.in-Part.k c.index-given-part.result) (get_or c.split_at_mut-front.result.1.now 0 c.index-back-0.result) (get_or c.args.marks.now c.in-Part.k c.index-marks-part.result) (loop.element_at c.args.given.now.plans.now c.in-Part.k c.index-given-part.result (loop.plan_low c.args.given.now.system.now root parts ss c.args.given.now.plans.now c.args.closures.now c.args.rooms.now c.args.scratch.now c.args.marks.now c.args.place made at due (as_step (get_or c.args.given.now.steps.now c.args.place c.index-given-place.result)) (loop.step_at c.args.given.now.steps.now ss c.args.place c.index-given-place.result (as_step (get_or c.args.given.now.steps.now c.args.place c.index-given-place.result)) same due.low) c.in-Part.k (loop.named (get_or c.args.given.now.steps.now c.args.place c.index-given-place.result) c.in-Part.k c.in-Part.is).0 (loop.named (get_or c.args.given.now.steps.now c.args.place c.index-given-place.result) c.in-Part.k c.in-Part.is).1)) (loop.first_behind c.args.rooms.now c.split_at_mut-front.result.0.now c.split_at_mut-front.result.1.now c.in-Part.k c.index-back-0.result c.split_at_mut-front.ensures.value c.split_at_mut-front.ensures.front_len (let l = loop.room_low c.args.given.now.system.now root parts ss c.args.given.now.plans.now c.args.closures.now c.args.rooms.now c.args.scratch.now c.args.marks.now c.args.place made at due (as_step (get_or c.args.given.now.steps.now c.args.place c.index-given-place.result)) (loop.step_at c.args.given.now.steps.now ss c.args.place c.index-given-place.result (as_step (get_or c.args.given.now.steps.now c.args.place c.index-given-place.result)) same due.low) c.in-Part.k (loop.named (get_or c.args.given.now.steps.now c.args.place c.index-given-place.result) c.in-Part.k c.in-Part.is).0 (loop.named (get_or c.args.given.now.steps.now c.args.place c.index-given-place.result) c.in-Part.k c.in-Part.is).1 in let m = c.split_at_mut-front.ensures.back_len in omega (arith, l, m)) (loop.room_low c.args.given.now.system.now root parts ss c.args.given.now.plans.now c.args.closures.now c.args.rooms.now c.args.scratch.now c.args.marks.now c.args.place made at due (as_step (get_or c.args.given.now.steps.now c.args.place c.index-given-place.result)) (loop.step_at c.args.given.now.steps.now ss c.args.place c.index-given-place.result (as_step (get_or c.args.given.now.steps.now c.args.place c.index-given-place.result)) same due.low) c.in-Part.k (loop.named (get_or c.args.given.now.steps.now c.args.place c.index-given-place.result) c.in-Part.k c.in-Part.is).0 (loop.named (get_or c.args.given.now.steps.now c.args.place c.index-given-place.result) c.in-Part.k c.in-Part.is).1)) (loop.element_at c.args.marks.now c.in-Part.k c.index-marks-part.result (loop.mark_low c.args.given.now.system.now root parts ss c.args.given.now.plans.now c.args.closures.now c.args.rooms.now c.args.scratch.now c.args.marks.now c.args.place made at due (as_step (get_or c.args.given.now.steps.now c.args.place c.index-given-place.result)) (loop.step_at c.args.given.now.steps.now ss c.args.place c.index-given-place.result (as_step (get_or c.args.given.now.steps.now c.args.place c.index-given-place.result)) same due.low) c.in-Part.k (loop.named (get_or c.args.given.now.steps.now c.args.place c.index-given-place.result) c.in-Part.k c.in-Part.is).0 (loop.named (get_or c.args.given.now.steps.now c.args.place c.index-given-place.result) c.in-Part.k c.in-Part.is).1)) c.split_at_mut-front.result.0.now (get_or parts c.in-Part.k core.True) c.split_at_mut-front.ensures.front refl)))) (subst (λ (ts : List Step). IsFineStep c.args.given.now.system.now parts ts made (as_step (get_or c.args.given.now.steps.now c.args.place c.index-given-place.result)) c.check_own.new.room) (sym same) (fine parts (get_or parts c.in-Part.k core.True) made (subst (λ (ts : List Step). IsDueBehind c.args.given.now.system.now parts ts c.args.given.now.plans.now c.split_at_mut-front.result.0.now made (get_or parts c.in-Part.k core.True) (get_or c.args.given.now.plans.now c.in-Part.k c.index-given-part.result) (as_step (get_or c.args.given.now.steps.now c.args.place c.index-given-place.result)) (get_or c.split_at_mut-front.result.1.now 0 c.index-back-0.result) c.args.scratch.now (get_or c.args.marks.now c.in-Part.k c.index-marks-part.result)) same (loop.behind c.args.given.now.system.now root parts ss c.args.given.now.plans.now c.args.closures.now c.args.rooms.now c.args.scratch.now c.args.marks.now c.args.place made at due (as_step (get_or c.args.given.now.steps.now c.args.place c.index-given-place.result)) (loop.step_at c.args.given.now.steps.now ss c.args.place c.index-given-place.result (as_step (get_or c.args.given.now.steps.now c.args.place c.index-given-place.result)) same due.low) c.in-Part.k (loop.named (get_or c.args.given.now.steps.now c.args.place c.index-given-place.result) c.in-Part.k c.in-Part.is).0 (loop.named (get_or c.args.given.now.steps.now c.args.place c.index-given-place.result) c.in-Part.k c.in-Part.is).1 (get_or c.args.given.now.plans.now c.in-Part.k c.index-given-part.result) (get_or c.split_at_mut-front.result.1.now 0 c.index-back-0.result) (get_or c.args.marks.now c.in-Part.k c.index-marks-part.result) (loop.element_at c.args.given.now.plans.now c.in-Part.k c.index-given-part.result (loop.plan_low c.args.given.now.system.now root parts ss c.args.given.now.plans.now c.args.closures.now c.args.rooms.now c.args.scratch.now c.args.marks.now c.args.place made at due (as_step (get_or c.args.given.now.steps.now c.args.place c.index-given-place.result)) (loop.step_at c.args.given.now.steps.now ss c.args.place c.index-given-place.result (as_step (get_or c.args.given.now.steps.now c.args.place c.index-given-place.result)) same due.low) c.in-Part.k (loop.named (get_or c.args.given.now.steps.now c.args.place c.index-given-place.result) c.in-Part.k c.in-Part.is).0 (loop.named (get_or c.args.given.now.steps.now c.args.place c.index-given-place.result) c.in-Part.k c.in-Part.is).1)) (loop.first_behind c.args.rooms.now c.split_at_mut-front.result.0.now c.split_at_mut-front.result.1.now c.in-Part.k c.index-back-0.result c.split_at_mut-front.ensures.value c.split_at_mut-front.ensures.front_len (let l = loop.room_low c.args.given.now.system.now root parts ss c.args.given.now.plans.now c.args.closures.now c.args.rooms.now c.args.scratch.now c.args.marks.now c.args.place made at due (as_step (get_or c.args.given.now.steps.now c.args.place c.index-given-place.result)) (loop.step_at c.args.given.now.steps.now ss c.args.place c.index-given-place.result (as_step (get_or c.args.given.now.steps.now c.args.place c.index-given-place.result)) same due.low) c.in-Part.k (loop.named (get_or c.args.given.now.steps.now c.args.place c.index-given-place.result) c.in-Part.k c.in-Part.is).0 (loop.named (get_or c.args.given.now.steps.now c.args.place c.index-given-place.result) c.in-Part.k c.in-Part.is).1 in let m = c.split_at_mut-front.ensures.back_len in omega (arith, l, m)) (loop.room_low c.args.given.now.system.now root parts ss c.args.given.now.plans.now c.args.closures.now c.args.rooms.now c.args.scratch.now c.args.marks.now c.args.place made at due (as_step (get_or c.args.given.now.steps.now c.args.place c.index-given-place.result)) (loop.step_at c.args.given.now.steps.now ss c.args.place c.index-given-place.result (as_step (get_or c.args.given.now.steps.now c.args.place c.index-given-place.result)) same due.low) c.in-Part.k (loop.named (get_or c.args.given.now.steps.now c.args.place c.index-given-place.result) c.in-Part.k c.in-Part.is).0 (loop.named (get_or c.args.given.now.steps.now c.args.place c.index-given-place.result) c.in-Part.k c.in-Part.is).1)) (loop.element_at c.args.marks.now c.in-Part.k c.index-marks-part.result (loop.mark_low c.args.given.now.system.now root parts ss c.args.given.now.plans.now c.args.closures.now c.args.rooms.now c.args.scratch.now c.args.marks.now c.args.place made at due (as_step (get_or c.args.given.now.steps.now c.args.place c.index-given-place.result)) (loop.step_at c.args.given.now.steps.now ss c.args.place c.index-given-place.result (as_step (get_or c.args.given.now.steps.now c.args.place c.index-given-place.result)) same due.low) c.in-Part.k (loop.named (get_or c.args.given.now.steps.now c.args.place c.index-given-place.result) c.in-Part.k c.in-Part.is).0 (loop.named (get_or c.args.given.now.steps.now c.args.place c.index-given-place.result) c.in-Part.k c.in-Part.is).1)) c.split_at_mut-front.result.0.now (get_or parts c.in-Part.k core.True) c.split_at_mut-front.ensures.front refl))))))
    c.check_own.ensures.fine

pub returns-in-Part-clause-failing : goal.returns-in-Part-clause-failing
returns-in-Part-clause-failing c = if_err c.check_own.result
    (λ e fails parts root ss made same at due s.
    subst (λ (x : Step). IsFailing c.args.given.now.system.now parts made x e.place (as_reason e.reason)) (sym (loop.step_at c.args.given.now.steps.now ss c.args.place c.index-given-place.result s same due.low))
    (fails parts (get_or parts c.in-Part.k core.True) made (subst (λ (ts : List Step). IsDueBehind c.args.given.now.system.now parts ts c.args.given.now.plans.now c.split_at_mut-front.result.0.now made (get_or parts c.in-Part.k core.True) (get_or c.args.given.now.plans.now c.in-Part.k c.index-given-part.result) (as_step (get_or c.args.given.now.steps.now c.args.place c.index-given-place.result)) (get_or c.split_at_mut-front.result.1.now 0 c.index-back-0.result) c.args.scratch.now (get_or c.args.marks.now c.in-Part.k c.index-marks-part.result)) same (loop.behind c.args.given.now.system.now root parts ss c.args.given.now.plans.now c.args.closures.now c.args.rooms.now c.args.scratch.now c.args.marks.now c.args.place made at due (as_step (get_or c.args.given.now.steps.now c.args.place c.index-given-place.result)) (loop.step_at c.args.given.now.steps.now ss c.args.place c.index-given-place.result (as_step (get_or c.args.given.now.steps.now c.args.place c.index-given-place.result)) same due.low) c.in-Part.k (loop.named (get_or c.args.given.now.steps.now c.args.place c.index-given-place.result) c.in-Part.k c.in-Part.is).0 (loop.named (get_or c.args.given.now.steps.now c.args.place c.index-given-place.result) c.in-Part.k c.in-Part.is).1 (get_or c.args.given.now.plans.now c.in-Part.k c.index-given-part.result) (get_or c.split_at_mut-front.result.1.now 0 c.index-back-0.result) (get_or c.args.marks.now c.in-Part.k c.index-marks-part.result) (loop.element_at c.args.given.now.plans.now c.in-Part.k c.index-given-part.result (loop.plan_low c.args.given.now.system.now root parts ss c.args.given.now.plans.now c.args.closures.now c.args.rooms.now c.args.scratch.now c.args.marks.now c.args.place made at due (as_step (get_or c.args.given.now.steps.now c.args.place c.index-given-place.result)) (loop.step_at c.args.given.now.steps.now ss c.args.place c.index-given-place.result (as_step (get_or c.args.given.now.steps.now c.args.place c.index-given-place.result)) same due.low) c.in-Part.k (loop.named (get_or c.args.given.now.steps.now c.args.place c.index-given-place.result) c.in-Part.k c.in-Part.is).0 (loop.named (get_or c.args.given.now.steps.now c.args.place c.index-given-place.result) c.in-Part.k c.in-Part.is).1)) (loop.first_behind c.args.rooms.now c.split_at_mut-front.result.0.now c.split_at_mut-front.result.1.now c.in-Part.k c.index-back-0.result c.split_at_mut-front.ensures.value c.split_at_mut-front.ensures.front_len (let l = loop.room_low c.args.given.now.system.now root parts ss c.args.given.now.plans.now c.args.closures.now c.args.rooms.now c.args.scratch.now c.args.marks.now c.args.place made at due (as_step (get_or c.args.given.now.steps.now c.args.place c.index-given-place.result)) (loop.step_at c.args.given.now.steps.now ss c.args.place c.index-given-place.result (as_step (get_or c.args.given.now.steps.now c.args.place c.index-given-place.result)) same due.low) c.in-Part.k (loop.named (get_or c.args.given.now.steps.now c.args.place c.index-given-place.result) c.in-Part.k c.in-Part.is).0 (loop.named (get_or c.args.given.now.steps.now c.args.place c.index-given-place.result) c.in-Part.k c.in-Part.is).1 in let m = c.split_at_mut-front.ensures.back_len in omega (arith, l, m)) (loop.room_low c.args.given.now.system.now root parts ss c.args.given.now.plans.now c.args.closures.now c.args.rooms.now c.args.scratch.now c.args.marks.now c.args.place made at due (as_step (get_or c.args.given.now.steps.now c.args.place c.index-given-place.result)) (loop.step_at c.args.given.now.steps.now ss c.args.place c.index-given-place.result (as_step (get_or c.args.given.now.steps.now c.args.place c.index-given-place.result)) same due.low) c.in-Part.k (loop.named (get_or c.args.given.now.steps.now c.args.place c.index-given-place.result) c.in-Part.k c.in-Part.is).0 (loop.named (get_or c.args.given.now.steps.now c.args.place c.index-given-place.result) c.in-Part.k c.in-Part.is).1)) (loop.element_at c.args.marks.now c.in-Part.k c.index-marks-part.result (loop.mark_low c.args.given.now.system.now root parts ss c.args.given.now.plans.now c.args.closures.now c.args.rooms.now c.args.scratch.now c.args.marks.now c.args.place made at due (as_step (get_or c.args.given.now.steps.now c.args.place c.index-given-place.result)) (loop.step_at c.args.given.now.steps.now ss c.args.place c.index-given-place.result (as_step (get_or c.args.given.now.steps.now c.args.place c.index-given-place.result)) same due.low) c.in-Part.k (loop.named (get_or c.args.given.now.steps.now c.args.place c.index-given-place.result) c.in-Part.k c.in-Part.is).0 (loop.named (get_or c.args.given.now.steps.now c.args.place c.index-given-place.result) c.in-Part.k c.in-Part.is).1)) c.split_at_mut-front.result.0.now (get_or parts c.in-Part.k core.True) c.split_at_mut-front.ensures.front refl))))
    c.check_own.ensures.failing

pub returns-in-Part-clause-ready : goal.returns-in-Part-clause-ready
returns-in-Part-clause-ready c parts root ss made same at due =
    subst (λ (rs : List PartRoom). IsReady c.args.given.now.system.now root parts ss c.args.given.now.plans.now c.args.closures.now rs c.check_own.new.scratch (set c.args.marks.now c.in-Part.k c.check_own.new.marks)) (sym (loop.set_first_behind c.args.rooms.now c.split_at_mut-front.result.0.now c.split_at_mut-front.result.1.now c.in-Part.k c.check_own.new.room c.split_at_mut-front.ensures.value c.split_at_mut-front.ensures.front_len))
    (loop.part_ready c.args.given.now.system.now root parts ss c.args.given.now.plans.now c.args.closures.now c.args.rooms.now c.args.scratch.now c.args.marks.now c.args.place made at due (as_step (get_or c.args.given.now.steps.now c.args.place c.index-given-place.result)) (loop.step_at c.args.given.now.steps.now ss c.args.place c.index-given-place.result (as_step (get_or c.args.given.now.steps.now c.args.place c.index-given-place.result)) same due.low) c.in-Part.k (loop.named (get_or c.args.given.now.steps.now c.args.place c.index-given-place.result) c.in-Part.k c.in-Part.is).0 (loop.named (get_or c.args.given.now.steps.now c.args.place c.index-given-place.result) c.in-Part.k c.in-Part.is).1 (get_or c.args.given.now.plans.now c.in-Part.k c.index-given-part.result) (get_or c.split_at_mut-front.result.1.now 0 c.index-back-0.result) (get_or c.args.marks.now c.in-Part.k c.index-marks-part.result) (loop.element_at c.args.given.now.plans.now c.in-Part.k c.index-given-part.result (loop.plan_low c.args.given.now.system.now root parts ss c.args.given.now.plans.now c.args.closures.now c.args.rooms.now c.args.scratch.now c.args.marks.now c.args.place made at due (as_step (get_or c.args.given.now.steps.now c.args.place c.index-given-place.result)) (loop.step_at c.args.given.now.steps.now ss c.args.place c.index-given-place.result (as_step (get_or c.args.given.now.steps.now c.args.place c.index-given-place.result)) same due.low) c.in-Part.k (loop.named (get_or c.args.given.now.steps.now c.args.place c.index-given-place.result) c.in-Part.k c.in-Part.is).0 (loop.named (get_or c.args.given.now.steps.now c.args.place c.index-given-place.result) c.in-Part.k c.in-Part.is).1)) (loop.first_behind c.args.rooms.now c.split_at_mut-front.result.0.now c.split_at_mut-front.result.1.now c.in-Part.k c.index-back-0.result c.split_at_mut-front.ensures.value c.split_at_mut-front.ensures.front_len (let l = loop.room_low c.args.given.now.system.now root parts ss c.args.given.now.plans.now c.args.closures.now c.args.rooms.now c.args.scratch.now c.args.marks.now c.args.place made at due (as_step (get_or c.args.given.now.steps.now c.args.place c.index-given-place.result)) (loop.step_at c.args.given.now.steps.now ss c.args.place c.index-given-place.result (as_step (get_or c.args.given.now.steps.now c.args.place c.index-given-place.result)) same due.low) c.in-Part.k (loop.named (get_or c.args.given.now.steps.now c.args.place c.index-given-place.result) c.in-Part.k c.in-Part.is).0 (loop.named (get_or c.args.given.now.steps.now c.args.place c.index-given-place.result) c.in-Part.k c.in-Part.is).1 in let m = c.split_at_mut-front.ensures.back_len in omega (arith, l, m)) (loop.room_low c.args.given.now.system.now root parts ss c.args.given.now.plans.now c.args.closures.now c.args.rooms.now c.args.scratch.now c.args.marks.now c.args.place made at due (as_step (get_or c.args.given.now.steps.now c.args.place c.index-given-place.result)) (loop.step_at c.args.given.now.steps.now ss c.args.place c.index-given-place.result (as_step (get_or c.args.given.now.steps.now c.args.place c.index-given-place.result)) same due.low) c.in-Part.k (loop.named (get_or c.args.given.now.steps.now c.args.place c.index-given-place.result) c.in-Part.k c.in-Part.is).0 (loop.named (get_or c.args.given.now.steps.now c.args.place c.index-given-place.result) c.in-Part.k c.in-Part.is).1)) (loop.element_at c.args.marks.now c.in-Part.k c.index-marks-part.result (loop.mark_low c.args.given.now.system.now root parts ss c.args.given.now.plans.now c.args.closures.now c.args.rooms.now c.args.scratch.now c.args.marks.now c.args.place made at due (as_step (get_or c.args.given.now.steps.now c.args.place c.index-given-place.result)) (loop.step_at c.args.given.now.steps.now ss c.args.place c.index-given-place.result (as_step (get_or c.args.given.now.steps.now c.args.place c.index-given-place.result)) same due.low) c.in-Part.k (loop.named (get_or c.args.given.now.steps.now c.args.place c.index-given-place.result) c.in-Part.k c.in-Part.is).0 (loop.named (get_or c.args.given.now.steps.now c.args.place c.index-given-place.result) c.in-Part.k c.in-Part.is).1)) c.check_own.new.room c.check_own.new.scratch c.check_own.new.marks c.check_own.ensures.room c.check_own.ensures.scratch (subst (λ (ts : List Step). IsMarkRoomFor ts (get_or c.args.given.now.plans.now c.in-Part.k c.index-given-part.result).work c.check_own.new.marks) (sym same) ((c.check_own.ensures.marks parts (get_or parts c.in-Part.k core.True)) made (subst (λ (ts : List Step). IsDueBehind c.args.given.now.system.now parts ts c.args.given.now.plans.now c.split_at_mut-front.result.0.now made (get_or parts c.in-Part.k core.True) (get_or c.args.given.now.plans.now c.in-Part.k c.index-given-part.result) (as_step (get_or c.args.given.now.steps.now c.args.place c.index-given-place.result)) (get_or c.split_at_mut-front.result.1.now 0 c.index-back-0.result) c.args.scratch.now (get_or c.args.marks.now c.in-Part.k c.index-marks-part.result)) same (loop.behind c.args.given.now.system.now root parts ss c.args.given.now.plans.now c.args.closures.now c.args.rooms.now c.args.scratch.now c.args.marks.now c.args.place made at due (as_step (get_or c.args.given.now.steps.now c.args.place c.index-given-place.result)) (loop.step_at c.args.given.now.steps.now ss c.args.place c.index-given-place.result (as_step (get_or c.args.given.now.steps.now c.args.place c.index-given-place.result)) same due.low) c.in-Part.k (loop.named (get_or c.args.given.now.steps.now c.args.place c.index-given-place.result) c.in-Part.k c.in-Part.is).0 (loop.named (get_or c.args.given.now.steps.now c.args.place c.index-given-place.result) c.in-Part.k c.in-Part.is).1 (get_or c.args.given.now.plans.now c.in-Part.k c.index-given-part.result) (get_or c.split_at_mut-front.result.1.now 0 c.index-back-0.result) (get_or c.args.marks.now c.in-Part.k c.index-marks-part.result) (loop.element_at c.args.given.now.plans.now c.in-Part.k c.index-given-part.result (loop.plan_low c.args.given.now.system.now root parts ss c.args.given.now.plans.now c.args.closures.now c.args.rooms.now c.args.scratch.now c.args.marks.now c.args.place made at due (as_step (get_or c.args.given.now.steps.now c.args.place c.index-given-place.result)) (loop.step_at c.args.given.now.steps.now ss c.args.place c.index-given-place.result (as_step (get_or c.args.given.now.steps.now c.args.place c.index-given-place.result)) same due.low) c.in-Part.k (loop.named (get_or c.args.given.now.steps.now c.args.place c.index-given-place.result) c.in-Part.k c.in-Part.is).0 (loop.named (get_or c.args.given.now.steps.now c.args.place c.index-given-place.result) c.in-Part.k c.in-Part.is).1)) (loop.first_behind c.args.rooms.now c.split_at_mut-front.result.0.now c.split_at_mut-front.result.1.now c.in-Part.k c.index-back-0.result c.split_at_mut-front.ensures.value c.split_at_mut-front.ensures.front_len (let l = loop.room_low c.args.given.now.system.now root parts ss c.args.given.now.plans.now c.args.closures.now c.args.rooms.now c.args.scratch.now c.args.marks.now c.args.place made at due (as_step (get_or c.args.given.now.steps.now c.args.place c.index-given-place.result)) (loop.step_at c.args.given.now.steps.now ss c.args.place c.index-given-place.result (as_step (get_or c.args.given.now.steps.now c.args.place c.index-given-place.result)) same due.low) c.in-Part.k (loop.named (get_or c.args.given.now.steps.now c.args.place c.index-given-place.result) c.in-Part.k c.in-Part.is).0 (loop.named (get_or c.args.given.now.steps.now c.args.place c.index-given-place.result) c.in-Part.k c.in-Part.is).1 in let m = c.split_at_mut-front.ensures.back_len in omega (arith, l, m)) (loop.room_low c.args.given.now.system.now root parts ss c.args.given.now.plans.now c.args.closures.now c.args.rooms.now c.args.scratch.now c.args.marks.now c.args.place made at due (as_step (get_or c.args.given.now.steps.now c.args.place c.index-given-place.result)) (loop.step_at c.args.given.now.steps.now ss c.args.place c.index-given-place.result (as_step (get_or c.args.given.now.steps.now c.args.place c.index-given-place.result)) same due.low) c.in-Part.k (loop.named (get_or c.args.given.now.steps.now c.args.place c.index-given-place.result) c.in-Part.k c.in-Part.is).0 (loop.named (get_or c.args.given.now.steps.now c.args.place c.index-given-place.result) c.in-Part.k c.in-Part.is).1)) (loop.element_at c.args.marks.now c.in-Part.k c.index-marks-part.result (loop.mark_low c.args.given.now.system.now root parts ss c.args.given.now.plans.now c.args.closures.now c.args.rooms.now c.args.scratch.now c.args.marks.now c.args.place made at due (as_step (get_or c.args.given.now.steps.now c.args.place c.index-given-place.result)) (loop.step_at c.args.given.now.steps.now ss c.args.place c.index-given-place.result (as_step (get_or c.args.given.now.steps.now c.args.place c.index-given-place.result)) same due.low) c.in-Part.k (loop.named (get_or c.args.given.now.steps.now c.args.place c.index-given-place.result) c.in-Part.k c.in-Part.is).0 (loop.named (get_or c.args.given.now.steps.now c.args.place c.index-given-place.result) c.in-Part.k c.in-Part.is).1)) c.split_at_mut-front.result.0.now (get_or parts c.in-Part.k core.True) c.split_at_mut-front.ensures.front refl)))))
