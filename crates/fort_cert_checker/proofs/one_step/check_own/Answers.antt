use Rattle.std.proofs.Common.{List, map, sym, ap, ◌∙◌, refl}
use Rattle.fort_certificate_theory.specs.Certificates as certificates
use Rattle.fort_findings.specs.FindingView.{as_count, as_pair, as_which}
use Rattle.fort_steps.specs.StepView.{as_step}
use Rattle.fort_findings.specs.declared.count.Count.{Count}
use Rattle.fort_cert_checker.proofs.OwnSteps as own
use Rattle.fort_cert_checker.proofs.OwnSteps.{on_ok, if_err}
use Rattle.fort_cert_checker.proofs.one_step.check_own.Goals as goal

pub check_table-requires : goal.check_table-requires
check_table-requires c = let d = c.requires.due in record { due = (d.0, c.in-Part.field-0, d.2, d.1, own.part_due c.args.given.now.system.now d.0 (map as_step c.args.given.now.steps.now) c.args.given.now.plans.now c.args.front.now d.1 c.args.plan.now (record { signature = c.signature.result; steps = c.args.given.now.steps; plans = c.args.given.now.plans; rooms = c.args.front }) (record { signature = c.signature.ensures.same; steps = refl; plans_are = refl; rooms_are = refl }) c.args.room.now c.args.scratch.now c.args.marks.now (as_step c.args.step.now) c.in-Part.field-0 c.deref.result.now (ap as_step c.in-Part.is ∙ ap (certificates.Part c.in-Part.field-0) (sym c.deref.ensures.value)) d.2 d.3) }

pub check_counts-requires : goal.check_counts-requires
check_counts-requires c = let d = c.requires.due in record { due = (c.args.given.now.system.now, d.0, c.in-Counts.field-0, d.2, d.1, own.counts_due c.args.given.now.system.now d.0 (map as_step c.args.given.now.steps.now) c.args.given.now.plans.now c.args.front.now d.1 c.args.plan.now (record { signature = c.signature.result; steps = c.args.given.now.steps; plans = c.args.given.now.plans; rooms = c.args.front }) (record { signature = c.signature.ensures.same; steps = refl; plans_are = refl; rooms_are = refl }) c.args.room.now c.args.scratch.now c.args.marks.now (as_step c.args.step.now) c.in-Counts.field-0 (map as_count c.deref-in-Counts.result.now) (ap as_step c.in-Counts.is ∙ ap (λ (xs : List Count). certificates.Counts c.in-Counts.field-0 (map as_count xs)) (sym c.deref-in-Counts.ensures.value)) d.2 d.3) }

pub check_value-requires : goal.check_value-requires
check_value-requires c = let d = c.requires.due in record { due = (c.args.given.now.system.now, d.0, c.in-Value.field-0, d.2, d.1, own.value_due c.args.given.now.system.now d.0 (map as_step c.args.given.now.steps.now) c.args.given.now.plans.now c.args.front.now d.1 c.args.plan.now (record { signature = c.signature.result; steps = c.args.given.now.steps; plans = c.args.given.now.plans; rooms = c.args.front }) (record { signature = c.signature.ensures.same; steps = refl; plans_are = refl; rooms_are = refl }) c.args.room.now c.args.scratch.now c.args.marks.now (as_step c.args.step.now) c.in-Value.field-0 c.in-Value.value (ap as_step c.in-Value.is) d.2 d.3) }

pub unreachable-requires : goal.unreachable-requires
unreachable-requires c = let d = c.requires.due in own.not_closure c.args.given.now.system.now d.0 (map as_step c.args.given.now.steps.now) c.args.given.now.plans.now c.args.front.now d.1 c.args.plan.now (record { signature = c.signature.result; steps = c.args.given.now.steps; plans = c.args.given.now.plans; rooms = c.args.front }) (record { signature = c.signature.ensures.same; steps = refl; plans_are = refl; rooms_are = refl }) c.args.room.now c.args.scratch.now c.args.marks.now (as_step c.args.step.now) (as_which c.in-Closure.field-0) c.in-Closure.field-1 (map as_pair c.in-Closure.field-2.items) (ap as_step c.in-Closure.is) d.2 d.3

pub returns-in-Part-clause-fine : goal.returns-in-Part-clause-fine
returns-in-Part-clause-fine c = own.all_fine c.args.given.now.system.now (map as_step c.args.given.now.steps.now) c.args.given.now.plans.now c.args.front.now c.args.plan.now (as_step c.args.step.now) c.args.room.now c.args.scratch.now c.args.marks.now c.check_table.new.room c.check_table.result (λ parts f. own.part_fine c.args.given.now.system.now parts (map as_step c.args.given.now.steps.now) c.args.given.now.plans.now c.args.front.now f c.args.plan.now (record { signature = c.signature.result; steps = c.args.given.now.steps; plans = c.args.given.now.plans; rooms = c.args.front }) (record { signature = c.signature.ensures.same; steps = refl; plans_are = refl; rooms_are = refl }) c.args.room.now c.args.scratch.now c.args.marks.now (as_step c.args.step.now) c.in-Part.field-0 c.deref.result.now (ap as_step c.in-Part.is ∙ ap (certificates.Part c.in-Part.field-0) (sym c.deref.ensures.value)) c.check_table.result c.check_table.new.room (λ made d. c.check_table.ensures.step parts c.in-Part.field-0 made f d))

pub returns-in-Part-clause-failing : goal.returns-in-Part-clause-failing
returns-in-Part-clause-failing c = own.all_failing c.args.given.now.system.now (map as_step c.args.given.now.steps.now) c.args.given.now.plans.now c.args.front.now c.args.plan.now (as_step c.args.step.now) c.args.room.now c.args.scratch.now c.args.marks.now c.check_table.result (λ parts f. own.part_failing c.args.given.now.system.now parts (map as_step c.args.given.now.steps.now) c.args.given.now.plans.now c.args.front.now f c.args.plan.now (record { signature = c.signature.result; steps = c.args.given.now.steps; plans = c.args.given.now.plans; rooms = c.args.front }) (record { signature = c.signature.ensures.same; steps = refl; plans_are = refl; rooms_are = refl }) c.args.room.now c.args.scratch.now c.args.marks.now (as_step c.args.step.now) c.in-Part.field-0 c.deref.result.now (ap as_step c.in-Part.is ∙ ap (certificates.Part c.in-Part.field-0) (sym c.deref.ensures.value)) c.check_table.result c.check_table.new.room (λ made d. c.check_table.ensures.step parts c.in-Part.field-0 made f d))

pub returns-in-Part-clause-room : goal.returns-in-Part-clause-room
returns-in-Part-clause-room c = let d = c.requires.due in own.part_room c.args.given.now.system.now d.0 (map as_step c.args.given.now.steps.now) c.args.given.now.plans.now c.args.front.now d.1 c.args.plan.now (record { signature = c.signature.result; steps = c.args.given.now.steps; plans = c.args.given.now.plans; rooms = c.args.front }) (record { signature = c.signature.ensures.same; steps = refl; plans_are = refl; rooms_are = refl }) c.args.room.now c.args.scratch.now c.args.marks.now (as_step c.args.step.now) c.in-Part.field-0 c.deref.result.now (ap as_step c.in-Part.is ∙ ap (certificates.Part c.in-Part.field-0) (sym c.deref.ensures.value)) c.check_table.new.room c.check_table.ensures.room c.check_table.ensures.merge_room

pub returns-in-Part-clause-marks : goal.returns-in-Part-clause-marks
returns-in-Part-clause-marks c parts f = own.part_marks c.args.given.now.system.now parts (map as_step c.args.given.now.steps.now) c.args.given.now.plans.now c.args.front.now f c.args.plan.now (record { signature = c.signature.result; steps = c.args.given.now.steps; plans = c.args.given.now.plans; rooms = c.args.front }) (record { signature = c.signature.ensures.same; steps = refl; plans_are = refl; rooms_are = refl }) c.args.room.now c.args.scratch.now c.args.marks.now (as_step c.args.step.now) c.in-Part.field-0 c.deref.result.now (ap as_step c.in-Part.is ∙ ap (certificates.Part c.in-Part.field-0) (sym c.deref.ensures.value)) c.check_table.new.marks c.check_table.ensures.marks

pub returns-in-Counts-clause-fine : goal.returns-in-Counts-clause-fine
returns-in-Counts-clause-fine c = own.all_fine c.args.given.now.system.now (map as_step c.args.given.now.steps.now) c.args.given.now.plans.now c.args.front.now c.args.plan.now (as_step c.args.step.now) c.args.room.now c.args.scratch.now c.args.marks.now c.args.room.now c.check_counts.result (λ parts f. own.counts_fine c.args.given.now.system.now parts (map as_step c.args.given.now.steps.now) c.args.given.now.plans.now c.args.front.now f c.args.plan.now (record { signature = c.signature.result; steps = c.args.given.now.steps; plans = c.args.given.now.plans; rooms = c.args.front }) (record { signature = c.signature.ensures.same; steps = refl; plans_are = refl; rooms_are = refl }) c.args.room.now c.args.scratch.now c.args.marks.now (as_step c.args.step.now) c.in-Counts.field-0 (map as_count c.deref-in-Counts.result.now) (ap as_step c.in-Counts.is ∙ ap (λ (xs : List Count). certificates.Counts c.in-Counts.field-0 (map as_count xs)) (sym c.deref-in-Counts.ensures.value)) c.check_counts.result c.args.room.now (λ made d. c.check_counts.ensures.judged c.args.given.now.system.now parts c.in-Counts.field-0 made f d))

pub returns-in-Counts-clause-failing : goal.returns-in-Counts-clause-failing
returns-in-Counts-clause-failing c = own.all_failing c.args.given.now.system.now (map as_step c.args.given.now.steps.now) c.args.given.now.plans.now c.args.front.now c.args.plan.now (as_step c.args.step.now) c.args.room.now c.args.scratch.now c.args.marks.now c.check_counts.result (λ parts f. own.counts_failing c.args.given.now.system.now parts (map as_step c.args.given.now.steps.now) c.args.given.now.plans.now c.args.front.now f c.args.plan.now (record { signature = c.signature.result; steps = c.args.given.now.steps; plans = c.args.given.now.plans; rooms = c.args.front }) (record { signature = c.signature.ensures.same; steps = refl; plans_are = refl; rooms_are = refl }) c.args.room.now c.args.scratch.now c.args.marks.now (as_step c.args.step.now) c.in-Counts.field-0 (map as_count c.deref-in-Counts.result.now) (ap as_step c.in-Counts.is ∙ ap (λ (xs : List Count). certificates.Counts c.in-Counts.field-0 (map as_count xs)) (sym c.deref-in-Counts.ensures.value)) c.check_counts.result (λ made d. c.check_counts.ensures.judged c.args.given.now.system.now parts c.in-Counts.field-0 made f d))

pub returns-in-Counts-clause-marks : goal.returns-in-Counts-clause-marks
returns-in-Counts-clause-marks c parts f = own.counts_marks c.args.given.now.system.now parts (map as_step c.args.given.now.steps.now) c.args.given.now.plans.now c.args.front.now f c.args.plan.now (record { signature = c.signature.result; steps = c.args.given.now.steps; plans = c.args.given.now.plans; rooms = c.args.front }) (record { signature = c.signature.ensures.same; steps = refl; plans_are = refl; rooms_are = refl }) c.args.room.now c.args.scratch.now c.args.marks.now (as_step c.args.step.now) c.in-Counts.field-0 (map as_count c.deref-in-Counts.result.now) (ap as_step c.in-Counts.is ∙ ap (λ (xs : List Count). certificates.Counts c.in-Counts.field-0 (map as_count xs)) (sym c.deref-in-Counts.ensures.value)) c.check_counts.new.marks (λ made d. c.check_counts.ensures.marks c.args.given.now.system.now parts c.in-Counts.field-0 made f d)

pub returns-in-Value-clause-fine : goal.returns-in-Value-clause-fine
returns-in-Value-clause-fine c = own.all_fine c.args.given.now.system.now (map as_step c.args.given.now.steps.now) c.args.given.now.plans.now c.args.front.now c.args.plan.now (as_step c.args.step.now) c.args.room.now c.args.scratch.now c.args.marks.now c.args.room.now c.check_value.result (λ parts f. own.value_fine c.args.given.now.system.now parts (map as_step c.args.given.now.steps.now) c.args.given.now.plans.now c.args.front.now f c.args.plan.now (record { signature = c.signature.result; steps = c.args.given.now.steps; plans = c.args.given.now.plans; rooms = c.args.front }) (record { signature = c.signature.ensures.same; steps = refl; plans_are = refl; rooms_are = refl }) c.args.room.now c.args.scratch.now c.args.marks.now (as_step c.args.step.now) c.in-Value.field-0 c.in-Value.value (ap as_step c.in-Value.is) c.check_value.result c.args.room.now
    (on_ok c.check_value.result (λ h made d. h c.args.given.now.system.now parts c.in-Value.field-0 made f d) c.check_value.ensures.fine))

pub returns-in-Value-clause-failing : goal.returns-in-Value-clause-failing
returns-in-Value-clause-failing c = own.all_failing c.args.given.now.system.now (map as_step c.args.given.now.steps.now) c.args.given.now.plans.now c.args.front.now c.args.plan.now (as_step c.args.step.now) c.args.room.now c.args.scratch.now c.args.marks.now c.check_value.result (λ parts f. own.value_failing c.args.given.now.system.now parts (map as_step c.args.given.now.steps.now) c.args.given.now.plans.now c.args.front.now f c.args.plan.now (record { signature = c.signature.result; steps = c.args.given.now.steps; plans = c.args.given.now.plans; rooms = c.args.front }) (record { signature = c.signature.ensures.same; steps = refl; plans_are = refl; rooms_are = refl }) c.args.room.now c.args.scratch.now c.args.marks.now (as_step c.args.step.now) c.in-Value.field-0 c.in-Value.value (ap as_step c.in-Value.is) c.check_value.result
    (if_err c.check_value.result (λ e h made d. h c.args.given.now.system.now parts c.in-Value.field-0 made f d) c.check_value.ensures.failing))

pub returns-in-Value-clause-marks : goal.returns-in-Value-clause-marks
returns-in-Value-clause-marks c parts f = own.value_marks c.args.given.now.system.now parts (map as_step c.args.given.now.steps.now) c.args.given.now.plans.now c.args.front.now f c.args.plan.now (record { signature = c.signature.result; steps = c.args.given.now.steps; plans = c.args.given.now.plans; rooms = c.args.front }) (record { signature = c.signature.ensures.same; steps = refl; plans_are = refl; rooms_are = refl }) c.args.room.now c.args.scratch.now c.args.marks.now (as_step c.args.step.now) c.in-Value.field-0 c.in-Value.value (ap as_step c.in-Value.is) c.check_value.new.marks c.check_value.ensures.marks

pub check_merge-requires-clause-table : goal.check_merge-requires-clause-table
check_merge-requires-clause-table c = let d = c.requires.due in let m = own.merge_due c.args.given.now.system.now d.0 (map as_step c.args.given.now.steps.now) c.args.given.now.plans.now c.args.front.now d.1 c.args.plan.now (record { signature = c.signature.result; steps = c.args.given.now.steps; plans = c.args.given.now.plans; rooms = c.args.front }) (record { signature = c.signature.ensures.same; steps = refl; plans_are = refl; rooms_are = refl }) c.args.room.now c.args.scratch.now c.args.marks.now (as_step c.args.step.now) c.in-Merge.part c.deref-in-Merge.result.now (ap as_step c.in-Merge.is ∙ ap (certificates.Merge c.in-Merge.part) (sym c.deref-in-Merge.ensures.value)) d.2 d.3 in own.merge_table c.args.given.now.system.now d.0 (map as_step c.args.given.now.steps.now) c.args.given.now.plans.now c.args.front.now d.1 c.args.plan.now (record { signature = c.signature.result; steps = c.args.given.now.steps; plans = c.args.given.now.plans; rooms = c.args.front }) (record { signature = c.signature.ensures.same; steps = refl; plans_are = refl; rooms_are = refl }) c.args.room.now c.args.scratch.now c.args.marks.now (as_step c.args.step.now) c.in-Merge.part c.deref-in-Merge.result.now (ap as_step c.in-Merge.is ∙ ap (certificates.Merge c.in-Merge.part) (sym c.deref-in-Merge.ensures.value)) d.2 m c.targets_of.result.now c.args.plan.now.columns (c.targets_of.ensures.own m.targets m.only) refl

pub check_merge-requires-clause-room : goal.check_merge-requires-clause-room
check_merge-requires-clause-room c = let d = c.requires.due in let m = own.merge_due c.args.given.now.system.now d.0 (map as_step c.args.given.now.steps.now) c.args.given.now.plans.now c.args.front.now d.1 c.args.plan.now (record { signature = c.signature.result; steps = c.args.given.now.steps; plans = c.args.given.now.plans; rooms = c.args.front }) (record { signature = c.signature.ensures.same; steps = refl; plans_are = refl; rooms_are = refl }) c.args.room.now c.args.scratch.now c.args.marks.now (as_step c.args.step.now) c.in-Merge.part c.deref-in-Merge.result.now (ap as_step c.in-Merge.is ∙ ap (certificates.Merge c.in-Merge.part) (sym c.deref-in-Merge.ensures.value)) d.2 d.3 in own.merge_room c.args.given.now.system.now d.0 (map as_step c.args.given.now.steps.now) c.args.given.now.plans.now c.args.front.now d.1 c.args.plan.now (record { signature = c.signature.result; steps = c.args.given.now.steps; plans = c.args.given.now.plans; rooms = c.args.front }) (record { signature = c.signature.ensures.same; steps = refl; plans_are = refl; rooms_are = refl }) c.args.room.now c.args.scratch.now c.args.marks.now (as_step c.args.step.now) c.in-Merge.part c.deref-in-Merge.result.now (ap as_step c.in-Merge.is ∙ ap (certificates.Merge c.in-Merge.part) (sym c.deref-in-Merge.ensures.value)) d.2 m c.targets_of.result.now c.args.plan.now.columns (c.targets_of.ensures.own m.targets m.only) refl

pub check_merge-requires-clause-scratch : goal.check_merge-requires-clause-scratch
check_merge-requires-clause-scratch c = let d = c.requires.due in let m = own.merge_due c.args.given.now.system.now d.0 (map as_step c.args.given.now.steps.now) c.args.given.now.plans.now c.args.front.now d.1 c.args.plan.now (record { signature = c.signature.result; steps = c.args.given.now.steps; plans = c.args.given.now.plans; rooms = c.args.front }) (record { signature = c.signature.ensures.same; steps = refl; plans_are = refl; rooms_are = refl }) c.args.room.now c.args.scratch.now c.args.marks.now (as_step c.args.step.now) c.in-Merge.part c.deref-in-Merge.result.now (ap as_step c.in-Merge.is ∙ ap (certificates.Merge c.in-Merge.part) (sym c.deref-in-Merge.ensures.value)) d.2 d.3 in own.merge_leaders c.args.given.now.system.now d.0 (map as_step c.args.given.now.steps.now) c.args.given.now.plans.now c.args.front.now d.1 c.args.plan.now (record { signature = c.signature.result; steps = c.args.given.now.steps; plans = c.args.given.now.plans; rooms = c.args.front }) (record { signature = c.signature.ensures.same; steps = refl; plans_are = refl; rooms_are = refl }) c.args.room.now c.args.scratch.now c.args.marks.now (as_step c.args.step.now) c.in-Merge.part c.deref-in-Merge.result.now (ap as_step c.in-Merge.is ∙ ap (certificates.Merge c.in-Merge.part) (sym c.deref-in-Merge.ensures.value)) d.2 m c.targets_of.result.now c.args.plan.now.columns (c.targets_of.ensures.own m.targets m.only) refl

pub check_merge-requires-clause-not_merged : goal.check_merge-requires-clause-not_merged
check_merge-requires-clause-not_merged c = let d = c.requires.due in let m = own.merge_due c.args.given.now.system.now d.0 (map as_step c.args.given.now.steps.now) c.args.given.now.plans.now c.args.front.now d.1 c.args.plan.now (record { signature = c.signature.result; steps = c.args.given.now.steps; plans = c.args.given.now.plans; rooms = c.args.front }) (record { signature = c.signature.ensures.same; steps = refl; plans_are = refl; rooms_are = refl }) c.args.room.now c.args.scratch.now c.args.marks.now (as_step c.args.step.now) c.in-Merge.part c.deref-in-Merge.result.now (ap as_step c.in-Merge.is ∙ ap (certificates.Merge c.in-Merge.part) (sym c.deref-in-Merge.ensures.value)) d.2 d.3 in m.plain

pub returns-in-Merge-clause-fine : goal.returns-in-Merge-clause-fine
returns-in-Merge-clause-fine c = own.all_fine c.args.given.now.system.now (map as_step c.args.given.now.steps.now) c.args.given.now.plans.now c.args.front.now c.args.plan.now (as_step c.args.step.now) c.args.room.now c.args.scratch.now c.args.marks.now c.check_merge.new.room c.check_merge.result (λ parts f. own.merge_fine c.args.given.now.system.now parts (map as_step c.args.given.now.steps.now) c.args.given.now.plans.now c.args.front.now f c.args.plan.now (record { signature = c.signature.result; steps = c.args.given.now.steps; plans = c.args.given.now.plans; rooms = c.args.front }) (record { signature = c.signature.ensures.same; steps = refl; plans_are = refl; rooms_are = refl }) c.args.room.now c.args.scratch.now c.args.marks.now (as_step c.args.step.now) c.in-Merge.part c.deref-in-Merge.result.now (ap as_step c.in-Merge.is ∙ ap (certificates.Merge c.in-Merge.part) (sym c.deref-in-Merge.ensures.value)) c.check_merge.result c.check_merge.new.room c.targets_of.result.now c.args.plan.now.columns c.targets_of.ensures.own refl
    c.check_merge.ensures.merge c.check_merge.ensures.merged c.check_merge.ensures.entries c.check_merge.ensures.held c.check_merge.ensures.fewer)

pub returns-in-Merge-clause-failing : goal.returns-in-Merge-clause-failing
returns-in-Merge-clause-failing c = own.all_failing c.args.given.now.system.now (map as_step c.args.given.now.steps.now) c.args.given.now.plans.now c.args.front.now c.args.plan.now (as_step c.args.step.now) c.args.room.now c.args.scratch.now c.args.marks.now c.check_merge.result (λ parts f. own.merge_failing c.args.given.now.system.now parts (map as_step c.args.given.now.steps.now) c.args.given.now.plans.now c.args.front.now f c.args.plan.now (record { signature = c.signature.result; steps = c.args.given.now.steps; plans = c.args.given.now.plans; rooms = c.args.front }) (record { signature = c.signature.ensures.same; steps = refl; plans_are = refl; rooms_are = refl }) c.args.room.now c.args.scratch.now c.args.marks.now (as_step c.args.step.now) c.in-Merge.part c.deref-in-Merge.result.now (ap as_step c.in-Merge.is ∙ ap (certificates.Merge c.in-Merge.part) (sym c.deref-in-Merge.ensures.value)) c.check_merge.result c.check_merge.new.room c.targets_of.result.now c.args.plan.now.columns c.targets_of.ensures.own refl c.check_merge.ensures.outcome)

pub returns-in-Merge-clause-room : goal.returns-in-Merge-clause-room
returns-in-Merge-clause-room c = let d = c.requires.due in λ ss only h. own.merged_room c.args.given.now.system.now d.0 (map as_step c.args.given.now.steps.now) c.args.given.now.plans.now c.args.front.now d.1 c.args.plan.now (record { signature = c.signature.result; steps = c.args.given.now.steps; plans = c.args.given.now.plans; rooms = c.args.front }) (record { signature = c.signature.ensures.same; steps = refl; plans_are = refl; rooms_are = refl }) c.args.room.now c.args.scratch.now c.args.marks.now (as_step c.args.step.now) c.in-Merge.part c.deref-in-Merge.result.now (ap as_step c.in-Merge.is ∙ ap (certificates.Merge c.in-Merge.part) (sym c.deref-in-Merge.ensures.value)) c.check_merge.new.room c.check_merge.ensures.room c.check_merge.ensures.merge_room ss h

pub returns-in-Merge-clause-marks : goal.returns-in-Merge-clause-marks
returns-in-Merge-clause-marks c parts f = own.merge_marks c.args.given.now.system.now parts (map as_step c.args.given.now.steps.now) c.args.given.now.plans.now c.args.front.now f c.args.plan.now (record { signature = c.signature.result; steps = c.args.given.now.steps; plans = c.args.given.now.plans; rooms = c.args.front }) (record { signature = c.signature.ensures.same; steps = refl; plans_are = refl; rooms_are = refl }) c.args.room.now c.args.scratch.now c.args.marks.now (as_step c.args.step.now) c.in-Merge.part c.deref-in-Merge.result.now (ap as_step c.in-Merge.is ∙ ap (certificates.Merge c.in-Merge.part) (sym c.deref-in-Merge.ensures.value))
