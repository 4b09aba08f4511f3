use Rattle.std.proofs.Common.{map, sym}
use Rattle.std.proofs.lemmas.List.{length-map}
use Rattle.fort_findings.specs.FindingView.{as_count}
use Rattle.fort_check_steps.specs.Turned.{turned_table}
use Rattle.fort_check_steps.specs.StepAnswers.{outcome_of}
use Rattle.fort_cert_checker.proofs.ValueArms as arms
use Rattle.fort_cert_checker.proofs.value.check_counts.Goals as goal

pub table-body-requires : goal.table-body-requires
table-body-requires c = let d = c.requires.due in let b = arms.body_is d.0 d.1 c.args.past.now d.2 d.3 d.4 c.args.plan.now (map as_count c.args.counts.now) c.args.marks.now d.5 c.in-Many.source c.in-Many.column c.in-Many.field-2 c.in-Many.is in (b.table, b.at)

pub check_marks-requires-clause-column : goal.check_marks-requires-clause-column
check_marks-requires-clause-column c = let d = c.requires.due in arms.counted_low d.0 d.1 c.args.past.now d.2 d.3 d.4 c.args.plan.now (map as_count c.args.counts.now) c.args.marks.now d.5 c.in-Many.source c.in-Many.column c.in-Many.field-2 c.in-Many.is (turned_table c.table-body.result) c.table-body.ensures.is

pub check_marks-requires-clause-room : goal.check_marks-requires-clause-room
check_marks-requires-clause-room c = let d = c.requires.due in arms.counted_room d.0 d.1 c.args.past.now d.2 d.3 d.4 c.args.plan.now (map as_count c.args.counts.now) c.args.marks.now d.5 c.in-Many.source c.in-Many.column c.in-Many.field-2 c.in-Many.is (turned_table c.table-body.result) _ c.table-body.ensures.is (sym (length-map c.args.counts.now as_count))

pub returns-clause-judged : goal.returns-clause-judged
returns-clause-judged c system parts k made f due = arms.counted_judged system parts c.args.past.now k made f c.args.plan.now (map as_count c.args.counts.now) c.args.marks.now due c.in-Many.source c.in-Many.column c.in-Many.field-2 c.in-Many.is (turned_table c.table-body.result) c.check_marks.new.room.states.items (outcome_of c.check_marks.result) c.table-body.ensures.is c.check_marks.ensures.pure c.check_marks.ensures.outcome

pub returns-clause-marks : goal.returns-clause-marks
returns-clause-marks c system parts k made f due = arms.counted_kept system parts c.args.past.now k made f c.args.plan.now (map as_count c.args.counts.now) c.args.marks.now due c.in-Many.source c.in-Many.column c.in-Many.field-2 c.in-Many.is (turned_table c.table-body.result) _ c.check_marks.new.room c.table-body.ensures.is (sym (length-map c.args.counts.now as_count)) c.check_marks.ensures.room

pub unreachable-requires : goal.unreachable-requires
unreachable-requires c = let d = c.requires.due in arms.only_many d.0 d.1 c.args.past.now d.2 d.3 d.4 c.args.plan.now (map as_count c.args.counts.now) c.args.marks.now d.5 (λ s n ns e. c.in_default.not-Many s n ns e)
