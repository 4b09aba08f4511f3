use Rattle.std.proofs.Common.{refl, sym, subst}
use Rattle.fort_outline.specs.Outlines.{parts_in, core_at}
use Rattle.fort_engine.proofs.OperandLaws.{has_root, next_is}
use Rattle.fort_engine.specs.Deciding.{IsNextPart}
use Rattle.fort_engine.specs.Found.{IsFound}
use Rattle.fort_trace.specs.Recording.{recorded_with, HasTargets, AnswerAdded, CountsPushed}
use Rattle.fort_trace.proofs.RecordLaws.{targets_there, AreRecordedTo-more}
use Rattle.fort_trace.proofs.recorder.RecordedStepsRecorder.note.Goals as goal

pub push_answer-requires : goal.push_answer-requires
push_answer-requires c =
    let a = c.args in
    let o = a.outline.now in
    let found = subst (λ z. IsFound a.system.now z (parts_in o) a._kept.now (core_at o a.k) a.decided) c.requires.taken c.requires.found in
    let is = next_is (has_root {r = c.index-root.result.now} c.requires.next c.index-root.ensures refl) in (
      parts_in o,
      subst (λ z. HasTargets z a.decided.answer a.decided.targets) is
          (targets_there a.system.now (recorded_with a._options.now.cap a._options.now.reduces) (core_at o a.k) a.decided a.decided.answer (found.made refl)),
    )

pub returns-clause-recorded : goal.returns-clause-recorded
returns-clause-recorded c =
    let a = c.args in
    let o = a.outline.now in
    let cap = a._options.now.cap in
    let reduces = a._options.now.reduces in
    let next = subst (λ z. IsNextPart a.system.now z o a.k a._kept.now) c.requires.taken c.requires.next in
    let found = subst (λ z. IsFound a.system.now z (parts_in o) a._kept.now (core_at o a.k) a.decided) c.requires.taken c.requires.found in
    let is = next_is (has_root {r = c.index-root.result.now} next c.index-root.ensures refl) in
    let pushed : CountsPushed a.k a.decided.counts a.self.now.list.items c.push_counts.new.steps.items = c.in_ok-push_counts.ensures in
    let added : AnswerAdded a.k (core_at o a.k) a.decided.answer a.decided.targets a.decided.classes c.push_counts.new.steps.items c.push_answer.new.steps.items =
    subst (λ z. AnswerAdded a.k z a.decided.answer a.decided.targets a.decided.classes c.push_counts.new.steps.items c.push_answer.new.steps.items) (sym is)
    (c.in_ok-push_answer.ensures (parts_in o)) in
    AreRecordedTo-more reduces a.system.now c.signature-lawful.ensures.lawful cap o a.k a._kept.now next a.decided found a.self.now.list.items
    c.push_counts.new.steps.items c.push_answer.new.steps.items c.requires.before pushed added
