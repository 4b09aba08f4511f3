use Rattle.std.proofs.Common.{rules, ◌+◌, ◌≤◌, length, sym, ◌∙◌, arith}
use Rattle.std.specs.Prelude.{get_or}
use Rattle.std.proofs.lemmas.List.{with_items_is, places}
use Rattle.std.proofs.lemmas.Bool.Decides.{nat_tests}
use Rattle.fort_cert_checker.specs.OutcomeView.{as_reason}
use Rattle.fort_cert_checker.proofs.StepCheckLaws.{map_ok, map_err, missing, are_read, not_due, is_due, fails, given_steps, loop_given, due_given, failing_given, ready_after, loop_after}
use Rattle.fort_cert_checker.proofs.step_checker.StepChecker.check_due.Goals as goal

pub returns-in_default-clause-failing : goal.returns-in_default-clause-failing
returns-in_default-clause-failing c =
    let test = c.in_default.ensures.lookup.0 in
    let l : length c.args.self.now.steps.now ≤ c.args.place = grind (arith, nat_tests) in
    rw c.failed.ensures
    (λ system f first ss made at. missing system f first ss c.args.self.now at.checker c.args.place made at.loop c.requires.due.6
    l)

pub returns-then-not-is_about-clause-failing : goal.returns-then-not-is_about-clause-failing
returns-then-not-is_about-clause-failing c =
    rw c.failed-then-not-is_about.ensures
    (λ system f first ss made at. not_due system f first ss c.args.self.now at.checker c.args.place made at.loop c.requires.due.6
    c.index.result.now c.in-Some.step.now (are_read c.args.self.now c.args.place c.index.result.now c.in-Some.step.now c.in-Some.ensures.lookup.0 c.in-Some.ensures.lookup.1 c.requires.due.6 c.index.ensures)
    (sym c.is_about.ensures ∙ c.if-not-is_about.true))

pub check_step-requires : goal.check_step-requires
check_step-requires c =
    let a = c.args.self.now in
    let read = (are_read c.args.self.now c.args.place c.index.result.now c.in-Some.step.now c.in-Some.ensures.lookup.0 c.in-Some.ensures.lookup.1 c.requires.due.6 c.index.ensures) in
    let own = sym c.is_about.ensures ∙ c.if-not-is_about.false in
    let system = c.requires.due.0 in
    let f = c.requires.due.1 in
    let first = c.requires.due.2 in
    let ss = c.requires.due.3 in
    let made = c.requires.due.4 in
    let at = c.requires.due.5 in
    record {
      due = (
        at.checker.parts,
        f,
        ss,
        made,
        (
          given_steps system f first ss a at.checker,
          (loop_given system f first ss a at.checker c.deref.result.now c.deref.ensures.value c.deref_mut.result.now c.deref_mut-2.result.now c.deref_mut-3.result.now
              c.args.place made c.deref_mut.ensures.value c.deref_mut-2.ensures.value c.deref_mut-3.ensures.value at.loop),
          (due_given system f first ss a at.checker c.deref.result.now c.deref.ensures.value c.args.place (is_due system f first ss a at.checker c.args.place made at.loop c.requires.due.6 c.index.result.now c.in-Some.step.now read own)),
        ),
      );
    }

pub returns-clause-fine : goal.returns-clause-fine
returns-clause-fine c =
    let a = c.args.self.now in
    let read = (are_read c.args.self.now c.args.place c.index.result.now c.in-Some.step.now c.in-Some.ensures.lookup.0 c.in-Some.ensures.lookup.1 c.requires.due.6 c.index.ensures) in
    let own = sym c.is_about.ensures ∙ c.if-not-is_about.false in
    let closures_in = with_items_is c.args.self.now.closures c.check_step.new.closures (search (rules, places)) in
    let rooms_in = with_items_is c.args.self.now.rooms c.check_step.new.rooms (search (rules, places)) in
    let marks_in = with_items_is c.args.self.now.marks c.check_step.new.marks (search (rules, places)) in
    map_ok c.check_step.result
    (λ own_next system f first ss made at.
    let next = own_next at.checker.parts f ss made (given_steps system f first ss a at.checker)
    (loop_given system f first ss a at.checker c.deref.result.now c.deref.ensures.value c.deref_mut.result.now c.deref_mut-2.result.now c.deref_mut-3.result.now
    c.args.place made c.deref_mut.ensures.value c.deref_mut-2.ensures.value c.deref_mut-3.ensures.value at.loop)
    (due_given system f first ss a at.checker c.deref.result.now c.deref.ensures.value c.args.place (is_due system f first ss a at.checker c.args.place made at.loop c.requires.due.6 c.index.result.now c.in-Some.step.now read own)) in
    (next.0, loop_after system f first ss a at.checker c.deref.result.now c.deref.ensures.value c.check_step.new.closures c.check_step.new.rooms c.check_step.new.scratch c.check_step.new.marks closures_in rooms_in marks_in (c.args.place + 1) next.0 next.1))
    c.check_step.ensures.fine

pub returns-clause-failing : goal.returns-clause-failing
returns-clause-failing c =
    let a = c.args.self.now in
    let read = (are_read c.args.self.now c.args.place c.index.result.now c.in-Some.step.now c.in-Some.ensures.lookup.0 c.in-Some.ensures.lookup.1 c.requires.due.6 c.index.ensures) in
    let own = sym c.is_about.ensures ∙ c.if-not-is_about.false in
    map_err c.check_step.result
    (λ e own_failing system f first ss made at.
    fails system f first ss a at.checker c.args.place made at.loop c.requires.due.6 c.index.result.now c.in-Some.step.now read own e.place (as_reason e.reason)
    (λ t. failing_given system f first ss a at.checker c.deref.result.now c.deref.ensures.value made (get_or ss c.args.place t) e.place (as_reason e.reason)
    (own_failing at.checker.parts f ss made (given_steps system f first ss a at.checker)
    (loop_given system f first ss a at.checker c.deref.result.now c.deref.ensures.value c.deref_mut.result.now c.deref_mut-2.result.now c.deref_mut-3.result.now
    c.args.place made c.deref_mut.ensures.value c.deref_mut-2.ensures.value c.deref_mut-3.ensures.value at.loop)
    (due_given system f first ss a at.checker c.deref.result.now c.deref.ensures.value c.args.place (is_due system f first ss a at.checker c.args.place made at.loop c.requires.due.6 c.index.result.now c.in-Some.step.now read own)) t)))
    c.check_step.ensures.failing

pub returns-clause-same : goal.returns-clause-same
returns-clause-same c = λ system f first ss made at.
    let a = c.args.self.now in
    let read = (are_read c.args.self.now c.args.place c.index.result.now c.in-Some.step.now c.in-Some.ensures.lookup.0 c.in-Some.ensures.lookup.1 c.requires.due.6 c.index.ensures) in
    let own = sym c.is_about.ensures ∙ c.if-not-is_about.false in
    let closures_in = with_items_is c.args.self.now.closures c.check_step.new.closures (search (rules, places)) in
    let rooms_in = with_items_is c.args.self.now.rooms c.check_step.new.rooms (search (rules, places)) in
    let marks_in = with_items_is c.args.self.now.marks c.check_step.new.marks (search (rules, places)) in
    ready_after system f first ss a at.checker c.deref.result.now c.deref.ensures.value c.check_step.new.closures c.check_step.new.rooms c.check_step.new.scratch c.check_step.new.marks closures_in rooms_in marks_in
    (c.check_step.ensures.ready at.checker.parts f ss made (given_steps system f first ss a at.checker)
    (loop_given system f first ss a at.checker c.deref.result.now c.deref.ensures.value c.deref_mut.result.now c.deref_mut-2.result.now c.deref_mut-3.result.now
    c.args.place made c.deref_mut.ensures.value c.deref_mut-2.ensures.value c.deref_mut-3.ensures.value at.loop)
    (due_given system f first ss a at.checker c.deref.result.now c.deref.ensures.value c.args.place (is_due system f first ss a at.checker c.args.place made at.loop c.requires.due.6 c.index.result.now c.in-Some.step.now read own)))
