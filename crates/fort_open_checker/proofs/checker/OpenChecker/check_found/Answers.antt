use Rattle.std.proofs.Common.{map, refl, subst}
use Rattle.fort_steps.specs.StepView.{as_step}
use Rattle.fort_check_steps.specs.Turned.{turned_table}
use Rattle.fort_certificate_theory.specs.OpenCertificates.{Found}
use Rattle.fort_steps.specs.OpenView.{as_open}
use Rattle.fort_open_checker.specs.NodeStates.{AreNodesJudged}
use Rattle.fort_open_checker.specs.OpenOutcomeView.{as_outcome}
use Rattle.fort_open_checker.proofs.OpenLaws.{owned, at_own, own_forms, own_room, found_there, whole_kept, checker_kept}
use Rattle.fort_open_checker.proofs.checker.OpenChecker.check_found.Goals as goal

pub whole-table-requires : goal.whole-table-requires
whole-table-requires c = let r = c.requires in (r.0, r.1, r.2.first, r.2.steps, r.3, r.4.done, r.4.checker.columns)

pub lay-requires-clause-list : goal.lay-requires-clause-list
lay-requires-clause-list c = (c.whole-table.ensures.room c.args.self.now.whole.list c.args.self.now.whole.lay c.requires.4.checker.whole).list_room

pub lay-requires-clause-room : goal.lay-requires-clause-room
lay-requires-clause-room c = (c.whole-table.ensures.room c.args.self.now.whole.list c.args.self.now.whole.lay c.requires.4.checker.whole).lay_room

pub check_nodes-requires-clause-forms : goal.check_nodes-requires-clause-forms
check_nodes-requires-clause-forms c =
    let r = c.requires in
    own_forms r.0 r.1 c.args.self.now r.3 (owned r.0 r.1 r.2 c.args.self.now r.3 r.4)

pub check_nodes-requires-clause-room : goal.check_nodes-requires-clause-room
check_nodes-requires-clause-room c =
    let r = c.requires in
    own_room r.0 r.1 c.args.self.now r.3 (owned r.0 r.1 r.2 c.args.self.now r.3 r.4)

pub returns-clause-outcome : goal.returns-clause-outcome
returns-clause-outcome c = λ system f own made h found.
    let a = c.args.self.now in
    let open_is = as_open a.certificate.now in
    let judged = subst (λ t. AreNodesJudged (turned_table t) open_is (as_outcome c.check_nodes.result)) c.listed-table.ensures c.check_nodes.ensures.judged in
    at_own system f own a made Found _ h found (λ d claim.
    found_there system f a made d _ (c.whole-table.ensures.table system f a.certificate.now.first (map as_step a.certificate.now.steps.items) made d.done d.checker.columns) claim _ judged)

pub returns-clause-again : goal.returns-clause-again
returns-clause-again c = λ system f own h.
    let a = c.args.self.now in
    checker_kept system f own a _ refl h.steps (whole_kept a.steps a.whole.list _ a.whole.lay _ h.whole c.lay.ensures.list_room c.lay.ensures.room) c.check_nodes.ensures.room h
