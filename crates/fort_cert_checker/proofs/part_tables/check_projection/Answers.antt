use Rattle.std.proofs.Common.{◌≡◌, ◌<◌, ◌≤◌, ℕ, length, vec_capacity, ◌+◌, sym, ap, ◌∙◌, subst, arith}
use Rattle.fort_tables.specs.BitRows.{words_for}
use Rattle.fort_tables.specs.Tables.{Table}
use Rattle.fort_certificate_theory.specs.PartRules.{project_local}
use Rattle.fort_check_steps.specs.Room.{HasLabelRoom}
use Rattle.fort_cert_checker.specs.Pasts.{IsPartStep}
use Rattle.fort_cert_checker.proofs.part_tables.check_projection.Goals as goal

pub put_pure-requires-clause-column : goal.put_pure-requires-clause-column
put_pure-requires-clause-column c =
    let b = c.requires.body in
    subst (λ (t : Table). c.args.column < t.columns) (sym (c.table-body.ensures.is b.0 b.1)) b.3

pub put_pure-requires-clause-spare : goal.put_pure-requires-clause-spare
put_pure-requires-clause-spare c =
    let b = c.requires.body in
    subst (λ (t : Table). length t.presences ≤ vec_capacity c.clear.new.self) (sym (c.table-body.ensures.is b.0 b.1)) (omega (arith, b.6.pure, c.clear.ensures.capacity))

pub hold_projection-requires-clause-column : goal.hold_projection-requires-clause-column
hold_projection-requires-clause-column c =
    let b = c.requires.body in
    subst (λ (t : Table). c.args.column < t.columns) (sym (c.table-body.ensures.is b.0 b.1)) b.3

pub hold_projection-requires-clause-another : goal.hold_projection-requires-clause-another
hold_projection-requires-clause-another c =
    let b = c.requires.body in
    subst (λ (t : Table). 1 < t.columns) (sym (c.table-body.ensures.is b.0 b.1)) b.4

pub hold_projection-requires-clause-signature : goal.hold_projection-requires-clause-signature
hold_projection-requires-clause-signature c =
    let b = c.requires.body in
    ap (λ (t : Table). t.signature) (c.table-body.ensures.is b.0 b.1) ∙ b.2

pub hold_projection-requires-clause-list : goal.hold_projection-requires-clause-list
hold_projection-requires-clause-list c =
    let b = c.requires.body in
    c.table-body.ensures.room b.0 b.1 c.args.scratch.now.lists.first c.args.scratch.now.lists.lay c.requires.list

pub hold_projection-requires-clause-scratch : goal.hold_projection-requires-clause-scratch
hold_projection-requires-clause-scratch c =
    let b = c.requires.body in
    subst (λ (t : Table). HasLabelRoom (words_for (length t.presences) + 2) c.args.targets.now c.args.scratch.now) (sym (c.table-body.ensures.is b.0 b.1)) b.5

pub returns-clause-step : goal.returns-clause-step
returns-clause-step c table at =
    subst (λ (t : Table). IsPartStep (project_local t c.args.column) c.args.targets.now c.hold_projection.new.room c.hold_projection.result)
    (c.table-body.ensures.is table at) c.hold_projection.ensures.step
