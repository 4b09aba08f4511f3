use Rattle.std.proofs.Common.{◌≡◌, ◌<◌, length, ◌+◌, sym, ap, ◌∙◌, subst, ℕ, arith}
use Rattle.fort_tables.specs.BitRows.{words_for}
use Rattle.fort_tables.specs.Tables.{Table}
use Rattle.fort_certificate_theory.specs.PartRules.{project_local}
use Rattle.fort_check_steps.specs.Turned.{turned_table}
use Rattle.fort_check_steps.specs.Room.{HasLabelRoom}
use Rattle.fort_cert_checker.specs.Pasts.{IsPartStep}
use Rattle.fort_cert_checker.proofs.part_tables.hold_projection.Goals as goal

pub lay-requires-clause-list : goal.lay-requires-clause-list
lay-requires-clause-list c = c.requires.list.list_room

pub lay-requires-clause-room : goal.lay-requires-clause-room
lay-requires-clause-room c = c.requires.list.lay_room

pub check_part-requires-clause-signature : goal.check_part-requires-clause-signature
check_part-requires-clause-signature c = ap (λ (t : Table). t.signature) (ap turned_table c.new-rule.ensures.body) ∙ c.requires.signature

pub check_part-requires-clause-space : goal.check_part-requires-clause-space
check_part-requires-clause-space c =
    (subst (λ (t : Table). HasLabelRoom (words_for (length t.presences) + 2) c.args.targets.now c.args.scratch.now) (sym (ap turned_table c.new-rule.ensures.body)) c.requires.scratch).rows

pub check_part-requires-clause-out : goal.check_part-requires-clause-out
check_part-requires-clause-out c =
    (subst (λ (t : Table). HasLabelRoom (words_for (length t.presences) + 2) c.args.targets.now c.args.scratch.now) (sym (ap turned_table c.new-rule.ensures.body)) c.requires.scratch).out

pub check_part-requires-clause-lay : goal.check_part-requires-clause-lay
check_part-requires-clause-lay c = c.lay.ensures.room _ c.requires.scratch.lay

pub returns-clause-scratch : goal.returns-clause-scratch
returns-clause-scratch c = record {
  rows = c.check_part.ensures.space;
  out = c.check_part.ensures.out;
  lists = record { first = c.lay.ensures.list_room; second = λ n k h. h; lay = λ n h. c.check_part.ensures.lay n (c.lay.ensures.room n h) };
  leaders = omega arith;
}

pub returns-clause-step : goal.returns-clause-step
returns-clause-step c =
    subst (λ (n : ℕ). IsPartStep (project_local (turned_table c.args.body.now) n) c.args.targets.now c.check_part.new.room c.check_part.result)
    c.new-rule.ensures.column
    (subst (λ (t : Table). IsPartStep (project_local t c.new-rule.result.column) c.args.targets.now c.check_part.new.room c.check_part.result)
    (ap turned_table c.new-rule.ensures.body)
    (record { outcome = c.check_part.ensures.outcome; plain = c.check_part.ensures.not_merged; held = c.check_part.ensures.held }))
