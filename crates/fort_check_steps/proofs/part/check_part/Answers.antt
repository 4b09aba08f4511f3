use Rattle.std.proofs.Common.{false, arith}
use Rattle.fort_certificate_theory.proofs.PartOutcomes.{outcome_one}
use Rattle.fort_check_steps.specs.declared.room.PartRoom.{PartRoom}
use Rattle.fort_check_steps.proofs.TableLaws.{right_held, right_table}
use Rattle.fort_check_steps.proofs.part.check_part.Goals as goal

pub returns-in-Ok-clause-held : goal.returns-in-Ok-clause-held
returns-in-Ok-clause-held g c =
    let r = g.R.LocalRule.rule c.args.rule.now in
    let labels = c.hold_targets.new.rows.labels in
    let room : PartRoom = record { presences = c.hold_targets.new.presences; finals = c.put_finals.new.finals; merged = c.args.room.now.merged; is_merged = false } in
    record {
      labels = labels;
      lawful = c.in-Ok.ensures.lawful;
      right = right_held r c.args.targets.now room labels c.in-Ok.ensures.right.right c.in-Ok.ensures.right.presences_are;
      presences = c.in-Ok.ensures.right.presences_are;
      finals = c.put_finals.ensures.finals;
    }

pub returns-in-Ok-clause-only : goal.returns-in-Ok-clause-only
returns-in-Ok-clause-only g c o h = outcome_one (g.R.LocalRule.rule c.args.rule.now) c.args.targets.now o _ h c.in-Ok.ensures.outcome

pub returns-in-Err-clause-only : goal.returns-in-Err-clause-only
returns-in-Err-clause-only g c o h = outcome_one (g.R.LocalRule.rule c.args.rule.now) c.args.targets.now o _ h c.in-Err.ensures.outcome

pub returns-in-Ok-clause-table : goal.returns-in-Ok-clause-table
returns-in-Ok-clause-table g c =
    let r = g.R.LocalRule.rule c.args.rule.now in
    let targets = c.args.targets.now in
    let labels = c.hold_targets.new.rows.labels in
    let room : PartRoom = record { presences = c.hold_targets.new.presences; finals = c.put_finals.new.finals; merged = c.args.room.now.merged; is_merged = false } in
    right_table r (g.R.LocalRule.accepting c.args.rule.now) targets room labels c.in-Ok.ensures.lawful (right_held r targets room labels c.in-Ok.ensures.right.right c.in-Ok.ensures.right.presences_are) c.in-Ok.ensures.right.presences_are c.put_finals.ensures.finals

pub returns-in-Ok-clause-room : goal.returns-in-Ok-clause-room
returns-in-Ok-clause-room g c = record {
  finals = omega (arith, c.requires.room.finals, c.put_finals.ensures.capacity);
  presences = omega (arith, c.requires.room.presences, c.in-Ok.ensures.left.capacity);
}
