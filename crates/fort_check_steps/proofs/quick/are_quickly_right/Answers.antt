use Rattle.std.proofs.Common.{◌≡◌, ◌≤◌, length, ap, ◌∙◌, arith}
use Rattle.std.proofs.lemmas.List.{length-map}
use Rattle.fort_tables.specs.Labels.{first_word}
use Rattle.fort_check_steps.specs.Room.{most_states}
use Rattle.fort_check_steps.proofs.GuessLaws.{guessed_most}
use Rattle.fort_check_steps.proofs.HeldTargetLaws.{guess_right}
use Rattle.fort_check_steps.proofs.RoomLaws.{lay_fewer}
use Rattle.fort_check_steps.proofs.quick.are_quickly_right.Goals as goal

pub are_held-requires-clause-few_states : goal.are_held-requires-clause-few_states
are_held-requires-clause-few_states g c =
    let ws = c.make_states.new.rows.labels in
    let made = c.make_states.ensures.guessed c.if-not-make_states.false in
    let most : length ws ≤ most_states c.args.targets.now = guessed_most (g.R.LocalRule.rule c.args.rule.now) c.args.targets.now made.0 made.1 ws made.2 made.3 in
    let same : length c.as_slice.result.now ≡ length ws = ap length c.as_slice.ensures.value ∙ (ap length (c.make_states.ensures.presences c.if-not-make_states.false) ∙ length-map ws first_word) in
    omega (arith, most, same, c.requires.few)

pub are_held-requires-clause-room : goal.are_held-requires-clause-room
are_held-requires-clause-room g c =
    let ws = c.make_states.new.rows.labels in
    let made = c.make_states.ensures.guessed c.if-not-make_states.false in
    let most : length ws ≤ most_states c.args.targets.now = guessed_most (g.R.LocalRule.rule c.args.rule.now) c.args.targets.now made.0 made.1 ws made.2 made.3 in
    let same : length c.as_slice.result.now ≡ length ws = ap length c.as_slice.ensures.value ∙ (ap length (c.make_states.ensures.presences c.if-not-make_states.false) ∙ length-map ws first_word) in
    lay_fewer c.requires.lay (omega (arith, most, same))

pub returns-clause-right : goal.returns-clause-right
returns-clause-right g c =
    let r = g.R.LocalRule.rule c.args.rule.now in
    let qs = c.args.targets.now in
    let ws = c.make_states.new.rows.labels in
    let is_made = c.if-not-make_states.false in
    let made = c.make_states.ensures.guessed is_made in
    λ yes. record {
      right = guess_right r qs made.0 made.1 ws made.2 c.make_states.ensures.lawful made.3 (c.are_held.ensures.held yes);
      few = guessed_most r qs made.0 made.1 ws made.2 made.3;
      are_labels = c.make_states.ensures.labels is_made;
      presences_are = c.make_states.ensures.presences is_made;
    }
