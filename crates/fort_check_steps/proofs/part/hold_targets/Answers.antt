use Rattle.std.proofs.Common.{ℕ, map, sym, subst, ◌∙◌, arith, rules}
use Rattle.fort_tables.specs.Labels.{first_word}
use Rattle.fort_tables.specs.Laid.{all_entries}
use Rattle.fort_certificate_theory.specs.PartSteps.{IsRight}
use Rattle.fort_check_steps.specs.StateLabelsView.{HasSpace}
use Rattle.fort_check_steps.specs.Room.{most_states}
use Rattle.fort_check_steps.proofs.RoomLaws.{as_spacious, has_space}
use Rattle.fort_check_steps.proofs.part.hold_targets.Goals as goal

pub returns-then-are_quickly_right-clause-outcome : goal.returns-then-are_quickly_right-clause-outcome
returns-then-are_quickly_right-clause-outcome g c =
    let r = g.R.LocalRule.rule c.args.rule.now in
    let ws = c.are_quickly_right.new.rows.labels in
    IsRight (all_entries r.signature r.columns (map first_word ws)) ws (c.are_quickly_right.ensures.right c.if-are_quickly_right.true).right

pub check_targets-requires-clause-ready : goal.check_targets-requires-clause-ready
check_targets-requires-clause-ready g c =
    let most = most_states c.args.targets.now in
    let still : HasSpace (g.R.LocalRule.word_count c.args.rule.now) most c.are_quickly_right.new.rows.spaces =
    has_space c.requires.space (omega arith) (as_spacious c.are_quickly_right.ensures.left.spaces c.reset.ensures.spaces) in
    record {
      no_presences = search rules;
      no_rows = c.reset-2.ensures.labels;
      width = c.reset-2.ensures.width ∙ c.width-width.ensures.count;
      room = c.reset-2.ensures.room most (subst (λ (w : ℕ). HasSpace w most c.are_quickly_right.new.rows.spaces) (sym c.width-width.ensures.count) still);
      spare = omega (arith, c.requires.spare, c.are_quickly_right.ensures.left.capacity, c.clear.ensures.capacity, c.clear-2.ensures.capacity);
    }
