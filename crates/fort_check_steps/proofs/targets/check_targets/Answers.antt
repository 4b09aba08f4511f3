use Rattle.std.proofs.Common.{◌≡◌, ℕ, ◌++◌, ◌∷◌, [], map, length, ap, refl, subst, sym, ◌∙◌, arith}
use Rattle.fort_tables.specs.Entries.{Entry}
use Rattle.fort_tables.specs.Labels.{first_word}
use Rattle.fort_tables.specs.LabelRules.{IsLabelRule}
use Rattle.fort_tables.specs.Laid.{all_entries}
use Rattle.fort_certificate_theory.specs.Outcomes.{StepOutcome}
use Rattle.fort_certificate_theory.specs.PartSteps.{IsPartOutcome, IsRightPart, IsRight}
use Rattle.fort_check_steps.specs.StepAnswers.{outcome_of}
use Rattle.fort_certificate_theory.proofs.EntryWalks.{IsNextOf}
use Rattle.fort_check_steps.proofs.TargetLaws.{IsAfter, after_none, next_of, last_of, new_state_room, refused, too_many, too_few, right_all, taken, few_states, few_presences, right_states, label_rule}
use Rattle.fort_check_steps.proofs.RoomLaws.{as_spacious}
use Rattle.fort_check_steps.proofs.targets.check_targets.Goals as goal

pub targets-init : goal.targets-init
targets-init g c = record {
  after = ([], after_none (g.R.LocalRule.rule c.args.rule.now) c.args.targets.now c.args.rows.now.labels c.args.presences.now.items c.new-entries.result.last c.columns.result c.requires.ready.no_rows c.requires.ready.no_presences c.columns.ensures.count c.new-entries.ensures.start);
  signature = c.new-entries.ensures.signature;
  columns = c.new-entries.ensures.columns ∙ c.columns.ensures.count;
  width = c.requires.ready.width;
  words = c.requires.words;
  room = refl;
  spaces = record { narrow = omega arith; wide = omega arith; most = omega arith; widest = omega arith };
  spare = omega arith;
}

pub advance-requires : goal.advance-requires
advance-requires g c =
    let r = g.R.LocalRule.rule c.args.rule.now in
    let qs = c.args.targets.now in
    let k = c.targets.place in
    let es = c.targets.invariant.after.0 in
    let ws = c.targets.rows.labels in
    let ps = c.targets.presences.items in
    let last = c.targets.entries.last in
    let inv = c.targets.invariant in
    omega (arith, few_presences r qs k es ws ps last inv.after.1 c.requires.few, ap length c.as_slice.ensures.value)

pub returns-then-not-advance-clause-outcome : goal.returns-then-not-advance-clause-outcome
returns-then-not-advance-clause-outcome g c =
    let r = g.R.LocalRule.rule c.args.rule.now in
    let qs = c.args.targets.now in
    let k = c.targets.place in
    let es = c.targets.invariant.after.0 in
    let ws = c.targets.rows.labels in
    let ps = c.targets.presences.items in
    let last = c.targets.entries.last in
    let inv = c.targets.invariant in
    let none = last_of r ws last c.targets.entries.signature c.targets.entries.columns c.as_slice.result.now (inv.signature ∙ sym c.requires.signature) inv.columns (c.as_slice.ensures.value ∙ inv.after.1.presences) (c.advance.ensures.none c.if-not-advance.true) in
    subst (λ (o : StepOutcome). IsPartOutcome r qs o) (sym (ap outcome_of c.failed.ensures)) (too_many r qs k es ws last inv.after.1.walked none c.targets-test.true)

pub take_target-requires-clause-room : goal.take_target-requires-clause-room
take_target-requires-clause-room g c =
    let r = g.R.LocalRule.rule c.args.rule.now in
    let qs = c.args.targets.now in
    let k = c.targets.place in
    let es = c.targets.invariant.after.0 in
    let ws = c.targets.rows.labels in
    let ps = c.targets.presences.items in
    let last = c.targets.entries.last in
    let inv = c.targets.invariant in
    λ e. omega (arith, new_state_room r qs k es ws last inv.after.1.walked c.targets-test.true e, inv.room, c.requires.ready.room)

pub take_target-requires-clause-spare : goal.take_target-requires-clause-spare
take_target-requires-clause-spare g c =
    let r = g.R.LocalRule.rule c.args.rule.now in
    let qs = c.args.targets.now in
    let k = c.targets.place in
    let es = c.targets.invariant.after.0 in
    let ws = c.targets.rows.labels in
    let ps = c.targets.presences.items in
    let last = c.targets.entries.last in
    let inv = c.targets.invariant in
    λ e. omega (arith, new_state_room r qs k es ws last inv.after.1.walked c.targets-test.true e, few_states r qs k es ws ps last inv.after.1, ap length c.as_slice.ensures.value, c.as_slice.ensures.len, inv.spare, c.requires.ready.spare)

pub returns-in-Err-clause-outcome : goal.returns-in-Err-clause-outcome
returns-in-Err-clause-outcome g c =
    let r = g.R.LocalRule.rule c.args.rule.now in
    let qs = c.args.targets.now in
    let k = c.targets.place in
    let es = c.targets.invariant.after.0 in
    let ws = c.targets.rows.labels in
    let ps = c.targets.presences.items in
    let last = c.targets.entries.last in
    let inv = c.targets.invariant in
    let next = subst (λ (e : Entry). IsNextOf r ws last e) (sym c.row.ensures) (next_of r ws last c.advance.new.self.last c.targets.entries.signature c.targets.entries.columns c.as_slice.result.now (inv.signature ∙ sym c.requires.signature) inv.columns (c.as_slice.ensures.value ∙ inv.after.1.presences) (c.advance.ensures.next c.if-not-advance.false)) in
    subst (λ (o : StepOutcome). IsPartOutcome r qs o) (sym (ap outcome_of c.failed-in-Err.ensures)) (refused r qs k es ws last c.row.result.now c.in-Err.reason inv.after.1.walked next c.targets-test.true c.in-Err.ensures.refused)

pub targets-preserved : goal.targets-preserved
targets-preserved g c =
    let r = g.R.LocalRule.rule c.args.rule.now in
    let qs = c.args.targets.now in
    let k = c.targets.place in
    let es = c.targets.invariant.after.0 in
    let ws = c.targets.rows.labels in
    let ps = c.targets.presences.items in
    let last = c.targets.entries.last in
    let inv = c.targets.invariant in
    let law : IsLabelRule (g.R.LocalRule.rule c.args.rule.now) = label_rule (g.R.LocalRule.rule c.args.rule.now) c.columns.result c.columns.ensures.count c.columns.ensures.some c.columns.ensures.narrow (g.met.R.LocalRule.tells c.args.rule.now) in
    let next = subst (λ (e : Entry). IsNextOf r ws last e) (sym c.row.ensures) (next_of r ws last c.advance.new.self.last c.targets.entries.signature c.targets.entries.columns c.as_slice.result.now (inv.signature ∙ sym c.requires.signature) inv.columns (c.as_slice.ensures.value ∙ inv.after.1.presences) (c.advance.ensures.next c.if-not-advance.false)) in
    record {
      after = (es ++ c.row.result.now ∷ [], taken r qs k es ws c.take_target.new.rows.labels ps c.take_target.new.presences.items last c.row.result.now c.advance.new.self.last law inv.after.1 next c.targets-test.true c.in-Ok.ensures.taken (sym c.row.ensures));
      signature = c.advance.ensures.signature ∙ inv.signature;
      columns = c.advance.ensures.columns ∙ inv.columns;
      width = c.in-Ok.ensures.width ∙ inv.width;
      words = c.take_target.auto.out ∙ inv.words;
      room = c.in-Ok.ensures.room ∙ inv.room;
      spaces = as_spacious c.in-Ok.ensures.spaces inv.spaces;
      spare = omega (arith, c.in-Ok.ensures.capacity, inv.spare);
    }

pub advance-requires-2 : goal.advance-requires-2
advance-requires-2 g c =
    let r = g.R.LocalRule.rule c.args.rule.now in
    let qs = c.args.targets.now in
    let k = c.targets.place in
    let es = c.targets.invariant.after.0 in
    let ws = c.targets.rows.labels in
    let ps = c.targets.presences.items in
    let last = c.targets.entries.last in
    let inv = c.targets.invariant in
    omega (arith, few_presences r qs k es ws ps last inv.after.1 c.requires.few, ap length c.as_slice-2.ensures.value)

pub returns-then-advance-clause-outcome : goal.returns-then-advance-clause-outcome
returns-then-advance-clause-outcome g c =
    let r = g.R.LocalRule.rule c.args.rule.now in
    let qs = c.args.targets.now in
    let k = c.targets.place in
    let es = c.targets.invariant.after.0 in
    let ws = c.targets.rows.labels in
    let ps = c.targets.presences.items in
    let last = c.targets.entries.last in
    let inv = c.targets.invariant in
    let whole : k ≡ length qs = omega arith in
    let after : IsAfter r qs (length qs) es ws ps last = subst (λ (i : ℕ). IsAfter r qs i es ws ps last) whole inv.after.1 in
    let next = next_of r ws last c.advance-2.new.self.last c.targets.entries.signature c.targets.entries.columns c.as_slice-2.result.now (inv.signature ∙ sym c.requires.signature) inv.columns (c.as_slice-2.ensures.value ∙ inv.after.1.presences) (c.advance-2.ensures.next c.if-advance.true) in
    subst (λ (o : StepOutcome). IsPartOutcome r qs o) (sym (ap outcome_of c.failed-then-advance.ensures)) (too_few r qs es ws last c.advance-2.new.self.last after.walked next)

pub returns-clause-outcome : goal.returns-clause-outcome
returns-clause-outcome g c =
    let r = g.R.LocalRule.rule c.args.rule.now in
    let qs = c.args.targets.now in
    let k = c.targets.place in
    let es = c.targets.invariant.after.0 in
    let ws = c.targets.rows.labels in
    let ps = c.targets.presences.items in
    let last = c.targets.entries.last in
    let inv = c.targets.invariant in
    let whole : k ≡ length qs = omega arith in
    let after : IsAfter r qs (length qs) es ws ps last = subst (λ (i : ℕ). IsAfter r qs i es ws ps last) whole inv.after.1 in
    let none = last_of r ws last c.targets.entries.signature c.targets.entries.columns c.as_slice-2.result.now (inv.signature ∙ sym c.requires.signature) inv.columns (c.as_slice-2.ensures.value ∙ inv.after.1.presences) (c.advance-2.ensures.none c.if-advance.false) in
    let law : IsLabelRule r = label_rule r c.columns.result c.columns.ensures.count c.columns.ensures.some c.columns.ensures.narrow (g.met.R.LocalRule.tells c.args.rule.now) in
    IsRight (all_entries r.signature r.columns (map first_word ws)) ws (right_all r qs es ws last law after.walked none)

pub returns-clause-right : goal.returns-clause-right
returns-clause-right g c =
    let r = g.R.LocalRule.rule c.args.rule.now in
    let qs = c.args.targets.now in
    let k = c.targets.place in
    let es = c.targets.invariant.after.0 in
    let ws = c.targets.rows.labels in
    let ps = c.targets.presences.items in
    let last = c.targets.entries.last in
    let inv = c.targets.invariant in
    let whole : k ≡ length qs = omega arith in
    let after : IsAfter r qs (length qs) es ws ps last = subst (λ (i : ℕ). IsAfter r qs i es ws ps last) whole inv.after.1 in
    let none = last_of r ws last c.targets.entries.signature c.targets.entries.columns c.as_slice-2.result.now (inv.signature ∙ sym c.requires.signature) inv.columns (c.as_slice-2.ensures.value ∙ inv.after.1.presences) (c.advance-2.ensures.none c.if-advance.false) in
    let law : IsLabelRule r = label_rule r c.columns.result c.columns.ensures.count c.columns.ensures.some c.columns.ensures.narrow (g.met.R.LocalRule.tells c.args.rule.now) in
    let right : IsRightPart r qs (all_entries r.signature r.columns (map first_word ws)) ws = right_all r qs es ws last law after.walked none in
    record { right = right; few = right_states r qs (all_entries r.signature r.columns (map first_word ws)) ws right; are_labels = after.labels; presences_are = after.presences }
