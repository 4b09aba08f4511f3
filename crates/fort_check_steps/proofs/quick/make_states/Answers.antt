use Rattle.std.proofs.Common.{◌<◌, ◌++◌, ◌∷◌, [], length, ap, refl, subst, sym, ◌∙◌, arith}
use Rattle.fort_tables.specs.Entries.{Entry}
use Rattle.fort_tables.specs.LabelRules.{IsLabelRule}
use Rattle.fort_certificate_theory.proofs.EntryWalks.{IsNextOf}
use Rattle.fort_check_steps.proofs.TargetLaws.{next_of, label_rule}
use Rattle.fort_check_steps.proofs.GuessLaws.{none_made, new_guess_room, made, made_states, made_few}
use Rattle.fort_check_steps.proofs.RoomLaws.{as_spacious}
use Rattle.fort_check_steps.proofs.quick.make_states.Goals as goal

pub targets-init : goal.targets-init
targets-init g c = record {
  after = ([], none_made (g.R.LocalRule.rule c.args.rule.now) c.args.targets.now c.args.rows.now.labels c.args.presences.now.items c.new-entries.result.last c.columns.result c.requires.ready.no_rows c.requires.ready.no_presences c.columns.ensures.count c.new-entries.ensures.start);
  signature = c.new-entries.ensures.signature;
  columns = c.new-entries.ensures.columns ∙ c.columns.ensures.count;
  width = c.requires.ready.width;
  words = c.requires.words;
  room = refl;
  spaces = record { narrow = omega arith; wide = omega arith; most = omega arith; widest = omega arith };
  spare = omega arith;
}

pub advance-requires : goal.advance-requires
advance-requires g c =
    let r = g.R.LocalRule.rule c.args.rule.now in
    let qs = c.args.targets.now in
    let k = c.targets.place in
    let es = c.targets.invariant.after.0 in
    let ws = c.targets.rows.labels in
    let ps = c.targets.presences.items in
    let last = c.targets.entries.last in
    let inv = c.targets.invariant in
    omega (arith, made_few r qs k es ws ps last inv.after.1 c.requires.few, ap length c.as_slice.ensures.value)

pub make_state-requires-clause-room : goal.make_state-requires-clause-room
make_state-requires-clause-room g c =
    let r = g.R.LocalRule.rule c.args.rule.now in
    let qs = c.args.targets.now in
    let k = c.targets.place in
    let es = c.targets.invariant.after.0 in
    let ws = c.targets.rows.labels in
    let last = c.targets.entries.last in
    let inv = c.targets.invariant in
    let low : k < length qs = omega (arith, c.targets-test.true, c.known_from-known.ensures) in
    λ e. omega (arith, new_guess_room r qs k es ws last inv.after.1.guessed low e, inv.room, c.requires.ready.room)

pub make_state-requires-clause-spare : goal.make_state-requires-clause-spare
make_state-requires-clause-spare g c =
    let r = g.R.LocalRule.rule c.args.rule.now in
    let qs = c.args.targets.now in
    let k = c.targets.place in
    let es = c.targets.invariant.after.0 in
    let ws = c.targets.rows.labels in
    let ps = c.targets.presences.items in
    let last = c.targets.entries.last in
    let inv = c.targets.invariant in
    let low : k < length qs = omega (arith, c.targets-test.true, c.known_from-known.ensures) in
    λ e. omega (arith, new_guess_room r qs k es ws last inv.after.1.guessed low e, made_states r qs k es ws ps last inv.after.1, ap length c.as_slice.ensures.value, c.as_slice.ensures.len, inv.spare, c.requires.ready.spare)

pub targets-preserved : goal.targets-preserved
targets-preserved g c =
    let r = g.R.LocalRule.rule c.args.rule.now in
    let qs = c.args.targets.now in
    let k = c.targets.place in
    let es = c.targets.invariant.after.0 in
    let ws = c.targets.rows.labels in
    let ps = c.targets.presences.items in
    let last = c.targets.entries.last in
    let inv = c.targets.invariant in
    let low : k < length qs = omega (arith, c.targets-test.true, c.known_from-known.ensures) in
    let law : IsLabelRule (g.R.LocalRule.rule c.args.rule.now) = label_rule (g.R.LocalRule.rule c.args.rule.now) c.columns.result c.columns.ensures.count c.columns.ensures.some c.columns.ensures.narrow (g.met.R.LocalRule.tells c.args.rule.now) in
    let next = subst (λ (e : Entry). IsNextOf r ws last e) (sym c.row.ensures) (next_of r ws last c.advance.new.self.last c.targets.entries.signature c.targets.entries.columns c.as_slice.result.now (inv.signature ∙ sym c.requires.signature) inv.columns (c.as_slice.ensures.value ∙ inv.after.1.presences) (c.advance.ensures.next c.if-not-advance.false)) in
    record {
      after = (es ++ c.row.result.now ∷ [], made r qs k es ws c.make_state.new.rows.labels ps c.make_state.new.presences.items last c.row.result.now c.advance.new.self.last law inv.after.1 next low (c.make_state.ensures.made c.if-not-make_state.false) (sym c.row.ensures));
      signature = c.advance.ensures.signature ∙ inv.signature;
      columns = c.advance.ensures.columns ∙ inv.columns;
      width = c.make_state.ensures.width ∙ inv.width;
      words = c.make_state.auto.out ∙ inv.words;
      room = c.make_state.ensures.room ∙ inv.room;
      spaces = as_spacious c.make_state.ensures.spaces inv.spaces;
      spare = omega (arith, c.make_state.ensures.capacity, inv.spare);
    }
