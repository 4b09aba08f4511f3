use Rattle.std.proofs.Common.{[], refl}
use Rattle.fort_logic.specs.Formulas.{Has}
use Rattle.fort_answers.specs.FormulaAnswer.{Closed}
use Rattle.fort_formulas.specs.CoreView.{as_core}
use Rattle.fort_formulas.specs.FormulaView.{as_property}
use Rattle.fort_run.specs.Posed.{IsPosed}
use Rattle.fort_run.proofs.Properties.{property_ready}
use Rattle.fort_run.proofs.SampleLines.{line_added}
use Rattle.fort_run.proofs.sample.push_property.Goals as goal

pub core_for-requires : goal.core_for-requires
core_for-requires c = property_ready (as_property c.args.property) c.args.system.now c.number-number.ensures.lawful.some

pub truth-requires : goal.truth-requires
truth-requires c = (
  Has (as_property c.args.property) 1,
  [],
  record {
    taken = refl;
    ready = property_ready (as_property c.args.property) c.args.system.now c.number-number.ensures.lawful.some;
    is = c.in_ok-core.ensures.is;
    keeps = c.in_ok-core.ensures.truth;
    decided = c.in_ok-core.ensures.decided;
  },
)

pub returns : goal.returns
returns c =
    let q = as_property c.args.property in
    let core = as_core c.in_ok-core.core in
    let posed : IsPosed Closed (Has q 1) c.args.system.now [] core = record {
      taken = refl;
      ready = property_ready q c.args.system.now c.number-number.ensures.lawful.some;
      is = c.in_ok-core.ensures.is;
      keeps = c.in_ok-core.ensures.truth;
      decided = c.in_ok-core.ensures.decided;
    } in
    line_added c.args.system.now q core c.in_ok-reply.reply c.args.text.now.items c.extend_from_slice.new.self.items c.push.new.self.items
    c.extend_from_slice-2.new.self.items c.property_word.result.now (c.in_ok-reply.ensures (Has q 1)) posed c.property_word.ensures
    c.in_ok-extend_from_slice.ensures.items c.in_ok-push.ensures.items (rw c.deref.ensures.value at c.in_ok-extend_from_slice-2.ensures.items)
