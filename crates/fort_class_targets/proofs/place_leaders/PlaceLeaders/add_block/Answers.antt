use Rattle.std.proofs.Common.{◌≡◌, sym, ◌∙◌, subst, true, false, true≢false}
use Rattle.fort_tables.specs.Selections.{is_present}
use Rattle.fort_tables.proofs.SelectionLaws.{present_from_test, test_from_present}
use Rattle.fort_class_targets.specs.FilledBlocks.{leaders_of, IsFilled}
use Rattle.fort_class_targets.proofs.place_leaders.PlaceLeaders.add_block.Goals as goal

pub fill-requires-clause-told : goal.fill-requires-clause-told
fill-requires-clause-told c =
    let t = c.requires.told in
    let present : is_present c.args.symbol.now ≡ true = sym c.is_present.ensures ∙ c.if-is_present.true in
    (t.0, t.1, t.2, t.3 (present_from_test c.args.symbol.now present))

pub returns-then-is_present-clause-filled : goal.returns-then-is_present-clause-filled
returns-then-is_present-clause-filled c = λ columns es qs present mf.
    let own = c.args.self.now in
    subst (IsFilled es qs c.args.symbol.now (leaders_of own.views.now own.numbers.now) c.fill.new.blocks) c.len-block.ensures.count (c.fill.ensures.filled columns es qs mf)

pub returns-else-is_present-clause-filled : goal.returns-else-is_present-clause-filled
returns-else-is_present-clause-filled c = λ columns es qs present mf.
    let absent : is_present c.args.symbol.now ≡ false = sym c.is_present.ensures ∙ c.if-is_present.false in
    absurd (true≢false (sym (test_from_present c.args.symbol.now present) ∙ absent))
