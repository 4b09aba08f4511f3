use Rattle.std.proofs.Common.{length, refl, sym, ◌∙◌, subst, arith}
use Rattle.fort_tuple_symbols.proofs.Bounds.{bound-up_to}
use Rattle.fort_classes.specs.Keys.{Keys, leaders_by}
use Rattle.fort_entry_walk.specs.WalkPlaces.{place, IsPlace}
use Rattle.fort_leading_walk.specs.LeadingPlaces.{leading_place, StandsAt}
use Rattle.fort_leading_walk.specs.LeadingFacts.{later_leading, IsStepAmong}
use Rattle.fort_leading_walk.specs.declared.leading.LeadingWalk.{LeadingWalk}
use Rattle.fort_leading_walk.proofs.NextLeading.{next_leading}
use Rattle.fort_leading_walk.proofs.WalkSteps.{stepped_symbol, stepped_stands, leading_step}
use Rattle.fort_leading_walk.proofs.leading.LeadingWalk.advance_row.Goals as goal

pub returns-then-advance_choice-clause-stands : goal.returns-then-advance_choice-clause-stands
returns-then-advance_choice-clause-stands g c = λ _.
    let first = c.if-advance_choice.ensures.next refl c.args.sig.now (leaders_by (g.L.SymbolLeaders.keys c.args.leaders.now) c.args.rows.now.labels) c.args.presences.now c.requires.stands in
    first.stands

pub returns-then-advance_choice-clause-next : goal.returns-then-advance_choice-clause-next
returns-then-advance_choice-clause-next g c =
    let lead = leaders_by (g.L.SymbolLeaders.keys c.args.leaders.now) c.args.rows.now.labels in
    let st = c.requires.stands in
    let first = c.if-advance_choice.ensures.next refl c.args.sig.now lead c.args.presences.now st in
    next_leading c.args.sig.now c.args.presences.now lead (leading_place c.args.self.now) (leading_place c.advance_choice.new.self) st.is_place first.stands.is_place st.within first.stands.within first.first

pub put-requires-clause-small : goal.put-requires-clause-small
put-requires-clause-small g c =
    let sig = c.args.sig.now in
    let lead = leaders_by (g.L.SymbolLeaders.keys c.args.leaders.now) c.args.rows.now.labels in
    let old = c.advance_choice.new.self in
    let new = c.advance_symbol.new.self in
    let among = later_leading sig c.args.presences.now lead old.walk.stage old.walk.digits in
    let here : IsPlace sig (place old.walk) = subst (λ (w : LeadingWalk). IsPlace sig (place w.walk)) (sym (c.if-advance_choice.ensures.stays refl)) c.requires.stands.symbol in
    let there : IsPlace sig (place new.walk) = stepped_symbol sig lead c.args.presences.now (g.L.LeaderLists.lists c.advance_symbol.new.leaders) among old new c.in_ok-is_next.is_next here c.in_ok-is_next.ensures.next c.in_ok-is_next.ensures.stays in
    rw c.digits.ensures.digits (bound-up_to 65536 (length sig) new.walk.digits (omega (arith, c.len-symbols.ensures.lawful.few)) there.digits)

pub returns-clause-stands : goal.returns-clause-stands
returns-clause-stands g c = λ went.
    let sig = c.args.sig.now in
    let ps = c.args.presences.now in
    let labels = c.args.rows.now.labels in
    let lead = leaders_by (g.L.SymbolLeaders.keys c.args.leaders.now) labels in
    let lists = g.L.LeaderLists.lists c.advance_symbol.new.leaders in
    let old = c.advance_choice.new.self in
    let among = later_leading sig ps lead old.walk.stage old.walk.digits in
    let F : Keys → Type 0 = λ k. StandsAt sig (leaders_by k labels) ps lists c.advance_symbol.new.self in
    subst F (sym c.in_ok-is_next.ensures.asked) (stepped_stands sig lead ps lists among c.advance_symbol.new.self c.in_ok-is_next.is_next c.in_ok-is_next.ensures.next went)

pub returns-clause-next : goal.returns-clause-next
returns-clause-next g c =
    let sig = c.args.sig.now in
    let ps = c.args.presences.now in
    let lead = leaders_by (g.L.SymbolLeaders.keys c.args.leaders.now) c.args.rows.now.labels in
    let lists = g.L.LeaderLists.lists c.args.leaders.now in
    let others = g.L.LeaderLists.lists c.advance_symbol.new.leaders in
    let new = c.advance_symbol.new.self in
    let went = c.in_ok-is_next.is_next in
    let same = c.if-advance_choice.ensures.stays refl in
    let none = c.if-advance_choice.ensures.none refl sig lead ps c.requires.stands in
    let step = subst (λ (w : LeadingWalk). IsStepAmong sig lead ps others (later_leading sig ps lead w.walk.stage w.walk.digits) new went) same c.in_ok-is_next.ensures.next in
    leading_step sig lead ps lists others c.args.self.now new went c.requires.stands none step (λ left. c.in_ok-is_next.ensures.stays left ∙ same)
