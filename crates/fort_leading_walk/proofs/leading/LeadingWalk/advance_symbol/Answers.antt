use Rattle.std.proofs.Common.{◌<◌, ◌≤◌, length, map, ap, sym, ◌∙◌, subst, arith}
use Rattle.fort_tables.specs.Labels.{first_word}
use Rattle.fort_tuple_symbols.proofs.Bounds.{bound-up_to}
use Rattle.fort_classes.specs.Keys.{leaders_by}
use Rattle.fort_entry_walk.specs.WalkPlaces.{AreArities, place}
use Rattle.fort_leading_walk.specs.LeadingPlaces.{leaders_at}
use Rattle.fort_leading_walk.proofs.WalkSteps.{chosen_walk, stage_found, may_turn_found, search_goes_on, choice_found, leads_first}
use Rattle.fort_leading_walk.proofs.leading.LeadingWalk.advance_symbol.Goals as goal

pub returns-then-walk-eq0-clause-known : goal.returns-then-walk-eq0-clause-known
returns-then-walk-eq0-clause-known g c = λ _.
    let i = c.symbols.invariant in
    let later = stage_found c.args.sig.now c.args.presences.now (place c.symbols.walk) (place c.to_next_symbol.new.self) i.searching.placed i.searching.within c.symbols-test.ensures.next in
    (i.known.0, i.known.1, omega (arith, i.known.2, later))

pub first_choice-requires-clause-small : goal.first_choice-requires-clause-small
first_choice-requires-clause-small g c = bound-up_to 65536 (length c.args.sig.now) c.to_next_symbol.new.self.digits (omega (arith, c.len-symbols.ensures.lawful.few)) c.symbols-test.ensures.place.digits

pub first_choice-requires-clause-known : goal.first_choice-requires-clause-known
first_choice-requires-clause-known g c =
    let i = c.symbols.invariant in
    let may = may_turn_found (g.L.SymbolLeaders.knows c.symbols.leaders) c.args.sig.now (leaders_by (g.L.SymbolLeaders.keys c.args.leaders.now) c.args.rows.now.labels) c.args.presences.now c.args.rows.now.labels i.known.0 c.args.self.now.walk c.symbols.walk c.to_next_symbol.new.self
    i.searching c.symbols-test.ensures.next i.known.1 i.known.2 in
    (c.args.sig.now, length c.args.self.now.walk.digits, i.known.0, may)

pub symbols-preserved : goal.symbols-preserved
symbols-preserved g c =
    let i = c.symbols.invariant in
    let sig = c.args.sig.now in
    let ps = c.args.presences.now in
    let labels = c.args.rows.now.labels in
    let lead = leaders_by (g.L.SymbolLeaders.keys c.args.leaders.now) labels in
    let found = c.symbols-test.ensures.next in
    let new = c.to_next_symbol.new.self in
    let after = c.in_ok-found.ensures in
    let may = may_turn_found (g.L.SymbolLeaders.knows c.symbols.leaders) sig lead ps labels i.known.0 c.args.self.now.walk c.symbols.walk new i.searching found i.known.1 i.known.2 in
    let same = after.turned ∙ (ap (λ k. leaders_at (leaders_by k labels) (map first_word labels) (place new)) i.asked ∙ ap (λ qs. leaders_at lead qs (place new)) (sym c.requires.presences)) in
    let arities : AreArities sig new.arities = subst (AreArities sig) (sym c.symbols-test.ensures.arities) i.searching.arities in
    let some : 0 < new.stage = omega arith in
    let none = rw c.in-None.is at after.first in
    record {
      same = i.same;
      searching = search_goes_on sig lead ps c.args.self.now.walk c.symbols.walk new (g.L.LeaderLists.lists c.first_choice.new.leaders) i.searching found arities some same none;
      asked = after.asked ∙ i.asked;
      width = after.width ∙ i.width;
      known = (new.stage, after.known sig (length c.args.self.now.walk.digits) i.known.0 may, omega arith);
    }

pub returns-in-Some-clause-known : goal.returns-in-Some-clause-known
returns-in-Some-clause-known g c = λ _.
    let i = c.symbols.invariant in
    let lead = leaders_by (g.L.SymbolLeaders.keys c.args.leaders.now) c.args.rows.now.labels in
    let may = may_turn_found (g.L.SymbolLeaders.knows c.symbols.leaders) c.args.sig.now lead c.args.presences.now c.args.rows.now.labels i.known.0 c.args.self.now.walk c.symbols.walk c.to_next_symbol.new.self i.searching c.symbols-test.ensures.next i.known.1 i.known.2 in
    (c.to_next_symbol.new.self.stage, c.in_ok-found.ensures.known c.args.sig.now (length c.args.self.now.walk.digits) i.known.0 may, omega arith)

pub returns-in-Some-clause-next : goal.returns-in-Some-clause-next
returns-in-Some-clause-next g c =
    let i = c.symbols.invariant in
    let sig = c.args.sig.now in
    let ps = c.args.presences.now in
    let labels = c.args.rows.now.labels in
    let lead = leaders_by (g.L.SymbolLeaders.keys c.args.leaders.now) labels in
    let lists = g.L.LeaderLists.lists c.first_choice.new.leaders in
    let new = c.to_next_symbol.new.self in
    let found = c.symbols-test.ensures.next in
    let same = c.in_ok-found.ensures.turned ∙ (ap (λ k. leaders_at (leaders_by k labels) (map first_word labels) (place new)) i.asked ∙ ap (λ qs. leaders_at lead qs (place new)) (sym c.requires.presences)) in
    let few : length new.digits ≤ 16 = omega (arith, c.symbols-test.ensures.width, i.searching.width, c.requires.stands.few) in
    let arities : AreArities sig new.arities = subst (AreArities sig) (sym c.symbols-test.ensures.arities) i.searching.arities in
    let some : 0 < new.stage = omega arith in
    let first = rw c.in-Some.is at c.in_ok-found.ensures.first in
    leads_first sig lead ps c.args.self.now.walk c.symbols.walk lists (chosen_walk new c.in-Some.choice) i.searching
    (choice_found sig lead ps c.symbols.walk.stage c.symbols.walk.digits lists new c.in-Some.choice few arities found some same first)
