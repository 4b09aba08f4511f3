use Rattle.std.proofs.Common.{◌≡◌, ◌<◌, length, get_or, sym, ap, ◌∙◌, arith}
use Rattle.fort_tables.proofs.EqualTests.{equal_from_test}
use Rattle.fort_entry_walk.specs.WalkPlaces.{place}
use Rattle.fort_entry_walk.proofs.RaiseLaws.{no_items, alone_without, alone_with}
use Rattle.fort_entry_walk.proofs.walk.Walk.is_alone.Goals as goal

pub returns-in-empty : goal.returns-in-empty
returns-in-empty c = λ h.
    let none = no_items c.args.self.now.wanted (omega (arith, ap length c.states-2.ensures.states)) in
    alone_without c.args.presences.now (place c.args.self.now) c.requires none (equal_from_test c.args.self.now.stage 0 h)

pub returns-then-self-gt0 : goal.returns-then-self-gt0
returns-then-self-gt0 c = λ h.
    let few : length c.args.self.now.kids < 2 = omega (arith, ap length c.states.ensures.states) in
    let one : length c.args.self.now.wanted ≡ 1 = omega (arith, ap length c.states-2.ensures.states) in
    let want = equal_from_test c.from.result (get_or c.states-2.result.now 0 0) h in
    alone_with c.args.presences.now (place c.args.self.now) c.requires few (omega arith) one (omega arith)
    (sym c.from.ensures ∙ (want ∙ ap (λ ws. get_or ws 0 0) c.states-2.ensures.states))
