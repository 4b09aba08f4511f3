use Rattle.std.proofs.Common.{arith, length, sym, ◌∙◌}
use Rattle.fort_entry_walk.specs.WalkPlaces.{place}
use Rattle.fort_tuple_symbols.proofs.Bounds.{bound-up_to}
use Rattle.fort_entry_walk.proofs.RaiseLaws.{raised_found}
use Rattle.fort_entry_walk.proofs.walk.Walk.raise_last.Goals as goal

pub raise_last-requires : goal.raise_last-requires
raise_last-requires c = bound-up_to 65536 (length c.args.sig.now) c.args.self.now.digits (omega (arith, c.len-symbols.ensures.lawful.few)) c.requires.place.digits

pub returns-in-Some-stage_first-clause-next : goal.returns-in-Some-stage_first-clause-next
returns-in-Some-stage_first-clause-next c = λ _.
    let old = sym c.digits-digits.ensures.digits ∙ c.in-Some.ensures.cases.0 in
    let constant = c.has_next_constant.ensures c.if-has_next_constant.true in
    let first = rw c.states.ensures.states at c.in-Some-stage_first.ensures.next in
    raised_found c.args.sig.now c.args.presences.now (place c.args.self.now) c.in-Some._others.now c.in-Some.digit.now c.raise_last.new.self c.in-Some-stage_first.kids
    c.requires.place c.requires.within old (c.raise_last.ensures c.in-Some._others.now c.in-Some.digit.now old) constant.0 constant.1 constant.2
    c.in-Some-stage_first.ensures.states c.in-Some-stage_first.ensures.stage_is first
