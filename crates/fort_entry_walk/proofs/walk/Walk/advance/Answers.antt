use Rattle.std.proofs.Common.{arith, refl}
use Rattle.fort_entry_walk.specs.WalkPlaces.{place}
use Rattle.fort_entry_walk.proofs.StepLaws.{nothing_past, last_kids, symbol_step}
use Rattle.fort_entry_walk.proofs.walk.Walk.advance.Goals as goal

pub returns-then-self-presences-clause-next : goal.returns-then-self-presences-clause-next
returns-then-self-presences-clause-next c = (nothing_past c.args.sig.now c.args.presences.now (place c.args.self.now) c.requires.place (omega arith), refl)

pub returns-clause-next : goal.returns-clause-next
returns-clause-next c =
    let none = last_kids c.args.sig.now c.args.presences.now (place c.args.self.now) c.requires.place (c.requires.last (omega arith)) in
    symbol_step c.args.sig.now c.args.presences.now c.args.self.now c.to_next_symbol.new.self c.to_next_symbol.result c.requires.place (omega arith) none c.to_next_symbol.ensures.next c.to_next_symbol.ensures.stays
