use Rattle.std.proofs.Common.{arith, length, refl}
use Rattle.fort_tuple_symbols.proofs.Bounds.{bound-up_to}
use Rattle.fort_entry_walk.proofs.RaiseLaws.{raised_there, raised_next}
use Rattle.fort_entry_walk.proofs.StepLaws.{kids_next}
use Rattle.fort_entry_walk.proofs.walk.Walk.advance_row.Goals as goal

pub raise_constant-requires-clause-small : goal.raise_constant-requires-clause-small
raise_constant-requires-clause-small c = bound-up_to 65536 (length c.args.sig.now) c.args.self.now.digits (omega (arith, c.len-symbols.ensures.lawful.few)) c.requires.place.digits

pub returns-then-raise_constant-clause-place : goal.returns-then-raise_constant-clause-place
returns-then-raise_constant-clause-place c =
    (raised_there c.args.sig.now c.args.presences.now c.args.self.now c.raise_constant.new.self c.requires.place c.requires.arities (c.if-raise_constant.ensures.raised refl)).placed

pub returns-then-raise_constant-clause-next : goal.returns-then-raise_constant-clause-next
returns-then-raise_constant-clause-next c =
    raised_next c.args.sig.now c.args.presences.now c.args.self.now c.raise_constant.new.self c.requires.place c.requires.arities (c.if-raise_constant.ensures.raised refl)

pub returns-then-advance_kids-clause-next : goal.returns-then-advance_kids-clause-next
returns-then-advance_kids-clause-next c =
    let went = rw (c.if-raise_constant.ensures.stays refl) at (c.if-advance_kids.ensures.next refl) in
    kids_next c.args.sig.now c.args.presences.now c.args.self.now c.advance_kids.new.self c.requires.place went

pub write_row-requires-clause-small : goal.write_row-requires-clause-small
write_row-requires-clause-small c = bound-up_to 65536 (length c.args.sig.now) c.advance-is_next.new.self.digits (omega (arith, c.len-symbols.ensures.lawful.few)) c.advance-is_next.ensures.place.digits
