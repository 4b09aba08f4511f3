use Rattle.std.proofs.Common.{Some, ap, sym, ◌∙◌}
use Rattle.fort_certificate.specs.ReadView.{as_slot, as_last}
use Rattle.fort_certificate.proofs.SlotLaws.{slot_at-some, slot_at-none}
use Rattle.fort_certificate.proofs.slot.slot_of.Goals as goal

pub returns-in-Some : goal.returns-in-Some
returns-in-Some c =
    let here = c.in-Some.ensures.lookup.3 in
    ap (λ s. Some (as_slot s)) (here.1 c.in-Some.slot.now) ∙ sym (slot_at-some c.args.first.now c.args.place c.in-Some.slot.now (as_last c.args.last) here.0)

pub returns-in-None : goal.returns-in-None
returns-in-None c = sym (slot_at-none c.args.first.now c.args.place (as_last c.args.last) c.in-None.ensures.lookup.3)
