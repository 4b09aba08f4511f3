use Rattle.std.proofs.Common.{◌≡◌, [], refl, ap, ◌∙◌, arith, length}
use Rattle.fort_entry_walk.specs.WalkPlaces.{place}
use Rattle.fort_tuple_symbols.proofs.Bounds.{bound-up_to}
use Rattle.fort_lockstep.specs.Fronts.{front_of}
use Rattle.fort_lockstep.specs.StateFacts.{first_entries_in}
use Rattle.fort_lockstep.specs.MakerInside.{parts_with}
use Rattle.fort_lockstep.proofs.FrontLaws.{front_none}
use Rattle.fort_lockstep.proofs.FirstEntryLaws.{firsts_none}
use Rattle.fort_lockstep.proofs.GiveLaws.{new_making, new_stands}
use Rattle.fort_lockstep.proofs.maker.Maker.new.Goals as goal

pub row-row-requires-clause-small : goal.row-row-requires-clause-small
row-row-requires-clause-small c = bound-up_to 65536 (length c.in_ok-signature.signature) c.new-walk.result.digits (omega (arith, c.len-symbols.ensures.lawful.few)) c.new-walk.ensures.place.digits

pub returns-clause-entries : goal.returns-clause-entries
returns-clause-entries c =
    ap (λ k. front_of c.in_ok-signature.signature c.args.columns c.new.result.presences.items (length k)) c.new-2.ensures.items
    ∙ front_none c.in_ok-signature.signature c.args.columns c.new.result.presences.items

pub invariant_of-result : goal.invariant_of-result
invariant_of-result c =
    let sig = c.in_ok-signature.signature in
    let n = c.args.columns in
    let s = c.new.result in
    let g = parts_with sig n s c.new-2.result.items in
    let none : g.entries ≡ [] =
    ap (λ k. front_of sig n s.presences.items (length k)) c.new-2.ensures.items ∙ front_none sig n s.presences.items in
    let rows : first_entries_in s ≡ [] = rw c.new.ensures.first_entries refl in
    record {
      some = c.requires.some;
      narrow = c.requires.narrow;
      few = rw c.new.ensures.presences (omega arith);
      width = c.advance_row-is_due.ensures.width ∙ c.new-walk.ensures.width;
      placed = c.advance_row-is_due.ensures.place;
      row = c.advance_row-is_due.ensures.row;
      arities = rw c.advance_row-is_due.ensures.arities c.new-walk.ensures.arities;
      spans = rw c.new.ensures.first_entries (λ k d low. absurd (omega arith));
      firsts = firsts_none g.entries s.firsts.items (first_entries_in s) c.new.ensures.firsts rows;
      making = new_making sig n g c.new.ensures.presences c.new.ensures.firsts none c.new-2.ensures.items;
      stands = new_stands sig n g (place c.new-walk.result) (place c.advance_row-is_due.new.self) c.advance_row-is_due.result c.new.ensures.presences none c.new-walk.ensures.start c.new-walk.ensures.width c.advance_row-is_due.ensures.next;
    }
