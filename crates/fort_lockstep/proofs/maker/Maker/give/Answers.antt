use Rattle.std.proofs.Common.{◌≡◌, length, sym, ◌∙◌, arith, subst}
use Rattle.fort_tables.specs.Tables.{Made, IsMadeDue, IsAllowed, IsGiven}
use Rattle.fort_entry_walk.specs.WalkPlaces.{place, entry_at}
use Rattle.fort_lockstep.specs.MakerInside.{parts_with, parts_in, made_in}
use Rattle.fort_lockstep.specs.Making.{made_of}
use Rattle.fort_lockstep.proofs.GiveLaws.{pushed_few, at_due, given_is, noted_on, stands_after}
use Rattle.fort_lockstep.proofs.maker.Maker.give.Goals as goal

pub invariant_of-self-2 : goal.invariant_of-self-2
invariant_of-self-2 c =
    let a = c.self.inside in
    let i = c.self.invariant in
    let old = place a.walk in
    let new = place c.advance_row-self-inside.new.self in
    let t = c.note.new.self in
    let qs' = c.push.new.self.items in
    let at_end : c.len-place.result ≡ length a.targets.items = omega (arith, c.len-place.ensures, a.targets.ok.0) in
    let allowed : IsAllowed (made_in a) c.requires.allowed.0 c.args.target = subst (λ (m : Made). IsAllowed m c.requires.allowed.0 c.args.target) (sym c.self.view_is) c.requires.allowed.1 in
    let r = noted_on a.signature a.columns a.states c.make_room.new.self t a.targets.items qs' a.row (entry_at old) c.requires.allowed.0 a.is_due c.args.target c.len-place.result
    i.making i.stands allowed i.row i.firsts c.in_ok-make_room.ensures.same c.note.ensures c.in_ok-push.ensures.items at_end in
    let g' = parts_with a.signature a.columns t qs' in
    let next = rw c.as_slice-presences.ensures.value at c.advance_row-self-inside.ensures.next in
    record {
      some = i.some;
      narrow = i.narrow;
      few = pushed_few (parts_in a) g' a.row c.args.target i.few c.requires.few r.pushed;
      width = c.advance_row-self-inside.ensures.width ∙ i.width;
      placed = c.advance_row-self-inside.ensures.place;
      row = c.advance_row-self-inside.ensures.row;
      arities = rw c.advance_row-self-inside.ensures.arities i.arities;
      spans = c.note.ensures.spans;
      firsts = r.firsts;
      making = r.grown.making;
      stands = stands_after (made_of a.signature a.columns g') old new c.advance_row-self-inside.result r.grown.up_to i.width next;
    }

pub returns-clause-given : goal.returns-clause-given
returns-clause-given c = λ e d.
    let a = c.self.inside in
    let i = c.self.invariant in
    let last = entry_at (place a.walk) in
    let t = c.note.new.self in
    let qs' = c.push.new.self.items in
    let due : IsMadeDue (made_in a) e = subst (λ (m : Made). IsMadeDue m e) (sym c.self.view_is) d in
    let at_end : c.len-place.result ≡ length a.targets.items = omega (arith, c.len-place.ensures, a.targets.ok.0) in
    let allowed : IsAllowed (made_in a) c.requires.allowed.0 c.args.target = subst (λ (m : Made). IsAllowed m c.requires.allowed.0 c.args.target) (sym c.self.view_is) c.requires.allowed.1 in
    let at = at_due (made_in a) last e a.is_due i.stands due in
    let r = noted_on a.signature a.columns a.states c.make_room.new.self t a.targets.items qs' a.row last c.requires.allowed.0 a.is_due c.args.target c.len-place.result
    i.making i.stands allowed i.row i.firsts c.in_ok-make_room.ensures.same c.note.ensures c.in_ok-push.ensures.items at_end in
    let g' = parts_with a.signature a.columns t qs' in
    subst (λ (m : Made). IsGiven m e c.args.target (made_of a.signature a.columns g')) c.self.view_is
    (given_is a.signature a.columns (parts_in a) g' a.row e c.args.target (i.row ∙ at.same) r.pushed)
