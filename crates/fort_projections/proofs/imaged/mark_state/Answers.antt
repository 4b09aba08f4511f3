use Rattle.std.proofs.Common.{◌≡◌, ◌-◌, ◌<◌, ◌||◌, ℕ, [], length, get_or, rules, refl, ap, sym, ◌∙◌, arith, subst}
use Rattle.std.proofs.lemmas.List.{get_or_default, with_items_is, places}
use Rattle.fort_tables.specs.Tables.{Table}
use Rattle.fort_tables.specs.Projections.{has_state}
use Rattle.fort_target_lists.specs.LabelLists.{labels_at}
use Rattle.fort_projections.specs.Scopes.{some_gives}
use Rattle.fort_projections.specs.ImageFacts.{AreImages, IsSlot, with_state}
use Rattle.fort_projections.specs.declared.images.Images.{Images}
use Rattle.fort_projections.proofs.LabelWritten.{none_in_zeros, or_nothing}
use Rattle.fort_projections.proofs.ImageLaws.{image_gives, gives_image}
use Rattle.fort_projections.proofs.ImagesKept.{images_along}
use Rattle.fort_projections.proofs.imaged.mark_state.Goals as goal

-- the image that a number stands for
number_slot : (body : Table) (c : ℕ) (images : Images) (s number d : ℕ) → AreImages body c images → s < length body.presences → number ≡ get_or images.slots.items s d → (number ≡ 0 → ⊥) → IsSlot body c images s number
number_slot body c images s number d a small is some =
    let e : number ≡ get_or images.slots.items s 0 = is ∙ get_or_default images.slots.items s d 0 (omega (arith, a.slots, small)) in
    subst (IsSlot body c images s) (sym e) (a.made s (omega (arith, e, some)))

pub note-requires-clause-few : goal.note-requires-clause-few
note-requires-clause-few g c = omega (arith, c.requires.images.few, c.states-states.ensures.count, c.states-states.type_inv)

pub join-requires-else-number-eq0 : goal.join-requires-else-number-eq0
join-requires-else-number-eq0 g c =
    let x = number_slot (g.T.Table.table c.args.body.now) c.args.column c.args.images.now c.args.state c.index-number.result.now c.index-number.result.now c.requires.images c.requires.small c.index-number.ensures c.if-number-eq0.false in
    ap length c.label.ensures ∙ (x.wide ∙ sym c.requires.room)

pub returns-then-number-eq0-clause-images : goal.returns-then-number-eq0-clause-images
returns-then-number-eq0-clause-images g c =
    let body = g.T.Table.table c.args.body.now in
    let old = c.args.images.now in
    let ws = labels_at c.args.rows.now.labels c.args.row.now.kids in
    let is = with_items_is old.image c.mark.new.out (search (rules, places)) in
    let size : length c.mark.new.out ≡ length old.image.items = search (rules, places) in
    c.note.ensures.images body c.args.column
    (images_along body c.args.column old _ (record { same = record { key = refl; labels = refl; place = refl }; slots = refl; images = refl; room = refl; image = ap length is ∙ size }) c.requires.images)
    (gives_image body c.args.column old c.args.row.now.symbol ws c.args.state _ c.requires.key
    (λ q. ap (λ w. has_state w q) is ∙ (c.mark.ensures.marked q ∙ or_nothing (some_gives body c.args.column c.args.row.now.symbol ws (with_state old.place c.args.state) q) (has_state c.clear.new.words q) (none_in_zeros c.clear.new.words q c.clear.ensures))))

pub returns-then-number-eq0-clause-marked : goal.returns-then-number-eq0-clause-marked
returns-then-number-eq0-clause-marked g c = λ q.
    let body = g.T.Table.table c.args.body.now in
    let old = c.args.images.now in
    let ws = labels_at c.args.rows.now.labels c.args.row.now.kids in
    let is = with_items_is old.image c.mark.new.out (search (rules, places)) in
    c.join.ensures.marked q
    ∙ ap (λ b. b || has_state c.args.out.now q)
    (ap (λ w. has_state w q) (c.deref.ensures.value ∙ is)
    ∙ (c.mark.ensures.marked q ∙ or_nothing (some_gives body c.args.column c.args.row.now.symbol ws (with_state old.place c.args.state) q) (has_state c.clear.new.words q) (none_in_zeros c.clear.new.words q c.clear.ensures)))

pub returns-else-number-eq0-clause-marked : goal.returns-else-number-eq0-clause-marked
returns-else-number-eq0-clause-marked g c = λ q.
    let body = g.T.Table.table c.args.body.now in
    let old = c.args.images.now in
    let ws = labels_at c.args.rows.now.labels c.args.row.now.kids in
    let x = number_slot body c.args.column old c.args.state c.index-number.result.now c.index-number.result.now c.requires.images c.requires.small c.index-number.ensures c.if-number-eq0.false in
    c.join-else-number-eq0.ensures.marked q
    ∙ ap (λ b. b || has_state c.args.out.now q)
    (ap (λ w. has_state w q) c.label.ensures
    ∙ image_gives body c.args.column old c.args.row.now.symbol ws c.args.state (get_or old.images.labels (c.index-number.result.now - 1) []) c.requires.key x.is q)
