use Rattle.std.proofs.Common.{◌≡◌, ◌||◌, ◌&&◌, None, map, length, get_or, [], Bool, true, false, refl, sym, ◌∙◌, arith}
use Rattle.std.specs.List.{insert}
use Rattle.fort_tables.specs.Tuples.{presence}
use Rattle.fort_tables.specs.Entries.{entry}
use Rattle.fort_tables.specs.Projections.{absent_state, has_state, some_below, gives}
use Rattle.fort_target_lists.specs.LabelLists.{labels_at}
use Rattle.fort_projections.specs.Scopes.{some_gives}
use Rattle.fort_projections.specs.ImageFacts.{with_state}
use Rattle.fort_projections.specs.declared.scope.Scope.TheVariants.{Without}
use Rattle.fort_projections.proofs.LabelWritten.{label_written, or_nothing}
use Rattle.fort_projections.proofs.ProjectEntries.{kid_label_width}
use Rattle.fort_projections.proofs.ScopeLaws.{gives_by_state}
use Rattle.fort_projections.proofs.imaged.write_kept.Goals as goal

parts : (a b new mid old : Bool) → new ≡ (a || mid) → mid ≡ (b || old) → old ≡ false → new ≡ (a || b)
parts true b new mid old h k e = h
parts false b new mid old h k e = h ∙ (k ∙ or_nothing b old e)

pub turn_to-requires-clause-wide : goal.turn_to-requires-clause-wide
turn_to-requires-clause-wide g c = λ j l.
    let body = g.T.Table.table c.args.body.now in
    kid_label_width body c.args.column c.args.rows.now.labels c.args.row.now c.states-states.ensures.lawful c.states-states.ensures.reached (record { column = c.requires.column; over = c.requires.over }) j l ∙ sym c.requires.images.label_width

pub mark_set-requires-clause-images : goal.mark_set-requires-clause-images
mark_set-requires-clause-images g c = c.turn_to.ensures.images (g.T.Table.table c.args.body.now) c.args.column c.requires.images

pub returns-else-turn_to-clause-images : goal.returns-else-turn_to-clause-images
returns-else-turn_to-clause-images g c = c.turn_to.ensures.images (g.T.Table.table c.args.body.now) c.args.column c.requires.images

pub returns-else-turn_to-clause-label : goal.returns-else-turn_to-clause-label
returns-else-turn_to-clause-label g c =
    let body = g.T.Table.table c.args.body.now in
    let e = c.args.row.now in
    let ws = labels_at c.args.rows.now.labels e.kids in
    let p = gives body c.args.column e.symbol ws in
    let m = c.mark-else-turn_to in
    label_written m.new.out (length body.presences) (presence e.symbol) (body.target (entry (insert e.symbol c.args.column None) (map absent_state ws))) p
    (omega (arith, m.auto.out, c.write_front.auto.out, c.requires.room))
    (λ i l. omega (arith, c.type_inv.out i))
    (m.ensures.first ∙ c.write_front.ensures.first)
    (m.ensures.second ∙ c.write_front.ensures.second)
    (λ q l. m.ensures.marked q ∙ or_nothing (p q) (has_state c.write_front.new.out q) (c.write_front.ensures.none q))

pub returns-then-turn_to-clause-label : goal.returns-then-turn_to-clause-label
returns-then-turn_to-clause-label g c =
    let body = g.T.Table.table c.args.body.now in
    let e = c.args.row.now in
    let ws = labels_at c.args.rows.now.labels e.kids in
    let v = c.turn_to.new.self.place in
    let key = c.if-turn_to.ensures.of_entry refl in
    let m = c.mark_set in
    label_written m.new.out (length body.presences) (presence e.symbol) (body.target (entry (insert e.symbol c.args.column None) (map absent_state ws))) (gives body c.args.column e.symbol ws)
    (omega (arith, m.auto.out, c.mark.auto.out, c.write_front.auto.out, c.requires.room))
    (λ i l. omega (arith, c.type_inv.out i))
    (m.ensures.first ∙ (c.mark.ensures.first ∙ c.write_front.ensures.first))
    (m.ensures.second ∙ (c.mark.ensures.second ∙ c.write_front.ensures.second))
    (λ q l.
    parts (some_below (length body.presences) (λ s. has_state (get_or ws v []) s && some_gives body c.args.column e.symbol ws (with_state v s) q)) (some_gives body c.args.column e.symbol ws (Without v) q)
    (has_state m.new.out q) (has_state c.mark.new.out q) (has_state c.write_front.new.out q) (m.ensures.marked q) (c.mark.ensures.marked q) (c.write_front.ensures.none q)
    ∙ gives_by_state body c.args.column e.symbol ws v q key.place)
