use Rattle.std.proofs.Common.{ℕ, ◌∙◌, sym, ap, get_or, Option, Some, None}
use Rattle.std.proofs.lemmas.List.Elements.{Contains-get_or}
use Rattle.fort_tree_automata.specs.declared.nta.Move.{Move}
use Rattle.fort_gtt_closure.specs.Scans.{by_left_place, if_move}
use Rattle.fort_gtt_closure.proofs.TargetLaws.{by_places-step, move-at}
use Rattle.fort_gtt_closure.proofs.reasons.by_kids_at.Goals as goal

pub bounds-rights-place : goal.bounds-rights-place
bounds-rights-place c =
    c.requires.right (get_or c.args.right_places.now c.loop-place.place-index (0, 0)) (Contains-get_or c.args.right_places.now c.loop-place.place-index (0, 0) c.loop-place-test.true)

pub returns-in-Some : goal.returns-in-Some
returns-in-Some c =
    let f : Move → Option ℕ = by_left_place c.args.grid.now.entries.items c.args.lefts.now c.args.left_places.now in
    let rights = c.args.rights.now in
    let places = c.args.right_places.now in
    let i = c.loop-place.place-index in
    let low = c.requires.right (get_or places i (0, 0)) (Contains-get_or places i (0, 0) c.loop-place-test.true) in
    let is = move-at rights (get_or places i (0, 0)).1 c.index-rights-place.result low c.index-rights-place.is in
    sym (by_places-step f rights places i (Some c.in-Some.j) c.loop-place-test.true (ap (if_move f) is ∙ sym c.in-Some.ensures)) ∙ c.loop-place.invariant

pub loop-place-preserved : goal.loop-place-preserved
loop-place-preserved c =
    let f : Move → Option ℕ = by_left_place c.args.grid.now.entries.items c.args.lefts.now c.args.left_places.now in
    let rights = c.args.rights.now in
    let places = c.args.right_places.now in
    let i = c.loop-place.place-index in
    let low = c.requires.right (get_or places i (0, 0)) (Contains-get_or places i (0, 0) c.loop-place-test.true) in
    let is = move-at rights (get_or places i (0, 0)).1 c.index-rights-place.result low c.index-rights-place.is in
    sym (by_places-step f rights places i None c.loop-place-test.true (ap (if_move f) is ∙ sym c.in_default.ensures)) ∙ c.loop-place.invariant
