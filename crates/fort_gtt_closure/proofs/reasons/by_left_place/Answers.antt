use Rattle.std.proofs.Common.{ℕ, ◌∙◌, sym, ap, get_or, true, false, Bool}
use Rattle.std.specs.Prelude.{slice_get}
use Rattle.std.proofs.lemmas.List.Elements.{Contains-get_or}
use Rattle.fort_gtt_closure.specs.Scans.{meets}
use Rattle.fort_gtt_closure.proofs.TargetLaws.{first_of-step, move-at}
use Rattle.fort_gtt_closure.proofs.reasons.by_left_place.Goals as goal

pub bounds-lefts-place : goal.bounds-lefts-place
bounds-lefts-place c = c.requires (get_or c.args.places.now c.loop-place.place-index (0, 0)) (Contains-get_or c.args.places.now c.loop-place.place-index (0, 0) c.loop-place-test.true)

pub returns-then-meets : goal.returns-then-meets
returns-then-meets c =
    let es = c.args.grid.now.entries.items in
    let lefts = c.args.lefts.now in
    let right = c.args.right.now in
    let places = c.args.places.now in
    let i = c.loop-place.place-index in
    let test : ℕ → Bool = λ j. meets es right (slice_get lefts j) in
    let low = c.requires (get_or places i (0, 0)) (Contains-get_or places i (0, 0) c.loop-place-test.true) in
    let is = move-at lefts (get_or places i (0, 0)).1 c.index-lefts-place.result low c.index-lefts-place.is in
    sym (first_of-step test places i true c.loop-place-test.true (ap (meets es right) is ∙ (sym c.meets.ensures ∙ c.if-meets.true))) ∙ c.loop-place.invariant

pub loop-place-preserved : goal.loop-place-preserved
loop-place-preserved c =
    let es = c.args.grid.now.entries.items in
    let lefts = c.args.lefts.now in
    let right = c.args.right.now in
    let places = c.args.places.now in
    let i = c.loop-place.place-index in
    let test : ℕ → Bool = λ j. meets es right (slice_get lefts j) in
    let low = c.requires (get_or places i (0, 0)) (Contains-get_or places i (0, 0) c.loop-place-test.true) in
    let is = move-at lefts (get_or places i (0, 0)).1 c.index-lefts-place.result low c.index-lefts-place.is in
    sym (first_of-step test places i false c.loop-place-test.true (ap (meets es right) is ∙ (sym c.meets.ensures ∙ c.if-meets.false))) ∙ c.loop-place.invariant
