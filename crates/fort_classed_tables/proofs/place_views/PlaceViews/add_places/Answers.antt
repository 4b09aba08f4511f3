use Rattle.std.proofs.Common.{◌∷◌, [], ◌++◌, List, ℕ, ap, ◌∙◌, arith}
use Rattle.fort_tables.specs.Tables.{listed_table}
use Rattle.fort_classed_tables.specs.declared.place_views.PlaceViews.{PlaceViews}
use Rattle.fort_classed_tables.proofs.PlaceTargets.{kid_present}
use Rattle.fort_classed_tables.proofs.ViewLaws.{places_more}
use Rattle.fort_classed_tables.proofs.place_views.PlaceViews.add_places.Goals as goal

pub leaders-requires-clause-symbol : goal.leaders-requires-clause-symbol
leaders-requires-clause-symbol c =
    kid_present (listed_table c.args.counted.now.table.now) c.args.symbol.now c.loop-place.place c.requires.symbols c.requires.width (omega (arith, c.loop-place-test.true, c.requires.kids))

pub loop-place-preserved : goal.loop-place-preserved
loop-place-preserved c =
    let t = listed_table c.args.counted.now.table.now in
    let old = c.loop-place.self in
    let mid = c.number_of.new.self in
    let new : PlaceViews = record { views = mid.views; starts = mid.starts; numbers = c.push.new.self } in
    let inv = c.loop-place.invariant in
    let r = c.in_ok-number.ensures in
    let n = c.in_ok-number.number in
    record {
      starts = c.number_of.ensures.starts ∙ inv.starts;
      places = places_more t c.args.symbol.now c.loop-place.place c.args.self.now old new n c.in_ok-leaders.leaders.items inv.places r.views r.longer
          (c.in_ok-push.ensures.items ∙ ap (λ (xs : List ℕ). xs ++ n ∷ []) c.number_of.ensures.numbers) r.within r.is c.in_ok-leaders.ensures;
    }
