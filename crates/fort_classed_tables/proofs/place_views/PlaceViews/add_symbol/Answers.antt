use Rattle.std.proofs.Common.{◌≡◌, ◌∷◌, [], ◌++◌, length, refl, ap, ◌∙◌, arith, subst}
use Rattle.std.proofs.lemmas.Result.{on_ok_weaker}
use Rattle.fort_tables.specs.Tuples.{symbol_kids}
use Rattle.fort_tables.specs.Tables.{listed_table}
use Rattle.fort_classed_tables.specs.declared.place_views.PlaceViews.{PlaceViews}
use Rattle.fort_classed_tables.specs.MakingViews.{HasPlaces}
use Rattle.fort_classed_tables.proofs.ViewLaws.{led_symbol}
use Rattle.fort_classed_tables.proofs.place_views.PlaceViews.add_symbol.Goals as goal

pub returns-clause-led : goal.returns-clause-led
returns-clause-led c =
    let t = listed_table c.args.counted.now.table.now in
    let f = c.args.symbol.now in
    let old = c.args.self.now in
    let begun : PlaceViews = record { views = old.views; starts = c.push.new.self; numbers = old.numbers } in
    let new = c.add_places.new.self in
    let kids : c.kid_count-kids.result ≡ symbol_kids t.signature f = c.kid_count-kids.ensures.count ∙ ap (λ sig. symbol_kids sig f) c.signature.ensures in
    let start : c.len.result ≡ length old.numbers.items = omega (arith, c.len.ensures, old.numbers.ok.0) in
    let started = c.in_ok-push.ensures.items ∙ ap (λ n. old.starts.items ++ n ∷ []) start in
    on_ok_weaker c.add_places.result
    (λ places n is h. led_symbol t n f old begun new is h refl refl started (subst (λ k. HasPlaces t f k begun new) kids places) c.add_places.ensures.starts)
    c.add_places.ensures.places
