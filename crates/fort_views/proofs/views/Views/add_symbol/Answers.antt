use Rattle.std.proofs.Common.{◌≡◌, ◌∙◌, ◌++◌, ◌∷◌, [], ap, sym, subst, length, arith}
use Rattle.fort_tuple_symbols.specs.Columns.{symbol_of}
use Rattle.fort_tuple_symbols.specs.SymbolSetView.{Symbols}
use Rattle.fort_views.specs.SymbolViews.{HasSightsAt, HasMoreViews, HasPlaces}
use Rattle.fort_views.specs.declared.views.Views.{Views}
use Rattle.fort_views.proofs.MakingLaws.{rows_added, digits_fit, HasSightsAt-last}
use Rattle.fort_views.proofs.views.Views.add_symbol.Goals as goal

pub push-requires-2-clause-fit : goal.push-requires-2-clause-fit
push-requires-2-clause-fit g c =
    let known = c.requires.known in
    digits_fit (g.K.LabelKeys.view c.args.keys.now) known.0 known.1 c.args.digits.now c.args.wanted.now c.args.self.now c.add_places.new.self.symbols known.2 c.add_places.ensures.symbols

pub returns-clause-known : goal.returns-clause-known
returns-clause-known g c = λ sig columns h.
    let view = g.K.LabelKeys.view c.args.keys.now in
    let old = c.args.self.now in
    let mid = c.add_places.new.self in
    let new : Views = record { views = mid.views; sights = mid.sights; symbols = c.push-2.new.self; starts = c.push.new.self; numbers = mid.numbers } in
    let m = c.in_ok-add_places.ensures.more in
    let p = c.in_ok-add_places.ensures.places in
    let f = symbol_of c.args.digits.now in
    let more : HasMoreViews view old new = record { more = m.more; views = m.views; sights = m.sights; fresh = m.fresh } in
    let places : HasPlaces view f c.args.wanted.now old new = subst (λ s. HasPlaces view s c.args.wanted.now old new) c.from_digits.ensures (record { added = p.added; numbers = p.numbers; are = p.are }) in
    let symbols : mid.symbols ≡ old.symbols = c.add_places.ensures.symbols in
    let start : c.len-start.result ≡ length old.numbers.items = omega (arith, c.len-start.ensures, old.numbers.ok.0) in
    rows_added view sig columns c.args.digits.now c.args.wanted.now old new h more places
    (c.push-2.ensures.base ∙ ap (λ (s : Symbols). s.base) symbols)
    (c.push-2.ensures.columns ∙ ap (λ (s : Symbols). s.columns) symbols)
    (c.in_ok-push-2.ensures.ok ∙ ap (λ (s : Symbols). s.digits ++ c.args.digits.now ∷ []) symbols)
    (c.in_ok-push.ensures.items ∙ (ap (λ xs. xs ++ c.len-start.result ∷ []) c.add_places.ensures.starts ∙ ap (λ n. old.starts.items ++ n ∷ []) start))

pub returns-clause-start : goal.returns-clause-start
returns-clause-start g c =
    let view = g.K.LabelKeys.view c.args.keys.now in
    let old = c.args.self.now in
    let mid = c.add_places.new.self in
    let p = c.in_ok-add_places.ensures.places in
    let f = symbol_of c.args.digits.now in
    let wanted = c.args.wanted.now in
    let start : length old.numbers.items ≡ c.len-start.result = omega (arith, c.len-start.ensures, old.numbers.ok.0) in
    subst (λ s. HasSightsAt view f wanted mid.sights mid.numbers.items s) start
    (subst (λ ns. HasSightsAt view f wanted mid.sights ns (length old.numbers.items)) (sym p.numbers)
    (subst (λ s. HasSightsAt view s wanted mid.sights (old.numbers.items ++ p.added) (length old.numbers.items)) c.from_digits.ensures
    (HasSightsAt-last view c.from_digits.result wanted mid.sights old.numbers.items p.added p.are)))
