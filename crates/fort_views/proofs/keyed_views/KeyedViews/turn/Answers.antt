use Rattle.std.proofs.Common.{◌+◌, List, sym, subst}
use Rattle.fort_tuple_symbols.specs.Columns.{symbol_of}
use Rattle.fort_views.specs.SymbolViews.{AreViewsUpTo}
use Rattle.fort_views.specs.declared.view.View.{View}
use Rattle.fort_views.proofs.SymbolLaws.{is_turned, AreViewsUpTo-later, AreViewsUpTo-more}
use Rattle.fort_views.proofs.keyed_views.KeyedViews.turn.Goals as goal

pub take_up-requires-clause-known : goal.take_up-requires-clause-known
take_up-requires-clause-known g c =
    let view = g.K.LabelKeys.view c.args.self.now.keys.now in
    let key = g.K.LabelKeys.key c.args.self.now.keys.now in
    let labels = c.args.rows.now.labels in
    let until = c.args.newest + 1 in
    let vs = c.args.self.now.views.views.items in
    let known = c.requires.known in
    let more = c.in_ok-places.ensures.more in
    subst (λ (vs : List View). AreViewsUpTo view key labels until vs) (sym more.views)
    (AreViewsUpTo-more view key labels until vs more.more (AreViewsUpTo-later view key labels known.2 until vs known.3.forward known.3.known.each) more.fresh)

pub returns-clause-turned : goal.returns-clause-turned
returns-clause-turned g c =
    let known = c.requires.known in
    let t = known.3 in
    let rows = c.in_ok-places.ensures.known known.0 known.1 (record { rows = t.known.rows; symbol = t.symbol; wanted_are = t.wanted_are }) in
    is_turned (g.K.LabelKeys.view c.args.self.now.keys.now) (g.K.LabelKeys.key c.args.self.now.keys.now) c.args.rows.now.labels c.args.newest (symbol_of c.args.digits.now) c.places.new.self c.take_up.new.self c.args.wanted.now c.in_ok-places.places c.numbers.result.now
    c.in_ok-places.ensures.places rows.sights c.in_ok-take_up.ensures.sights.views c.numbers.ensures.numbers c.in_ok-take_up.ensures.taken c.in_ok-take_up.ensures.known
