use Rattle.std.proofs.Common.{◌∙◌, ◌≡◌, ◌<◌, length, get_or, arith, refl}
use Rattle.fort_views.proofs.SymbolLaws.{known_set, sights_set, taken_set, sights_bound}
use Rattle.fort_views.proofs.views.Views.take_up.Goals as goal

pub take_up-requires-clause-known : goal.take_up-requires-clause-known
take_up-requires-clause-known g c =
    let vs = c.loop-number.self.views.items in
    let n = get_or c.args.numbers.now c.loop-number.number-index 0 in
    let old = c.index_mut-view.result.now in
    let inv = c.loop-number.invariant in
    let low : n < length vs = sights_bound c.args.self.now c.loop-number.self n inv.sights (c.requires.numbers c.loop-number.number-index (omega arith)) in
    (inv.known n old low c.index_mut-view.ensures.value).is

pub loop-number-preserved : goal.loop-number-preserved
loop-number-preserved g c =
    let view = g.K.LabelKeys.view c.args.keys.now in
    let key = g.K.LabelKeys.key c.args.keys.now in
    let labels = c.args.rows.now.labels in
    let vs = c.loop-number.self.views.items in
    let n = get_or c.args.numbers.now c.loop-number.number-index 0 in
    let old = c.index_mut-view.result.now in
    let new = c.take_up.new.self in
    let inv = c.loop-number.invariant in
    let low : n < length vs = sights_bound c.args.self.now c.loop-number.self n inv.sights (c.requires.numbers c.loop-number.number-index (omega arith)) in
    let there : old ≡ get_or vs n old = c.index_mut-view.ensures.value in
    let same = c.take_up.ensures.sight in
    record {
      known = known_set view key labels c.args.until vs n old new low there same inv.known c.in_ok-take_up.ensures.known c.in_ok-take_up.ensures.until;
      taken = taken_set view key labels c.args.until vs n old new low there same c.args.numbers.now c.loop-number.number-index c.in_ok-take_up.ensures.until refl inv.taken;
      sights = record { sights = inv.sights.sights; views = sights_set view key labels c.args.until vs n old new low there same ∙ inv.sights.views };
      others = record { symbols = inv.others.symbols; starts = inv.others.starts; numbers = inv.others.numbers };
    }
