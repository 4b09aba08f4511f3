use Rattle.std.proofs.Common.{◌∙◌, refl, arith}
use Rattle.fort_views.specs.declared.views.Views.{Views}
use Rattle.fort_views.proofs.MakingLaws.{more_trans, places_step}
use Rattle.fort_views.proofs.views.Views.add_places.Goals as goal

pub loop-place-preserved : goal.loop-place-preserved
loop-place-preserved g c =
    let view = g.K.LabelKeys.view c.args.keys.now in
    let inv = c.loop-place.invariant in
    let old = c.loop-place.self in
    let mid = c.number_of.new.self in
    let new : Views = record { views = mid.views; sights = mid.sights; symbols = mid.symbols; starts = mid.starts; numbers = c.push.new.self } in
    let r = c.in_ok-number.ensures in
    let others = c.number_of.ensures.others in
    let m = more_trans view c.args.self.now old mid inv.more r.more in
    record {
      more = record { more = m.more; views = m.views; sights = m.sights; fresh = m.fresh };
      places = places_step view c.args.symbol.now c.args.wanted.now c.loop-place.place c.in_ok-number.number c.args.self.now old mid new inv.places r.more others.numbers refl c.in_ok-push.ensures.items (omega arith) r.number r.is;
      few = omega (arith, inv.few, r.few);
      symbols = others.symbols ∙ inv.symbols;
      starts = others.starts ∙ inv.starts;
    }
