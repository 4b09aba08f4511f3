use Rattle.std.proofs.Common.{map, vec_items, ap, ◌∙◌}
use Rattle.std.proofs.lemmas.List.{map_push}
use Rattle.fort_tight_lists.proofs.PlacesLaws.{places_next}
use Rattle.fort_tight_lists.proofs.places.add_places.Goals as goal

pub loop-place-preserved : goal.loop-place-preserved
loop-place-preserved c =
    let one = c.args.one.now in
    let inv = c.loop-place.invariant in
    let made = c.in_ok-made.made in
    let r = c.in_ok-number_of.ensures in
    let firsts = c.loop-place.firsts.items in
    record {
      tight_are = r.tight;
      placed = places_next one.blocks.now one.block one.counts.now c.args.views.now c.args.tight.now.views.items c.args.olds.now c.args.numbers.now.items c.loop-place.place c.loop-place.tight.views.items c.number_of.new.self.views.items c.loop-place.numbers.items c.push.new.self.items
          (map vec_items firsts) (map vec_items c.push-in-loop-place.new.self.items) made.numbers.items made.firsts.items c.in_ok-number_of.field-0 r.more.0 inv.placed c.in_ok-made.ensures r.more.1 r.more.2 r.is c.in_ok-push.ensures.items
          (ap (map vec_items) c.in_ok-push-2.ensures.items ∙ map_push vec_items firsts made.firsts);
    }
