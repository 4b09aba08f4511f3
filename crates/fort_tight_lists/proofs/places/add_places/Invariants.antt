use Rattle.std.proofs.Common.{map, vec_items}
use Rattle.fort_tight_lists.specs.TightViews.{AreTightViews}
use Rattle.fort_tight_lists.specs.TightPlaces.{HasTightPlaces}
use Rattle.fort_tight_lists.proofs.places.add_places.Given as goal

abbrev pub invariant-loop-place : goal.invariant-loop-place
invariant-loop-place l = record {
  tight_are : AreTightViews l.views l.tight.keys l.tight.views.items;
  placed : HasTightPlaces l.one.blocks.now l.one.block l.one.counts.now l.views l.initial.tight.views.items l.tight.views.items l.olds l.initial.numbers.items l.numbers.items (map vec_items l.firsts.items) l.place;
}
