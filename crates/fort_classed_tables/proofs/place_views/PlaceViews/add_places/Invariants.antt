use Rattle.std.proofs.Common.{◌≡◌}
use Rattle.fort_tables.specs.Tables.{listed_table}
use Rattle.fort_classed_tables.specs.MakingViews.{HasPlaces}
use Rattle.fort_classed_tables.proofs.place_views.PlaceViews.add_places.Given as goal

abbrev pub invariant-loop-place : goal.invariant-loop-place
invariant-loop-place l = record {
  starts : l.self.starts.items ≡ l.initial.self.starts.items;
  places : HasPlaces (listed_table l.counted.table.now) l.symbol l.place l.initial.self l.self;
}
