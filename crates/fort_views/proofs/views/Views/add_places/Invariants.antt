use Rattle.std.proofs.Common.{◌≡◌, ◌+◌, ◌≤◌, take, length}
use Rattle.fort_views.specs.SymbolViews.{HasMoreViews, HasPlaces}
use Rattle.fort_views.proofs.views.Views.add_places.Given as goal

abbrev pub invariant-loop-place : goal.invariant-loop-place
invariant-loop-place g l = record {
  more : HasMoreViews (g.K.LabelKeys.view l.keys) l.initial.self l.self;
  places : HasPlaces (g.K.LabelKeys.view l.keys) l.symbol (take l.place l.wanted) l.initial.self l.self;
  few : length l.self.views.items ≤ length l.initial.self.views.items + l.place;
  symbols : l.self.symbols ≡ l.initial.self.symbols;
  starts : l.self.starts.items ≡ l.initial.self.starts.items;
}
