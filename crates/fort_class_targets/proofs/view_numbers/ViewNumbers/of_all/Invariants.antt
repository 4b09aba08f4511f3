use Rattle.std.proofs.Common.{◌≡◌, ◌+◌, length}
use Rattle.fort_tuple_symbols.specs.SymbolNumbers.{columns_at}
use Rattle.fort_class_targets.specs.NumberedViews.{HasPlaces}
use Rattle.fort_class_targets.proofs.view_numbers.ViewNumbers.of_all.Given as goal

abbrev pub invariant-symbols : goal.invariant-symbols
invariant-symbols g l = record {
  symbol : l.symbol ≡ columns_at (length l.sig + 1) l.columns l.counter;
  placed : HasPlaces (g.K.LabelKeys.view l.keys) l.sig l.columns l.counter l.views l.made.starts.items l.made.numbers.items;
}
