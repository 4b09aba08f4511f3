use Rattle.std.proofs.Common.{◌≡◌}
use Rattle.fort_tight_lists.specs.TightSymbols.{symbol_at, HasTightSymbols}
use Rattle.fort_tight_lists.proofs.parts.TightParts.of_all.Given as goal

abbrev pub invariant-symbols : goal.invariant-symbols
invariant-symbols l = record {
  symbol : l.symbol ≡ symbol_at l.sig l.columns l.counter;
  made_to : HasTightSymbols l.sig l.columns l.counter l.list l.made;
}
