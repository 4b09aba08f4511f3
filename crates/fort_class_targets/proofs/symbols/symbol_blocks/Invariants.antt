use Rattle.std.proofs.Common.{◌≡◌, ◌+◌, ℕ, List, length}
use Rattle.fort_tables.specs.Entries.{Entry}
use Rattle.fort_tuple_symbols.specs.SymbolNumbers.{columns_at}
use Rattle.fort_class_targets.specs.SymbolBlocks.{AreTold, HasBlocks}
use Rattle.fort_class_targets.proofs.symbols.symbol_blocks.Given as goal

abbrev pub invariant-loop-number : goal.invariant-loop-number
invariant-loop-number l = record {
  symbol : l.symbol ≡ columns_at (length l.sig + 1) l.columns l.number;
  made : (es : List Entry) (qs : List ℕ) → AreTold l.sig l.columns es qs l.targets l.views l.places.starts.items l.places.numbers.items
      → HasBlocks l.sig l.columns l.number es qs l.views l.places.starts.items l.places.numbers.items l.blocks;
}
