use Rattle.std.proofs.Common.{◌≡◌, ℕ, List, vec_capacity}
use Rattle.fort_tables.specs.Tables.{Listed}
use Rattle.fort_tuple_symbols.specs.SymbolNumbers.{columns_at}
use Rattle.fort_target_lists.specs.Walks.{IsBetween}
use Rattle.fort_target_lists.proofs.walk.LayingWalk.pass_all.Given as goal

abbrev pub invariant-loop : goal.invariant-loop
invariant-loop l = record {
  symbol : l.symbol ≡ columns_at l.self.base l.self.columns l.counter;
  between : (t : Listed) (begins : List ℕ) → IsBetween t begins l.self 0 l.initial.cursors l.initial.listing.starts.items l.initial.listing.targets.items
      → IsBetween t begins l.self l.counter l.cursors l.listing.starts.items l.listing.targets.items;
  starts : vec_capacity l.listing.starts ≡ vec_capacity l.initial.listing.starts;
  room : vec_capacity l.listing.targets ≡ vec_capacity l.initial.listing.targets;
}
