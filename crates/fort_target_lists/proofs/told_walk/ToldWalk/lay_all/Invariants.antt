use Rattle.std.proofs.Common.{◌≡◌}
use Rattle.fort_tables.specs.Tables.{Table}
use Rattle.fort_tuple_symbols.specs.SymbolNumbers.{columns_at}
use Rattle.fort_target_lists.specs.ToldWalks.{HasLaid}
use Rattle.fort_target_lists.proofs.told_walk.ToldWalk.lay_all.Given as goal

abbrev pub invariant-loop : goal.invariant-loop
invariant-loop g l = record {
  symbol : l.symbol ≡ columns_at l.self.base l.self.columns l.counter;
  tells : (body : Table) → g.T.EntryTargets.tells l.initial.targets body → g.T.EntryTargets.tells l.targets body;
  laid_are : (body : Table) → g.T.EntryTargets.tells l.initial.targets body → HasLaid body l.self 0 l.initial.listing.starts.items l.initial.listing.targets.items
      → HasLaid body l.self l.counter l.listing.starts.items l.listing.targets.items;
}
