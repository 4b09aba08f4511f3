use Rattle.std.proofs.Common.{◌≡◌, ℕ, List}
use Rattle.fort_tables.specs.Tables.{Listed}
use Rattle.fort_tuple_symbols.specs.SymbolNumbers.{columns_at}
use Rattle.fort_products.specs.HeldWalks.{operands_of, IsHeldBetween}
use Rattle.fort_products.proofs.product.Both.hold_all.Given as goal

abbrev pub invariant-loop : goal.invariant-loop
invariant-loop g l = record {
  numbered : l.symbol ≡ columns_at l.holding.walk.base l.holding.walk.columns l.counter;
  between : (t : Listed) (begins : List ℕ) → IsHeldBetween (operands_of g.T.Table.table l.self.first l.self.second) t begins l.holding 0 l.initial.cursors
      → IsHeldBetween (operands_of g.T.Table.table l.self.first l.self.second) t begins l.holding l.counter l.cursors;
}
