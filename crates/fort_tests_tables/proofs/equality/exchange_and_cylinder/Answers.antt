use Rattle.fort_tests_tables.proofs.ColumnOrders.{order_exchanged}
use Rattle.fort_tests_tables.proofs.equality.exchange_and_cylinder.Goals as goal

pub permute-requires : goal.permute-requires
permute-requires g c = order_exchanged c.in_ok-table.table.columns c.in_ok-table.ensures
