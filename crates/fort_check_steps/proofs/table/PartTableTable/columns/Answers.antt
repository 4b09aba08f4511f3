use Rattle.fort_check_steps.specs.TableInside.{table_in}
use Rattle.fort_check_steps.proofs.TableLaws.{IsTable-turned}
use Rattle.fort_check_steps.proofs.table.PartTableTable.columns.Goals as goal

pub returns-clause-lawful : goal.returns-clause-lawful
returns-clause-lawful c = rw (← c.self.view_is) (IsTable-turned (table_in c.self.inside) c.self.invariant.listed.table)
