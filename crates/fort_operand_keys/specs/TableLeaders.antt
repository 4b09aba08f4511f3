-- To believe: a table's leaders tell its targets, where two entries of one symbol whose children have the same leaders have one target.
use Rattle.fort_tables.specs.Tables.{Table}
use Rattle.fort_classes.specs.Leaders.{Leaders, AreLeaders, GoesByLeaders}

pub record IsLedBy (table : Table) (lead : Leaders) : Type 0 where
  pub leaders : AreLeaders table.signature table.columns table.presences lead
  pub goes : GoesByLeaders table.signature table.columns table.presences lead table.target
