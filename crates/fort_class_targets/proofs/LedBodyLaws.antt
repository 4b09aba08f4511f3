-- In the whole table, made from the targets of its leading entries, each entry has the target of its led one.
use Rattle.std.proofs.Common.{List, Bool, refl}
use Rattle.fort_tables.specs.Tables.{Made, listed_table, finished}
use Rattle.fort_classes.specs.Leaders.{Leaders}
use Rattle.fort_classes.specs.LedTables.{IsLeadingMade, IsLeadingComplete, whole}
use Rattle.fort_classes.proofs.WholeLaws.{target_whole}
use Rattle.fort_class_targets.specs.LedBodies.{IsLedBody}

-- Result: each entry of the whole table has the target of its led one
pub IsLedBody-whole : (lead : Leaders) (m : Made) (finals : List Bool) → IsLeadingMade lead m → IsLeadingComplete lead m → IsLedBody m.signature m.columns lead m (listed_table (finished (whole lead m) finals))
IsLedBody-whole lead m finals is all = record {
  made_signature = refl;
  made_columns = refl;
  signature = refl;
  columns_are = refl;
  presences = refl;
  target = λ e h. target_whole lead m is all e h;
}
