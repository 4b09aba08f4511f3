-- To believe: a table over the states of one in the making by leading entries, in which each entry has the target of its led one.
use Rattle.std.specs.Prelude.{◌≡◌, ℕ}
use Rattle.fort_theory.specs.Signatures.{Signature}
use Rattle.fort_tables.specs.Entries.{Entry}
use Rattle.fort_tables.specs.Tables.{Made, Table, IsTableEntry}
use Rattle.fort_classes.specs.Leaders.{Leaders}
use Rattle.fort_classes.specs.LedTables.{led_target}

-- both are over this signature and so many columns
pub record IsLedBody (sig : Signature) (columns : ℕ) (lead : Leaders) (m : Made) (body : Table) : Type 0 where
  pub made_signature : m.signature ≡ sig
  pub made_columns : m.columns ≡ columns
  pub signature : body.signature ≡ sig
  pub columns_are : body.columns ≡ columns
  pub presences : body.presences ≡ m.presences
  pub target : (e : Entry) → IsTableEntry body e → body.target e ≡ led_target lead m e
