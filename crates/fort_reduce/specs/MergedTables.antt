-- To believe: a listed table is the table of the classes.
use Rattle.std.specs.Prelude.{◌≡◌, ℕ, ◌<◌, List}
use Rattle.fort_tables.specs.Entries.{Entry}
use Rattle.fort_tables.specs.Tables.{Table, IsTableEntry}
use Rattle.fort_tables.specs.Merges.{count_of, merged}

-- the signature, the columns, the states' presences, the targets of all entries and the accepting states are those of the table of the classes
pub record IsMergedTable (old : Table) (classes : List ℕ) (new : Table) : Type 0 where
  pub signature : new.signature ≡ old.signature
  pub columns_are : new.columns ≡ old.columns
  pub presences : new.presences ≡ (merged old classes).presences
  pub targets : (e : Entry) → IsTableEntry (merged old classes) e → new.target e ≡ (merged old classes).target e
  pub accepting : (c : ℕ) → c < count_of classes → new.accepting c ≡ (merged old classes).accepting c
