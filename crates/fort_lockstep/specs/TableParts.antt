-- To believe: of what a table is made beside its targets.
use Rattle.std.specs.Prelude.{◌≡◌, ℕ, List, Bool}
use Rattle.fort_theory.specs.Signatures.{Signature}
use Rattle.fort_tables.specs.Tables.{Listed, IsListed}
use Rattle.fort_table.specs.declared.entry_list.EntryList.{EntryList}
use Rattle.fort_lockstep.specs.DtaInside.{AreFirstRows}

-- the listed table with this signature, over so many columns, with these presences, first entries and accepting states
pub record IsMadeOf (t : Listed) (sig : Signature) (columns : ℕ) (presences : List ℕ) (first_entries : EntryList) (finals : List Bool) : Type 0 where
  pub listed : IsListed t
  pub signature : sig ≡ t.signature
  pub columns_are : columns ≡ t.columns
  pub presences_are : presences ≡ t.presences
  pub first_rows : AreFirstRows t first_entries
  pub finals_are : finals ≡ t.finals
