-- Inside: what the exploration of leading entries knows between two of them, with the maker of the table.
use Rattle.std.specs.Prelude.{◌≡◌, ℕ, ◌≤◌, List, length}
use Rattle.fort_theory.specs.Signatures.{Signature}
use Rattle.fort_tables.specs.Entries.{Entry}
use Rattle.fort_tables.specs.Tables.{Made}
use Rattle.fort_tables.specs.Labels.{Labelling}
use Rattle.fort_classes.specs.LedTables.{IsLeadingMade}
use Rattle.fort_classes.specs.Keys.{Keys, leaders_by}
use Rattle.fort_leading_tables.specs.EntryNumbers.{AreTargetsOf}
use Rattle.fort_leading_tables.specs.FirstEntries.{AreFirstEntries}
use Rattle.fort_leading_tables.specs.LeadingMaking.{Turned, IsMakerOf}
use Rattle.fort_leading_tables.specs.declared.leading_maker.LeadingMaker.{LeadingMaker}
use Rattle.fort_explore.specs.LeadingExploring.{IsLeadingExploring, IsLeadingWhole}

-- between two entries
pub record IsLeadingLoop (sig : Signature) (columns : ℕ) (label : Labelling) (t : Turned) (labels : List (List ℕ)) (firsts : List Entry) (a : LeadingMaker) : Type 0 where
  pub made : Made
  pub signature : made.signature ≡ sig
  pub columns_are : made.columns ≡ columns
  pub exploring : IsLeadingExploring sig columns label t.keys (leaders_by t.keys labels) made firsts labels
  pub maker : IsMakerOf t labels made a

-- at the end, where there are no more labels than the cap
pub record IsLeadingEnd (sig : Signature) (columns : ℕ) (label : Labelling) (t : Turned) (labels : List (List ℕ)) (firsts : List Entry) (a : LeadingMaker) (cap : ℕ) : Type 0 where
  pub made : Made
  pub maker : IsMakerOf t labels made a
  pub whole : IsLeadingWhole sig columns label t.keys (leaders_by t.keys labels) made firsts labels cap

-- the same of the maker's presences, first entries and targets, whatever knew the leaders
pub record IsLeadingTable (sig : Signature) (columns : ℕ) (label : Labelling) (key : Keys) (labels : List (List ℕ)) (firsts : List Entry) (a : LeadingMaker) (cap : ℕ) : Type 0 where
  pub made : Made
  pub narrow : made.columns ≤ 16
  pub presences_are : made.presences ≡ a.presences.items
  pub targets_are : AreTargetsOf made.columns made.entries made.targets a.targets
  pub first_entries : AreFirstEntries made.entries made.targets (length made.presences) a.first_entries
  pub is : IsLeadingMade (leaders_by key labels) made
  pub whole : IsLeadingWhole sig columns label key (leaders_by key labels) made firsts labels cap
