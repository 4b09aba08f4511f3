-- Inside: what the exploration of leading entries knows between two of them, and at its end.
use Rattle.std.specs.Prelude.{ℕ, ◌≤◌, List, length}
use Rattle.fort_theory.specs.Signatures.{Signature}
use Rattle.fort_tables.specs.Entries.{Entry}
use Rattle.fort_tables.specs.Tables.{Made}
use Rattle.fort_tables.specs.Labels.{Labelling}
use Rattle.fort_classes.specs.Leaders.{Leaders}
use Rattle.fort_classes.specs.LedTables.{IsLeadingComplete}
use Rattle.fort_classes.specs.Keys.{Keys, AreLabelLeaders}
use Rattle.fort_explore.specs.Exploring.{IsExploring}

-- the invariant of the loop over leading entries: what is explored, and the leaders of the states so far
pub record IsLeadingExploring (sig : Signature) (columns : ℕ) (label : Labelling) (key : Keys) (lead : Leaders) (made : Made) (firsts : List Entry) (labels : List (List ℕ)) : Type 0 where
  pub exploring : IsExploring sig columns label made firsts labels
  pub leaders : AreLabelLeaders sig columns key labels lead

-- each leading entry has its target, and there are no more labels than the cap
pub record IsLeadingWhole (sig : Signature) (columns : ℕ) (label : Labelling) (key : Keys) (lead : Leaders) (made : Made) (firsts : List Entry) (labels : List (List ℕ)) (cap : ℕ) : Type 0 where
  pub exploring : IsLeadingExploring sig columns label key lead made firsts labels
  pub complete : IsLeadingComplete lead made
  pub few : length labels ≤ cap
