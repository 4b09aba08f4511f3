-- Inside: the table of a merge, and what is known of it.
use Rattle.std.specs.Prelude.{◌≡◌, ◌<◌, ◌^◌, length}
use Rattle.fort_tables.specs.Tables.{Table, Listed, listed_table, IsListed}
use Rattle.fort_tables.specs.Laid.{all_entries}
use Rattle.fort_check_merges.specs.declared.given.GivenTable.{GivenTable}

abbrev pub listed_in : GivenTable → Listed
listed_in g = record {
  signature = g.signature.now;
  columns = g.columns;
  presences = g.presences.now;
  entries = all_entries g.signature.now g.columns g.presences.now;
  targets = g.targets.now;
  finals = g.finals.now;
}

abbrev pub table_in : GivenTable → Table
table_in g = listed_table (listed_in g)

-- it is a table whose states and targets have numbers
pub record HasTable (g : GivenTable) : Type 0 where
  pub listed : IsListed (listed_in g)
  pub few : length g.presences.now < 2 ^ 32
  pub few_targets : length g.targets.now < 2 ^ 32
  pub finals : length g.finals.now ≡ length g.presences.now

-- a class and an acceptance for each state, and a number
pub record HasStates (g : GivenTable) : Type 0 where
  pub few : length g.presences.now < 2 ^ 32
  pub finals : length g.finals.now ≡ length g.presences.now
  pub classes : length g.classes.now ≡ length g.presences.now

pub record IsGiven (g : GivenTable) : Type 0 where
  pub states : HasStates g
  pub listed : IsListed (listed_in g)
