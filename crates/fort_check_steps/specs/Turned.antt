-- To believe: a table under negations, each of which turns the truth of the states whose tuples have all columns.
use Rattle.std.specs.Prelude.{ℕ, zero, suc, ◌==◌, Bool, false, not, get_or, if◌then◌else◌}
use Rattle.fort_tables.specs.Tables.{Table, Listed, full_presence, listed_table}

pub record TurnedTable : Type 0 where
  pub table : Listed
  pub turns : ℕ

-- a truth under n negations, each of which turns it where this is so, and is false elsewhere
abbrev pub turned_by : ℕ → Bool → Bool → Bool
turned_by zero is_full b = b
turned_by (suc n) is_full b = if is_full then not (turned_by n is_full b) else false

abbrev pub turned_accepting : ℕ → Table → ℕ → Bool
turned_accepting n table q = turned_by n (get_or table.presences q 0 == full_presence table.columns) (table.accepting q)

abbrev pub turned_table : TurnedTable → Table
turned_table t = record {
  signature = t.table.signature;
  columns = t.table.columns;
  presences = t.table.presences;
  target = (listed_table t.table).target;
  accepting = turned_accepting t.turns (listed_table t.table);
}
