-- Law: one column of an optional tuple: its symbol at the root, how many children it has, and its child j.
use Rattle.std.specs.Prelude.{ℕ, Option, None, Some}
use Rattle.fort_theory.specs.Trees.{Tree, Node, tree_count}
use Rattle.fort_tables.specs.Tuples.{tree_at}

abbrev pub column_root : Option Tree → Option ℕ
column_root None = None
column_root (Some (Node f ts)) = Some f

abbrev pub column_kid_count : Option Tree → ℕ
column_kid_count None = 0
column_kid_count (Some (Node f ts)) = tree_count ts

abbrev pub column_kid : Option Tree → ℕ → Option Tree
column_kid None j = None
column_kid (Some (Node f ts)) j = tree_at ts j
