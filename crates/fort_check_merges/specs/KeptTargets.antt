-- Inside: the entries over first states alone, and the classes of their targets.
use Rattle.std.specs.Prelude.{ℕ, List, [], ◌∷◌, map, filter, Bool, cond}
use Rattle.fort_tables.specs.Entries.{Entry}
use Rattle.fort_tables.specs.Tables.{Table, same_states}
use Rattle.fort_tables.specs.Merges.{class_of, leader}

-- each child is its class's first state
abbrev pub is_led : List ℕ → Entry → Bool
is_led classes e = same_states (map (leader classes) e.kids) e.kids

abbrev pub kept_target : Table → List ℕ → Entry → List ℕ
kept_target table classes e = cond (is_led classes e) (class_of classes (table.target e) ∷ []) []

abbrev pub kept_targets : Table → List ℕ → List Entry → List ℕ
kept_targets table classes es = map (λ e. class_of classes (table.target e)) (filter (is_led classes) es)
