-- Inside: the leader of a state at a place is the first one of its presence with an equal column.
use Rattle.std.specs.Prelude.{◌≡◌, ℕ, ◌<◌, ◌≤◌, List, [], ◌∷◌, ◌++◌, length, get_or}
use Rattle.fort_classed_tables.specs.declared.columns.Columns.{Columns}
use Rattle.fort_classed_tables.specs.declared.leaders.MetColumns.{MetColumns}
use Rattle.fort_classed_tables.specs.TargetColumns.{column_at}

-- the first state with this column: of one that was met, or this one
pub data GivesFirst (old new : MetColumns) (column : List ℕ) (state first : ℕ) : Type 0 where
  Met : (k : ℕ) → k < length old.firsts.items → get_or old.columns k [] ≡ column → first ≡ get_or old.firsts.items k 0
      → new.columns ≡ old.columns → new.firsts.items ≡ old.firsts.items → GivesFirst old new column state first
  New : first ≡ state → new.columns ≡ old.columns ++ column ∷ [] → new.firsts.items ≡ old.firsts.items ++ state ∷ [] → GivesFirst old new column state first

-- the column of a state
abbrev pub state_column : Columns → List ℕ → ℕ → List ℕ
state_column c ranks q = column_at c (get_or ranks q 0)

-- the state's leader is no later, its own leader, and, for a state of this presence, of that presence and with the same column
pub record IsLedState (c : Columns) (ranks presences : List ℕ) (presence : ℕ) (leaders : List ℕ) (q : ℕ) : Type 0 where
  pub least : get_or leaders q 0 ≤ q
  pub itself : get_or leaders (get_or leaders q 0) 0 ≡ get_or leaders q 0
  pub presence_is : get_or presences q 0 ≡ presence → get_or presences (get_or leaders q 0) 0 ≡ presence
  pub same : get_or presences q 0 ≡ presence → state_column c ranks (get_or leaders q 0) ≡ state_column c ranks q

-- the leaders of the first n states
pub record AreLedStates (c : Columns) (ranks presences : List ℕ) (presence n : ℕ) (leaders : List ℕ) : Type 0 where
  pub count : length leaders ≡ n
  pub states : (q : ℕ) → q < n → IsLedState c ranks presences presence leaders q

-- each column that was met is that of its first state, which is its own leader
pub record AreMet (c : Columns) (ranks presences : List ℕ) (presence n : ℕ) (met : MetColumns) (leaders : List ℕ) : Type 0 where
  pub one : length met.columns ≡ length met.firsts.items
  pub within : (k : ℕ) → k < length met.firsts.items → get_or met.firsts.items k 0 < n
  pub presence_is : (k : ℕ) → k < length met.firsts.items → get_or presences (get_or met.firsts.items k 0) 0 ≡ presence
  pub itself : (k : ℕ) → k < length met.firsts.items → get_or leaders (get_or met.firsts.items k 0) 0 ≡ get_or met.firsts.items k 0
  pub column : (k : ℕ) → k < length met.firsts.items → get_or met.columns k [] ≡ state_column c ranks (get_or met.firsts.items k 0)
