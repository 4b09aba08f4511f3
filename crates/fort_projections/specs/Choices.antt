-- To believe: the states that may stand as children under a symbol in the projected column, and what a choice of them gives.
use Rattle.std.specs.Prelude.{◌≡◌, ◌<◌, ◌≤◌, ◌==◌, ◌-◌, ℕ, List, ◌++◌, length, Some, Bool, true}
use Rattle.std.specs.Slice.Scan.{HoldsNowhere}
use Rattle.std.specs.List.{insert}
use Rattle.fort_tables.specs.Tuples.{TupleSymbol, arity}
use Rattle.fort_tables.specs.Entries.{Entry, entry}
use Rattle.fort_tables.specs.Tables.{Table}
use Rattle.fort_tables.specs.Labels.{IsOverLabels}
use Rattle.fort_tables.specs.LabelRules.{label_of}
use Rattle.fort_tables.specs.Projections.{some_choice, may_stand, project_rule, ArePure}
use Rattle.fort_target_lists.specs.LabelLists.{labels_at}

-- the first place from `from` on where p holds
pub record IsNext (p : ℕ → Bool) (from k : ℕ) : Type 0 where
  pub low : from ≤ k
  pub hit : p k ≡ true
  pub before : HoldsNowhere p from k

-- an entry over labels of the projection, which the search for the states that it gives is about
pub record IsSearched (body : Table) (c : ℕ) (labels : List (List ℕ)) (e : Entry) : Type 0 where
  pub column : c < body.columns
  pub over : IsOverLabels body.signature (body.columns - 1) (label_of (project_rule body c)) labels e

-- the entry's symbol with one more column
abbrev pub symbol_under : Entry → ℕ → ℕ → TupleSymbol
symbol_under e c g = insert e.symbol c (Some g)

-- a symbol in the column, above such an entry
pub record AreChoices (body : Table) (c : ℕ) (alone : List ℕ) (labels : List (List ℕ)) (e : Entry) (g : ℕ) (f : TupleSymbol) (most : ℕ) : Type 0 where
  pub searched : IsSearched body c labels e
  pub pure : ArePure body c alone
  pub within : g < length body.signature
  pub symbol : f ≡ insert e.symbol c (Some g)
  pub arity_is : most ≡ arity body.signature g

-- which states may stand as child j
abbrev pub may_choose : Table → ℕ → List (List ℕ) → Entry → ℕ → ℕ → ℕ → Bool
may_choose body c labels e arity j k = may_stand body c arity (labels_at labels e.kids) j k

-- the first state from `from` on that may stand there; none from there on
pub record IsNextChoice (body : Table) (may : ℕ → Bool) (from k : ℕ) : Type 0 where
  pub next : IsNext may from k
  pub within : k < length body.presences

abbrev pub AreNoChoices : Table → (ℕ → Bool) → ℕ → Type 0
AreNoChoices body may from = HoldsNowhere may from (length body.presences)

-- whether the target is q for some choice of the remaining children, the first j being chosen
abbrev pub is_reachable : Table → (ℕ → ℕ → Bool) → TupleSymbol → List ℕ → ℕ → ℕ → ℕ → Bool
is_reachable body may f before j rest q = some_choice (length body.presences) may j rest (λ ks. body.target (entry f (before ++ ks)) == q)
