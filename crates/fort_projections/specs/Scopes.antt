-- Inside: which symbols in the projected column a search is about, over which states; what they give.
use Rattle.std.specs.Prelude.{◌≡◌, ℕ, ◌<◌, max, List, [], length, get_or, Some, nat_lt, Bool, true, not, ◌&&◌, ◌==◌, if◌then◌else◌}
use Rattle.std.specs.List.{insert}
use Rattle.fort_tables.specs.Tuples.{TupleSymbol, arity}
use Rattle.fort_tables.specs.Entries.{entry}
use Rattle.fort_tables.specs.Tables.{Table}
use Rattle.fort_tables.specs.Projections.{some_below, some_choice, may_stand, has_state}
use Rattle.fort_projections.specs.declared.scope.Scope.{Scope}
use Rattle.fort_projections.specs.declared.scope.Scope.TheVariants.{All, Without, With}

-- whether a symbol of this arity is among them
abbrev pub takes : Scope → ℕ → Bool
takes All a = true
takes (Without v) a = not (nat_lt v a)
takes (With one) a = nat_lt one.place a

-- which states may stand as child j, where `may` tells it without the scope
abbrev pub may_in : Scope → (ℕ → ℕ → Bool) → ℕ → ℕ → Bool
may_in All may j k = may j k
may_in (Without v) may j k = may j k
may_in (With one) may j k = if j == one.place then one.state == k else may j k

-- whether the symbol g is among them and gives q
abbrev pub gives_in : Table → ℕ → TupleSymbol → List (List ℕ) → Scope → ℕ → ℕ → Bool
gives_in body c f ws scope q g =
    takes scope (arity body.signature g) && some_choice (length body.presences) (may_in scope (may_stand body c (arity body.signature g) ws)) 0 (max (arity body.signature g) (length ws))
    (λ ks. body.target (entry (insert f c (Some g)) ks) == q)

-- whether some symbol among them gives q
abbrev pub some_gives : Table → ℕ → TupleSymbol → List (List ℕ) → Scope → ℕ → Bool
some_gives body c f ws scope q = some_below (length body.signature) (gives_in body c f ws scope q)

-- the state of the one child is one that its label's set has
abbrev pub FitsScope : List (List ℕ) → Scope → Type 0
FitsScope ws All = Unit {0}
FitsScope ws (Without v) = Unit {0}
FitsScope ws (With one) = (one.place < length ws) × (has_state (get_or ws one.place []) one.state ≡ true)

-- the same, where a symbol of this arity is among those of the scope
pub record IsScoped (scope : Scope) (ws : List (List ℕ)) (a : ℕ) : Type 0 where
  pub fits : FitsScope ws scope
  pub taken : takes scope a ≡ true
