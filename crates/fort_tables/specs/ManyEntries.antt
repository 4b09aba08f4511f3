-- Inside: an entry over labels of "infinitely many", and the search through the choices of the body's states for its children.
use Rattle.std.specs.Prelude.{◌≡◌, ℕ, ◌<◌, ◌-◌, min, List, [], ◌++◌, map, length, get_or, Some, Bool, ◌&&◌, ◌==◌}
use Rattle.std.specs.List.{insert}
use Rattle.fort_tables.specs.Tuples.{TupleSymbol, arity}
use Rattle.fort_tables.specs.Entries.{Entry, entry}
use Rattle.fort_tables.specs.Tables.{Table}
use Rattle.fort_tables.specs.Labels.{IsOverLabels}
use Rattle.fort_tables.specs.LabelRules.{label_of}
use Rattle.fort_tables.specs.Projections.{some_below, some_choice, may_stand}
use Rattle.fort_tables.specs.ManyLabels.{kid_has_many, some_kid_has_many, many_rule}

-- the labels of the entry's children
abbrev pub kid_labels : List (List ℕ) → Entry → List (List ℕ)
kid_labels labels e = map (λ q. get_or labels q []) e.kids

pub record IsManyEntry (body : Table) (c : ℕ) (many : ℕ → Bool) (labels : List (List ℕ)) (e : Entry) : Type 0 where
  pub column : c < body.columns
  pub over : IsOverLabels body.signature (body.columns - 1) (label_of (many_rule body c many)) labels e

-- the symbol g in the column, above such an entry
pub record AreManyChoices (body : Table) (c : ℕ) (many : ℕ → Bool) (labels : List (List ℕ)) (e : Entry) (g : ℕ) (f : TupleSymbol) (most : ℕ) : Type 0 where
  pub entry : IsManyEntry body c many labels e
  pub within : g < length body.signature
  pub symbol : f ≡ insert e.symbol c (Some g)
  pub arity_is : most ≡ arity body.signature g

-- whether some choice of the remaining children passes, the first j being chosen
abbrev pub finds : Table → (ℕ → ℕ → Bool) → (List ℕ → Bool) → List ℕ → ℕ → ℕ → Bool
finds body may p before j rest = some_choice (length body.presences) may j rest (λ ks. p (before ++ ks))

abbrev pub may_be : Table → ℕ → List (List ℕ) → Entry → ℕ → ℕ → ℕ → Bool
may_be body c labels e most j k = may_stand body c most (kid_labels labels e) j k

-- whether a whole choice gives q
abbrev pub gives_state : Table → TupleSymbol → ℕ → List ℕ → Bool
gives_state body f q ks = body.target (entry f ks) == q

-- and has a child that infinitely many terms give
abbrev pub gives_endless : Table → (ℕ → Bool) → List (List ℕ) → Entry → TupleSymbol → ℕ → ℕ → List ℕ → Bool
gives_endless body many labels e f most q ks = gives_state body f q ks && some_kid_has_many body many (kid_labels labels e) most ks

-- whether some of the first j children below the column's symbol has infinitely many terms
abbrev pub has_endless : Table → (ℕ → Bool) → List (List ℕ) → ℕ → ℕ → List ℕ → Bool
has_endless body many ws most j chosen = some_below (min j most) (λ i. kid_has_many body many ws i (get_or chosen i 0))
