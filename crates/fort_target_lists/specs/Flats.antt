-- To believe: the targets of a table in one list, each tuple symbol's where they start.
use Rattle.std.specs.Prelude.{◌≡◌, ℕ, zero, suc, ◌+◌, ◌^◌, ◌<◌, ◌≤◌, List, [], ◌∷◌, ◌++◌, length, get_or, ◌==◌, if◌then◌else◌}
use Rattle.fort_tables.specs.Tuples.{TupleSymbol, IsTupleSymbol, symbol_kids, kid_presence}
use Rattle.fort_tables.specs.Entries.{Entry, entry}
use Rattle.fort_tables.specs.Tables.{Table, IsTableEntry}
use Rattle.fort_tables.specs.Laid.{joined_below}
use Rattle.fort_target_lists.specs.Places.{number_of, place_from, AreSpots}
use Rattle.fort_target_lists.specs.declared.flat.FlatTargets.{FlatTargets}

-- one more than there are symbols
abbrev pub base_of : Table → ℕ
base_of body = suc (length body.signature)

-- the targets of a tuple symbol over these first child states and any n others, child j being the next
abbrev pub laid : Table → TupleSymbol → List ℕ → ℕ → ℕ → List ℕ
laid body f before j zero = body.target (entry f before) ∷ []
laid body f before j (suc n) = joined_below (length body.presences) (λ k. if get_or body.presences k 0 == kid_presence body.signature f j then laid body f (before ++ k ∷ []) (suc j) n else [])

-- the second list stands in the first one from a place on
pub record HasFrom (xs : List ℕ) (start : ℕ) (ys : List ℕ) : Type 0 where
  pub within : start + length ys ≤ length xs
  pub same : (r : ℕ) → r < length ys → get_or xs (start + r) 0 ≡ get_or ys r 0

-- the targets of the tuple symbols with the first n numbers stand where they start
pub record AreLaid (body : Table) (base n : ℕ) (starts targets : List ℕ) : Type 0 where
  pub count : length starts ≡ n
  pub laid_at : (f : TupleSymbol) → IsTupleSymbol body.signature body.columns f → number_of base f < n → HasFrom targets (get_or starts (number_of base f) 0) (laid body f [] 0 (symbol_kids body.signature f))

pub record IsTargetAt (targets : List ℕ) (place target : ℕ) : Type 0 where
  pub within : place < length targets
  pub is : get_or targets place 0 ≡ target

-- where a flat form has the target of an entry
abbrev pub flat_place : FlatTargets → Entry → ℕ
flat_place flat e = get_or flat.listing.starts.items (number_of flat.base e.symbol) 0 + place_from flat.spots.ranks.items flat.spots.alike.items 0 e.kids

-- the flat form of a table has the target of each entry
pub record IsFlatOf (body : Table) (flat : FlatTargets) : Type 0 where
  pub base_is : flat.base ≡ base_of body
  pub starts_all : length flat.listing.starts.items ≡ flat.base ^ body.columns
  pub few : flat.base ^ body.columns < 2 ^ 64
  pub spots : AreSpots body.presences flat.spots.ranks.items flat.spots.alike.items
  pub entries : (e : Entry) → IsTableEntry body e → IsTargetAt flat.listing.targets.items (flat_place flat e) (body.target e)
