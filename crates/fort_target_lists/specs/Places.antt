-- To believe: the number of a tuple symbol, and the place of child states by their ranks.
use Rattle.std.specs.Prelude.{◌≡◌, ℕ, ◌+◌, ◌*◌, ◌^◌, ◌<◌, List, [], ◌∷◌, length, get_or}
use Rattle.fort_tables.specs.Tuples.{TupleSymbol}
use Rattle.fort_tuple_symbols.specs.Columns.{digit_of}
use Rattle.fort_tables.specs.StateRanks.{count_of, rank_in}
use Rattle.fort_tuple_symbols.specs.SymbolNumbers.{columns_at}
use Rattle.fort_target_lists.specs.declared.flat.Spots.{Spots}
use Rattle.fort_target_lists.specs.declared.flat.FlatTargets.{FlatTargets}

-- a tuple symbol as a number, its first column the greatest digit: numbers ascend as tuple symbols do
abbrev pub number_of : ℕ → TupleSymbol → ℕ
number_of base [] = 0
number_of base (x ∷ f) = digit_of x * base ^ length f + number_of base f

-- the tuple symbol of so many columns that has this number
pub record IsNumbered (base columns n : ℕ) (f : TupleSymbol) : Type 0 where
  pub low : n < base ^ columns
  pub is : f ≡ columns_at base columns n

-- the place of child states behind a place, by each state's rank and by how many states are alike
abbrev pub place_from : List ℕ → List ℕ → ℕ → List ℕ → ℕ
place_from ranks alike p [] = p
place_from ranks alike p (k ∷ ks) = place_from ranks alike (p * get_or alike k 0 + get_or ranks k 0) ks

-- each state's rank among the states of its presence
pub record AreRanks (ps ranks : List ℕ) : Type 0 where
  pub size : length ranks ≡ length ps
  pub rank : (q : ℕ) → q < length ps → get_or ranks q 0 ≡ rank_in (get_or ps q 0) ps q

-- for each state how many have its presence
pub record AreAlike (ps alike : List ℕ) : Type 0 where
  pub size : length alike ≡ length ps
  pub count : (q : ℕ) → q < length ps → get_or alike q 0 ≡ count_of (get_or ps q 0) ps

-- for each presence how many states have it
abbrev pub AreCounts : List ℕ → List ℕ → Type 0
AreCounts ps counts = (w : ℕ) → w < length counts → get_or counts w 0 ≡ count_of w ps

pub record AreSpots (ps ranks alike : List ℕ) : Type 0 where
  pub ranks_are : AreRanks ps ranks
  pub alike_are : AreAlike ps alike

abbrev pub is_state_in : Spots → ℕ → Type 0
is_state_in spots k = (k < length spots.ranks.items) × (k < length spots.alike.items)

-- all of them have a rank
abbrev pub AreStatesIn : Spots → List ℕ → Type 0
AreStatesIn spots ks = (i : ℕ) → i < length ks → is_state_in spots (get_or ks i 0)

-- where the target is if the last child has this state
abbrev pub place_behind : FlatTargets → ℕ → ℕ → ℕ → ℕ
place_behind flat start place k = start + (place * get_or flat.spots.alike.items k 0 + get_or flat.spots.ranks.items k 0)

abbrev pub read_at : FlatTargets → ℕ → ℕ → ℕ → ℕ
read_at flat start place k = get_or flat.listing.targets.items (place_behind flat start place k) 0

pub record IsReadable (flat : FlatTargets) (start place k : ℕ) : Type 0 where
  pub state : is_state_in flat.spots k
  pub within : place_behind flat start place k < length flat.listing.targets.items
