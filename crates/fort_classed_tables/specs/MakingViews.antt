-- Inside: the views of the first tuple symbols' places, and one more tuple symbol's.
use Rattle.std.specs.Prelude.{◌≡◌, ℕ, ◌+◌, ◌^◌, ◌<◌, ◌≤◌, List, [], ◌++◌, length, get_or}
use Rattle.fort_tables.specs.Tuples.{TupleSymbol}
use Rattle.fort_tables.specs.Tables.{Table}
use Rattle.fort_target_lists.specs.Places.{number_of}
use Rattle.fort_target_lists.specs.Flats.{base_of}
use Rattle.fort_table_classes.specs.ClassViews.{IsPlaceUnder}
use Rattle.fort_classed_tables.specs.declared.place_views.PlaceViews.{PlaceViews}
use Rattle.fort_classed_tables.specs.PlaceLeaders.{IsLedPlace, leader_at, lead_in}

-- no more views than numbers of 32 bits; in the first one each state is its own leader
pub record AreViews (views : List (List ℕ)) : Type 0 where
  pub some : 0 < length views
  pub few : length views ≤ 2 ^ 32
  pub first : get_or views 0 [] ≡ []

pub record IsLonger {A : Type 0} (old new : List A) : Type 0 where
  pub more : List A
  pub is : new ≡ old ++ more

-- a tuple symbol's first places have a number more each
pub record HasPlaces (table : Table) (f : TupleSymbol) (places : ℕ) (old new : PlaceViews) : Type 0 where
  pub views : AreViews new.views
  pub longer : IsLonger old.views new.views
  pub numbers : IsLonger old.numbers.items new.numbers.items
  pub count : length new.numbers.items ≡ length old.numbers.items + places
  pub known : (j : ℕ) → j < places → get_or new.numbers.items (length old.numbers.items + j) 0 < length new.views
  pub led : (j : ℕ) → j < places → IsLedPlace table f j (leader_at new.views (get_or new.numbers.items (length old.numbers.items + j) 0))

-- the places under the first n tuple symbols have a view each
pub record AreLedTo (table : Table) (n : ℕ) (v : PlaceViews) : Type 0 where
  pub views : AreViews v.views
  pub count : length v.starts.items ≡ n
  pub known : (k : ℕ) → k < length v.numbers.items → get_or v.numbers.items k 0 < length v.views
  pub within : (f : TupleSymbol) (j : ℕ) → IsPlaceUnder table f j → number_of (base_of table) f < n
      → get_or v.starts.items (number_of (base_of table) f) 0 + j < length v.numbers.items
  pub led : (f : TupleSymbol) (j : ℕ) → IsPlaceUnder table f j → number_of (base_of table) f < n
      → IsLedPlace table f j (lead_in table v.views v.starts.items v.numbers.items f j)
