-- To believe: the numbers of the views of a table's places, found or kept, and the leaders in them. Inside: these leaders tell its targets.
use Rattle.std.specs.Prelude.{◌≡◌, ℕ, ◌+◌, ◌^◌, ◌<◌, List, length, get_or, IsTrue, IsFalse}
use Rattle.std.proofs.Common.{arith}
use Rattle.std.proofs.Props.{props}
use Rattle.fort_tables.specs.Tuples.{TupleSymbol}
use Rattle.fort_tables.specs.Tables.{Table}
use Rattle.fort_classes.specs.Leaders.{Leaders}
use Rattle.fort_operand_keys.specs.TableLeaders.{IsLedBy}
use Rattle.fort_target_lists.specs.Places.{number_of}
use Rattle.fort_target_lists.specs.Flats.{base_of}
use Rattle.fort_target_lists.specs.ClassLists.{view_at, leader_in, IsClassListOf}
use Rattle.fort_target_lists.specs.TargetLists.{IsTargetListOf}
use Rattle.fort_target_lists.specs.declared.class_list.ClassList.{ClassList}
use Rattle.fort_target_lists.specs.declared.target_list.TargetList.{TargetList}
use Rattle.fort_target_lists.proofs.ClassListLaws.{AreLeaders-listed, GoesByLeaders-listed}
use Rattle.fort_table_classes.specs.ClassViews.{IsPlaceUnder}
use Rattle.fort_classed_tables.specs.PlaceLeaders.{leader_at, place_view, lead_in}
use Rattle.fort_classed_tables.specs.declared.table_views.TableViews.{TableViews}
use Rattle.fort_classed_tables.specs.declared.table_views.TableViews.TheVariants.{Found, Kept}

-- the number of a place's view
abbrev pub number_in : Table → TableViews → TupleSymbol → ℕ → ℕ
number_in table (Found v) f j = place_view table v.starts.items v.numbers.items f j
number_in table (Kept l) f j = view_at l.now f j

-- the leader of a state in the view of a number
abbrev pub leader_by : TableViews → ℕ → ℕ → ℕ
leader_by (Found v) view q = leader_at v.views view q
leader_by (Kept l) view q = leader_in l.now view q

-- the leader of a state at a place
abbrev pub lead_by : Table → TableViews → Leaders
lead_by table v f j q = leader_by v (number_in table v f j) q

pub record AreFoundViews (table : Table) (list : TargetList) (views : List (List ℕ)) (starts numbers : List ℕ) : Type 0 where
  pub list_is : IsTargetListOf table list
  pub none : IsFalse list.is_made → length numbers ≡ 0
  pub all : IsTrue list.is_made → length starts ≡ length list.list.listing.starts.items
  pub within : IsTrue list.is_made → (f : TupleSymbol) (j : ℕ) → IsPlaceUnder table f j → get_or starts (number_of (base_of table) f) 0 + j < length numbers
  pub few : (k : ℕ) → get_or numbers k 0 < 2 ^ 32
  pub led : IsLedBy table (lead_in table views starts numbers)

AreFoundViews-prop : (table : Table) (list : TargetList) (views : List (List ℕ)) (starts numbers : List ℕ) → IsProp (AreFoundViews table list views starts numbers)
AreFoundViews-prop table list views starts numbers = hlevel props

-- the table keeps its targets by these
pub record AreKeptViews (table : Table) (list : TargetList) (l : ClassList) : Type 0 where
  pub list_is : IsTargetListOf table list
  pub kept : IsClassListOf table l

abbrev pub AreTableViews : Table → TargetList → TableViews → Type 0
AreTableViews table list (Found v) = AreFoundViews table list v.views v.starts.items v.numbers.items
AreTableViews table list (Kept l) = AreKeptViews table list l.now

pub AreTableViews-prop : (table : Table) (list : TargetList) (v : TableViews) → IsProp (AreTableViews table list v)
AreTableViews-prop table list (Found v) = AreFoundViews-prop table list v.views v.starts.items v.numbers.items
AreTableViews-prop table list (Kept l) = hlevel props

-- views have numbers of 32 bits
pub few_views : (table : Table) (list : TargetList) (v : TableViews) → AreTableViews table list v → (f : TupleSymbol) (j : ℕ) → IsPlaceUnder table f j → number_in table v f j < 2 ^ 32
few_views table list (Found v) is f j under = is.few (get_or v.starts.items (number_of (base_of table) f) 0 + j)
few_views table list (Kept l) is f j under = omega (arith, (is.kept.views_are f j under.symbol under.place).view, is.kept.few_views)

-- their leaders tell the targets
pub led_by_views : (table : Table) (list : TargetList) (v : TableViews) → AreTableViews table list v → IsLedBy table (lead_by table v)
led_by_views table list (Found v) is = is.led
led_by_views table list (Kept l) is = record { leaders = AreLeaders-listed table l.now is.kept; goes = GoesByLeaders-listed table l.now is.kept }
