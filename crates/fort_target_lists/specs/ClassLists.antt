-- To believe: what a table's targets by the classes of its states are: at each place under a tuple symbol each state has a class, each class its least state as leader, and the target of an entry stands at its children's classes.
use Rattle.std.specs.Prelude.{◌≡◌, ℕ, ◌+◌, ◌^◌, ◌<◌, ◌≤◌, List, [], ◌∷◌, ◌++◌, map, length, get_or}
use Rattle.std.proofs.Props.{props}
use Rattle.fort_tables.specs.Tuples.{TupleSymbol, IsTupleSymbol, symbol_kids, kid_presence, tabulate}
use Rattle.fort_tables.specs.Entries.{Entry, entry}
use Rattle.fort_tables.specs.Tables.{Table, IsTableEntry}
use Rattle.fort_tables.specs.StateRanks.{count_of}
use Rattle.fort_classes.specs.Leaders.{Leaders, MayBeKid}
use Rattle.fort_class_blocks.specs.Blocks.{counts_at, target_of}
use Rattle.fort_target_lists.specs.Places.{number_of, AreRanks}
use Rattle.fort_target_lists.specs.Flats.{base_of}
use Rattle.fort_target_lists.specs.declared.class_list.ClassView.{ClassView}
use Rattle.fort_target_lists.specs.declared.class_list.ClassList.{ClassList}

abbrev pub classes_in : ClassView → List ℕ
classes_in v = v.classes.items

abbrev pub leaders_in : ClassView → List ℕ
leaders_in v = v.leaders.items

-- the number of a place's view under the tuple symbol of this number
abbrev pub view_of : ClassList → ℕ → ℕ → ℕ
view_of l number j = get_or l.numbers.items (get_or l.starts.items number 0 + j) 0

-- the number of a place's view
abbrev pub view_at : ClassList → TupleSymbol → ℕ → ℕ
view_at l f j = view_of l (number_of l.base f) j

-- the classes in the view of this number, by rank
abbrev pub view_classes : ClassList → ℕ → List ℕ
view_classes l view = get_or (map classes_in l.views.items) view []

-- the class of a state in the view of this number, found by its rank among the states of its presence
abbrev pub class_in : ClassList → ℕ → ℕ → ℕ
class_in l view q = get_or (view_classes l view) (get_or l.ranks.items q 0) 0

-- the leaders of the classes in the view of this number
abbrev pub view_leaders : ClassList → ℕ → List ℕ
view_leaders l view = get_or (map leaders_in l.views.items) view []

abbrev pub class_at : ClassList → TupleSymbol → ℕ → ℕ → ℕ
class_at l f j q = class_in l (view_at l f j) q

-- the leader of a state in the view of this number
abbrev pub leader_in : ClassList → ℕ → ℕ → ℕ
leader_in l view q = get_or (view_leaders l view) (class_in l view q) 0

-- the leader of a state at a place
abbrev pub lead_of : ClassList → Leaders
lead_of l f j q = leader_in l (view_at l f j) q

-- the classes of an entry's children
abbrev pub kid_classes : ClassList → Entry → List ℕ
kid_classes l e = tabulate (length e.kids) (λ j. class_at l e.symbol j (get_or e.kids j 0))

-- how many classes each place under a tuple symbol has
abbrev pub class_counts : Table → ClassList → TupleSymbol → List ℕ
class_counts body l f = tabulate (symbol_kids body.signature f) (λ j. length (view_leaders l (view_at l f j)))

-- a place has a view
pub record HasView (l : ClassList) (f : TupleSymbol) (j : ℕ) : Type 0 where
  pub number : get_or l.starts.items (number_of l.base f) 0 + j < length l.numbers.items
  pub view : view_at l f j < length l.views.items

-- the state has a class in the view of this number, and the class a leader, which is no later, of that class
pub record IsClassed (l : ClassList) (view q : ℕ) : Type 0 where
  pub rank : get_or l.ranks.items q 0 < length (view_classes l view)
  pub class : class_in l view q < length (view_leaders l view)
  pub least : leader_in l view q ≤ q
  pub own : class_in l view (leader_in l view q) ≡ class_in l view q

-- the state has a class at this place under the tuple symbol of this number
pub record HasClassAt (l : ClassList) (n j q : ℕ) : Type 0 where
  pub start : n < length l.starts.items
  pub place : get_or l.starts.items n 0 + j < length l.numbers.items
  pub state : q < length l.ranks.items
  pub classed : IsClassed l (view_of l n j) q

-- the list has the target of each entry of the table
pub record IsClassListOf (body : Table) (l : ClassList) : Type 0 where
  pub base_is : l.base ≡ base_of body
  pub few : l.base ^ body.columns < 2 ^ 64
  pub starts_all : length l.starts.items ≡ l.base ^ body.columns
  pub blocks_all : length l.blocks ≡ l.base ^ body.columns
  pub ranks_are : AreRanks body.presences l.ranks.items
  pub few_views : length l.views.items ≤ 2 ^ 32
  pub views_are : (f : TupleSymbol) (j : ℕ) → IsTupleSymbol body.signature body.columns f → j < symbol_kids body.signature f → HasView l f j
  pub classes_all : (f : TupleSymbol) (j : ℕ) → IsTupleSymbol body.signature body.columns f → j < symbol_kids body.signature f → length (view_classes l (view_at l f j)) ≡ count_of (kid_presence body.signature f j) body.presences
  pub counts_are : (f : TupleSymbol) → IsTupleSymbol body.signature body.columns f → counts_at l.blocks (number_of l.base f) ≡ class_counts body l f
  pub classed : (f : TupleSymbol) (j q : ℕ) → MayBeKid body.signature body.columns body.presences f j q → IsClassed l (view_at l f j) q
  pub presence_is : (f : TupleSymbol) (j q : ℕ) → MayBeKid body.signature body.columns body.presences f j q → get_or body.presences (lead_of l f j q) 0 ≡ kid_presence body.signature f j
  pub targets_are : (e : Entry) → IsTableEntry body e → target_of l.blocks (number_of l.base e.symbol) (kid_classes l e) ≡ body.target e

-- the list of the table's targets, and the number of a tuple symbol
pub record IsListAt (body : Table) (l : ClassList) (f : TupleSymbol) (n : ℕ) : Type 0 where
  pub list : IsClassListOf body l
  pub symbol : IsTupleSymbol body.signature body.columns f
  pub number : n ≡ number_of (base_of body) f

-- the targets over these first children, by the class of the last child
pub record IsClassRow (body : Table) (l : ClassList) (f : TupleSymbol) (kids row : List ℕ) : Type 0 where
  pub within : (q : ℕ) → MayBeKid body.signature body.columns body.presences f (length kids) q → class_at l f (length kids) q < length row
  pub are : (q : ℕ) → MayBeKid body.signature body.columns body.presences f (length kids) q → get_or row (class_at l f (length kids) q) 0 ≡ body.target (entry f (kids ++ q ∷ []))

pub IsClassListOf-prop : (body : Table) (l : ClassList) → IsProp (IsClassListOf body l)
IsClassListOf-prop body l = hlevel props
