-- Inside: what the labels of a product's entries are found by, for one tuple symbol.
use Rattle.std.specs.Prelude.{◌≡◌, ℕ, zero, suc, ◌+◌, ◌<◌, List, [], ◌∷◌, length, get_or, Option, None, Some, true}
use Rattle.fort_tables.specs.Tuples.{TupleSymbol, presence}
use Rattle.fort_tables.specs.Tables.{Table, IsTable}
use Rattle.fort_tables.specs.Selections.{selected, is_present}
use Rattle.fort_tables.specs.Products.{Operand, OfTable, OfTruth, operand_step}
use Rattle.fort_target_lists.specs.LabelLists.{labels_at}
use Rattle.fort_target_lists.specs.Places.{number_of, place_from, is_state_in}
use Rattle.fort_target_lists.specs.Flats.{IsFlatOf}
use Rattle.fort_target_lists.specs.declared.flat.FlatTargets.{FlatTargets}
use Rattle.fort_products.specs.declared.joint.Under.{Under}
use Rattle.fort_products.specs.declared.joint.Joint.{Joint}

-- the list is the table's, which has some of the tuple symbol's columns; its targets under these start there
pub record IsListUnder (table : Table) (places : List ℕ) (i : ℕ) (f : TupleSymbol) (u : Under) (list : FlatTargets) : Type 0 where
  pub lawful : IsTable table
  pub list_is : IsFlatOf table list
  pub there : is_present (selected places f) ≡ true
  pub start_is : u.start ≡ get_or list.listing.starts.items (number_of list.base (selected places f)) 0
  pub at_is : u.at ≡ i

-- the operand's words under the tuple symbol: by the list, where there is one; else each is 0
abbrev pub FindsWord : {A : Type 0} → Option A → (A → FlatTargets) → Operand → ℕ → TupleSymbol → Under → Type 0
FindsWord None now o i f u = (ws : List (List ℕ)) → operand_step i o f ws ≡ 0
FindsWord (Some l) now (OfTable table places) i f u = IsListUnder table places i f u (now l)
FindsWord (Some l) now (OfTruth b) i f u = ⊥

-- the same, where the operand's words are word i of the labels
abbrev pub IsUnderOf : Operand → ℕ → TupleSymbol → Under → Type 0
IsUnderOf o i f u = FindsWord u.list (λ l. l.now) o i f u

-- the labels of the entries of one tuple symbol of a product
pub record IsJointOf (first second : Operand) (f : TupleSymbol) (j : Joint) : Type 0 where
  pub presence_is : j.presence ≡ presence f
  pub first_is : IsUnderOf first 1 f j.first
  pub second_is : IsUnderOf second 2 f j.second

-- one state more in front, by its word; where that is 0, no state follows
abbrev pub states_behind : ℕ → List ℕ → List ℕ
states_behind zero qs = []
states_behind (suc q) qs = q ∷ qs

-- the states that word i of these labels tells, up to the first label in which it is 0
abbrev pub states_told : ℕ → List (List ℕ) → List ℕ
states_told i [] = []
states_told i (w ∷ ws) = states_behind (get_or w i 0) (states_told i ws)

-- the states of the operand that the children's labels tell
abbrev pub states_under : Under → List (List ℕ) → List ℕ → List ℕ
states_under u labels kids = states_told u.at (labels_at labels kids)

-- where their target stands among those of the tuple symbol
abbrev pub place_under : FlatTargets → List ℕ → ℕ
place_under list states = place_from list.spots.ranks.items list.spots.alike.items 0 states

-- a child's label has word i
pub record HasWordAt (i : ℕ) (labels : List (List ℕ)) (q : ℕ) : Type 0 where
  pub label : q < length labels
  pub word : i < length (get_or labels q [])

-- the list has the state's rank, and some state is of its presence
pub record IsKnown (list : FlatTargets) (q : ℕ) : Type 0 where
  pub state : is_state_in list.spots q
  pub some : 0 < get_or list.spots.alike.items q 0

abbrev pub AreKnown : FlatTargets → List ℕ → Type 0
AreKnown list qs = (i : ℕ) → i < length qs → IsKnown list (get_or qs i 0)

-- each child's label has the operand's word; the list knows the states that they tell, and has the target there
pub record AreStatesUnder (list : FlatTargets) (u : Under) (labels : List (List ℕ)) (kids : List ℕ) : Type 0 where
  pub words : (j : ℕ) → j < length kids → HasWordAt u.at labels (get_or kids j 0)
  pub known : AreKnown list (states_under u labels kids)
  pub within : u.start + place_under list (states_under u labels kids) < length list.listing.targets.items

-- the word can be read: by the list, where there is one
abbrev pub IsWordIn : {A : Type 0} → Option A → (A → FlatTargets) → Under → List (List ℕ) → List ℕ → Type 0
IsWordIn None now u labels kids = Unit {0}
IsWordIn (Some l) now u labels kids = AreStatesUnder (now l) u labels kids

abbrev pub IsWordThere : Under → List (List ℕ) → List ℕ → Type 0
IsWordThere u labels kids = IsWordIn u.list (λ l. l.now) u labels kids

-- the word that is read: 0 where there is no list
abbrev pub word_in : {A : Type 0} → Option A → (A → FlatTargets) → ℕ → List ℕ → ℕ
word_in None now start states = 0
word_in (Some l) now start states = suc (get_or (now l).listing.targets.items (start + place_under (now l) states) 0)

abbrev pub word_under : Under → List (List ℕ) → List ℕ → ℕ
word_under u labels kids = word_in u.list (λ l. l.now) u.start (states_under u labels kids)
