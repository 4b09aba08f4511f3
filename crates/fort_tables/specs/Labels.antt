-- To believe: a labelling gives each optional tuple a list of words, its label; there are more labels than a cap where one more tuple than the cap has labels all different.
use Rattle.std.specs.Prelude.{◌≡◌, ℕ, ◌+◌, ◌<◌, ◌↔◌, List, [], map, length, get_or, Bool, false, ◌==◌, if◌then◌else◌}
use Rattle.fort_theory.specs.Signatures.{Signature}
use Rattle.fort_tables.specs.Tuples.{Tuple, root, kids, presence, IsTuple, IsFull}
use Rattle.fort_tables.specs.Entries.{Entry, IsEntry, AreTuples}
use Rattle.fort_tables.specs.Tables.{Table, full_presence, state_of}

abbrev pub Labelling : Type 0
Labelling = Tuple → List ℕ

abbrev pub first_word : List ℕ → ℕ
first_word w = get_or w 0 0

-- whether all columns are present in the label and it is accepted
abbrev pub final_by : ℕ → (List ℕ → Bool) → List ℕ → Bool
final_by columns accepting w = if first_word w == full_presence columns then accepting w else false

-- the first word of a label is its presence
abbrev pub TellsPresence : Signature → ℕ → Labelling → Type 0
TellsPresence sig columns label = (t : Tuple) → IsTuple sig columns t → first_word (label t) ≡ presence t

-- a label has this many words
abbrev pub HasWidth : Signature → ℕ → Labelling → ℕ → Type 0
HasWidth sig columns label width = (t : Tuple) → IsTuple sig columns t → length (label t) ≡ width

-- the words are the label of some tuple
abbrev pub IsLabel : Signature → ℕ → Labelling → List ℕ → Type 0
IsLabel sig columns label w = (t : Tuple) × IsTuple sig columns t × (label t ≡ w)

-- the words are the label of some tuple without absent columns
abbrev pub IsFullLabel : Signature → ℕ → Labelling → List ℕ → Type 0
IsFullLabel sig columns label w = (t : Tuple) × IsTuple sig columns t × IsFull t × (label t ≡ w)

abbrev pub AreLabels : Signature → ℕ → Labelling → List (List ℕ) → Type 0
AreLabels sig columns label labels = (q : ℕ) → q < length labels → IsLabel sig columns label (get_or labels q [])

-- the words are the label of each tuple with the entry's symbol at its root and with children whose labels are those at the entry's numbers
abbrev pub GivesLabel : Signature → ℕ → Labelling → List (List ℕ) → Entry → List ℕ → Type 0
GivesLabel sig columns label labels e out = (t : Tuple) → IsTuple sig columns t → root t ≡ e.symbol → map label (kids t) ≡ map (λ q. get_or labels q []) e.kids → label t ≡ out

-- an entry over states with these labels, each of which is some tuple's
pub record IsOverLabels (sig : Signature) (columns : ℕ) (label : Labelling) (labels : List (List ℕ)) (e : Entry) : Type 0 where
  pub entry : IsEntry sig columns (map first_word labels) e
  pub are : AreLabels sig columns label labels

-- no two tuples of the list have one label
abbrev pub AreApart : Labelling → List Tuple → Type 0
AreApart label ts = (i j : ℕ) → i < length ts → j < length ts → label (get_or ts i []) ≡ label (get_or ts j []) → i ≡ j

-- this many tuples have labels all different
pub record HaveLabels (sig : Signature) (columns : ℕ) (label : Labelling) (count : ℕ) (ts : List Tuple) : Type 0 where
  pub many : length ts ≡ count
  pub tuples : AreTuples sig columns ts
  pub apart : AreApart label ts

-- more than this many different labels
abbrev pub HasMoreLabels : Signature → ℕ → Labelling → ℕ → Type 0
HasMoreLabels sig columns label cap = (ts : List Tuple) × HaveLabels sig columns label (cap + 1) ts

-- a table of optional tuples by their labels
pub record IsTableOf (sig : Signature) (columns : ℕ) (label : Labelling) (accepting : List ℕ → Bool) (table : Table) : Type 0 where
  pub signature : table.signature ≡ sig
  pub columns_are : table.columns ≡ columns
  -- two tuples have one state exactly where they have one label
  pub same : (t u : Tuple) → IsTuple sig columns t → IsTuple sig columns u → (state_of table t ≡ state_of table u) ↔ (label t ≡ label u)
  -- each state has a tuple, and each tuple a state
  pub reached : (q : ℕ) → q < length table.presences → (t : Tuple) × IsTuple sig columns t × (state_of table t ≡ q)
  pub state : (t : Tuple) → IsTuple sig columns t → state_of table t < length table.presences
  -- a tuple of terms is accepted exactly where its label is, and no other tuple is
  pub full : (t : Tuple) → IsTuple sig columns t → IsFull t → table.accepting (state_of table t) ≡ accepting (label t)
  pub partial : (t : Tuple) → IsTuple sig columns t → (IsFull t → ⊥) → table.accepting (state_of table t) ≡ false
