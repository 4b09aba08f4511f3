-- To believe: a view has, of the states of its presence before one, the leaders by their keys, and for each state the place of its leader among them.
use Rattle.std.specs.Prelude.{◌≡◌, ℕ, ◌<◌, ◌≤◌, ◌⊎◌, List, [], ◌∷◌, ◌++◌, map, filter, length, get_or, Bool, ◌==◌}
use Rattle.fort_tables.specs.Tuples.{TupleSymbol}
use Rattle.fort_tables.specs.Labels.{first_word}
use Rattle.fort_classes.specs.Keys.{leaders_by}
use Rattle.fort_entry_walk.specs.Walks.{states_with}
use Rattle.fort_views.specs.declared.view.View.{View}

-- what some place asks
abbrev pub IsAsked : (TupleSymbol → ℕ → List ℕ) → View → Type 0
IsAsked view v = (f : TupleSymbol) × (j : ℕ) × (v.words.items ≡ view f j)

-- the first state with the presence and the key of this one, at any place that asks this
abbrev pub leader_in : (List ℕ → List ℕ → List ℕ) → List ℕ → List (List ℕ) → ℕ → ℕ
leader_in key words labels q = leaders_by (λ f j label. key words label) labels [] 0 q

abbrev pub leads_in : (List ℕ → List ℕ → List ℕ) → List ℕ → List (List ℕ) → ℕ → Bool
leads_in key words labels q = leader_in key words labels q == q

-- the states of the presence before this one
abbrev pub view_states : List (List ℕ) → ℕ → ℕ → List ℕ
view_states labels presence until = states_with (map first_word labels) presence 0 until

-- those of them that lead
abbrev pub view_leaders : (List ℕ → List ℕ → List ℕ) → List ℕ → List (List ℕ) → ℕ → ℕ → List ℕ
view_leaders key words labels presence until = filter (leads_in key words labels) (view_states labels presence until)

-- the class is that of this leader
pub record IsClassOf (leaders : List ℕ) (leader class : ℕ) : Type 0 where
  pub within : class < length leaders
  pub leads : get_or leaders class 0 ≡ leader

-- each of the states has its leader's class
pub record HaveClasses (leaders : List ℕ) (lead : ℕ → ℕ) (states classes : List ℕ) : Type 0 where
  pub count : length classes ≡ length states
  pub each : (i : ℕ) → i < length states → IsClassOf leaders (lead (get_or states i 0)) (get_or classes i 0)

pub record AreClasses (key : List ℕ → List ℕ → List ℕ) (words : List ℕ) (labels : List (List ℕ)) (presence until : ℕ) (keys : List (List ℕ)) (leaders classes : List ℕ) : Type 0 where
  pub within : until ≤ length labels
  pub leaders_are : leaders ≡ view_leaders key words labels presence until
  pub keys_are : keys ≡ map (λ q. key words (get_or labels q [])) leaders
  pub have : HaveClasses leaders (leader_in key words labels) (view_states labels presence until) classes

-- the view has taken up the states with these labels before the one that it tells
abbrev pub IsViewOf : (List ℕ → List ℕ → List ℕ) → List (List ℕ) → View → Type 0
IsViewOf key labels v = AreClasses key v.words.items labels v.presence v.until v.keys v.leaders.items v.classes.items

-- of the same presence, and by what the same words ask
pub record HasSameSight (old new : View) : Type 0 where
  pub presence : new.presence ≡ old.presence
  pub words : new.words.items ≡ old.words.items

-- the class that has the key
pub record IsOldClass (old new : View) (key : List ℕ) (class : ℕ) : Type 0 where
  pub within : class < length old.leaders.items
  pub has : get_or old.keys class [] ≡ key
  pub keys : new.keys ≡ old.keys
  pub leaders : new.leaders.items ≡ old.leaders.items

-- a class that the state opens, since none has the key
pub record IsNewClass (old new : View) (key : List ℕ) (state class : ℕ) : Type 0 where
  pub absent : (i : ℕ) → i < length old.keys → get_or old.keys i [] ≡ key → ⊥
  pub last : class ≡ length old.leaders.items
  pub keys : new.keys ≡ old.keys ++ key ∷ []
  pub leaders : new.leaders.items ≡ old.leaders.items ++ state ∷ []

abbrev pub GivesClass : View → View → List ℕ → ℕ → ℕ → Type 0
GivesClass old new key state class = IsOldClass old new key class ⊎ IsNewClass old new key state class
