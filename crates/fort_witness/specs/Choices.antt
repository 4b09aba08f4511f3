-- Inside: lists of nodes of given states, and which of them are to have a new node.
use Rattle.std.specs.Prelude.{◌≡◌, ℕ, suc, ◌<◌, ◌≤◌, ◌⊎◌, Bool, true, false, List, [], ◌∷◌, map, length, get_or, Option, None, Some}
use Rattle.std.specs.List.{sum_by}
use Rattle.fort_tables.specs.Entries.{LexBefore}
use Rattle.fort_witness.specs.declared.node_lists.NodeLists.{NodeLists}

abbrev pub lists_of : NodeLists → List (List ℕ)
lists_of r = map (λ v. v.items) r.lists.items

abbrev pub numbers_from : List (List ℕ) → ℕ → List ℕ
numbers_from lists q = get_or lists q []

-- for each state the places where it stands in the list, ascending
pub record AreListed (n : ℕ) (qs : List ℕ) (lists : List (List ℕ)) : Type 0 where
  pub count : length lists ≡ n
  pub total : sum_by (λ (xs : List ℕ). length xs) lists ≡ length qs
  pub rise : (q i j : ℕ) → i < j → j < length (numbers_from lists q)
      → get_or (numbers_from lists q) i 0 < get_or (numbers_from lists q) j 0
  pub are : (q i : ℕ) → i < length (numbers_from lists q)
      → (get_or (numbers_from lists q) i 0 < length qs) × (get_or qs (get_or (numbers_from lists q) i 0) 0 ≡ q)
  pub all : (k : ℕ) → k < length qs → get_or qs k 0 < n
      → (i : ℕ) × (i < length (numbers_from lists (get_or qs k 0))) × (get_or (numbers_from lists (get_or qs k 0)) i 0 ≡ k)

-- each of these states has a list
abbrev pub Knows : List (List ℕ) → List ℕ → Type 0
Knows lists states = (j : ℕ) → j < length states → get_or states j 0 < length lists

-- a node of the state among those from start on and below the end
pub record IsNodeOf (qs : List ℕ) (q start end k : ℕ) : Type 0 where
  pub within : k < length qs
  pub state : get_or qs k 0 ≡ q
  pub from : start ≤ k
  pub below : k < end

abbrev pub IsFirstAt : List ℕ → ℕ → ℕ → ℕ → Option ℕ → Type 0
IsFirstAt qs q start end None = (k : ℕ) → IsNodeOf qs q start end k → ⊥
IsFirstAt qs q start end (Some m) = IsNodeOf qs q start end m × ((k : ℕ) → IsNodeOf qs q start end k → m ≤ k)

-- one of these states has a new node
pub record HasNewOf (qs : List ℕ) (low end : ℕ) (states : List ℕ) : Type 0 where
  pub place : ℕ
  pub within : place < length states
  pub node : ℕ
  pub is : IsNodeOf qs (get_or states place 0) low end node

-- one is new
abbrev pub HasNew : ℕ → List ℕ → Type 0
HasNew low ks = (j : ℕ) × (j < length ks) × (low ≤ get_or ks j 0)

-- nodes of these states below the end, one of them new where that is needed
pub record IsChoice (qs : List ℕ) (low end : ℕ) (states : List ℕ) (need : Bool) (ks : List ℕ) : Type 0 where
  pub count : length ks ≡ length states
  pub nodes : (j : ℕ) → j < length ks → IsNodeOf qs (get_or states j 0) 0 end (get_or ks j 0)
  pub fresh : need ≡ true → HasNew low ks

abbrev pub StartsFrom : ℕ → List ℕ → Type 0
StartsFrom n [] = Unit {0}
StartsFrom n (k ∷ ks) = n ≤ k

-- the first choice whose first node is from a number on, or there is none
abbrev pub IsFirstChoice : List ℕ → ℕ → ℕ → List ℕ → Bool → ℕ → List ℕ → Bool → Type 0
IsFirstChoice qs low end states need from ks true = IsChoice qs low end states need ks × StartsFrom from ks × ((ls : List ℕ) → IsChoice qs low end states need ls → StartsFrom from ls → (ks ≡ ls) ⊎ LexBefore ◌<◌ ks ls)
IsFirstChoice qs low end states need from ks false = (ls : List ℕ) → IsChoice qs low end states need ls → StartsFrom from ls → ⊥

-- the first choice after one, or there is none
abbrev pub IsNextChoice : List ℕ → ℕ → ℕ → List ℕ → Bool → List ℕ → List ℕ → Bool → Type 0
IsNextChoice qs low end states need old ks true = IsChoice qs low end states need ks × LexBefore ◌<◌ old ks × ((ls : List ℕ) → IsChoice qs low end states need ls → LexBefore ◌<◌ old ls → (ks ≡ ls) ⊎ LexBefore ◌<◌ ks ls)
IsNextChoice qs low end states need old ks false = (ls : List ℕ) → IsChoice qs low end states need ls → LexBefore ◌<◌ old ls → ⊥

-- as many lists, and one is one longer
pub record HasOneMore (q : ℕ) (old new : List (List ℕ)) : Type 0 where
  pub count : length new ≡ length old
  pub own : length (numbers_from new q) ≡ suc (length (numbers_from old q))
  pub others : (p : ℕ) → (p ≡ q → ⊥) → numbers_from new p ≡ numbers_from old p
