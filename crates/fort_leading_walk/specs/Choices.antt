-- Inside: the lists of child states, one of each place's list, in which the newest state occurs, in order.
use Rattle.std.specs.Prelude.{◌≡◌, ℕ, ◌+◌, ◌-◌, ◌<◌, ◌≤◌, if◌then◌else◌, List, [], ◌∷◌, ◌++◌, map, length, drop, get_or, Bool, true, false, ◌||◌, ◌==◌, nat_lt, Option, None, Some}
use Rattle.std.specs.List.{flat_map, list_any}
use Rattle.fort_leading_walk.specs.Picked.{Picked}
use Rattle.fort_leading_walk.specs.declared.choices.Choice.{Choice}

-- one state of each list, the newest among them, or any where it has been, from left to right
abbrev pub choices : ℕ → List (List ℕ) → Bool → List (List ℕ)
choices newest [] true = [] ∷ []
choices newest [] false = []
choices newest (qs ∷ rest) has_newest = flat_map (λ q. map (λ ks. q ∷ ks) (choices newest rest (has_newest || (q == newest)))) qs

-- those whose first state is among these
abbrev pub choices_from : ℕ → List (List ℕ) → Bool → List ℕ → List (List ℕ)
choices_from newest rest has_newest qs = flat_map (λ q. map (λ ks. q ∷ ks) (choices newest rest (has_newest || (q == newest)))) qs

-- the states that stand in the lists at these indices
abbrev pub chosen : List (List ℕ) → List ℕ → List ℕ
chosen [] is = []
chosen (qs ∷ rest) [] = []
chosen (qs ∷ rest) (i ∷ is) = get_or qs i 0 ∷ chosen rest is

-- the choices after the one at these indices
abbrev pub choices_after : ℕ → List (List ℕ) → Bool → List ℕ → List (List ℕ)
choices_after newest [] has_newest is = []
choices_after newest (qs ∷ rest) has_newest [] = []
choices_after newest (qs ∷ rest) has_newest (i ∷ is) =
    map (λ ks. get_or qs i 0 ∷ ks) (choices_after newest rest (has_newest || (get_or qs i 0 == newest)) is)
    ++ choices_from newest rest has_newest (drop (i + 1) qs)

-- an index within each list
abbrev pub AreIn : List (List ℕ) → List ℕ → Type 0
AreIn [] [] = Unit {0}
AreIn [] (i ∷ is) = ⊥
AreIn (qs ∷ rest) [] = ⊥
AreIn (qs ∷ rest) (i ∷ is) = (i < length qs) × AreIn rest is

-- where the newest state is in the list, it is the last one
abbrev pub IsLastIn : ℕ → List ℕ → Type 0
IsLastIn newest qs = (k : ℕ) → k + 1 < length qs → get_or qs k 0 ≡ newest → ⊥

abbrev pub IsLastInEach : ℕ → List (List ℕ) → Type 0
IsLastInEach newest lists = (j : ℕ) → j < length lists → IsLastIn newest (get_or lists j [])

abbrev pub HasEach : List (List ℕ) → Type 0
HasEach lists = (j : ℕ) → j < length lists → 0 < length (get_or lists j [])

abbrev pub is_among : ℕ → List ℕ → Bool
is_among newest qs = list_any (λ q. q == newest) qs

-- whether the newest state is in one of the lists
abbrev pub is_in_some : ℕ → List (List ℕ) → Bool
is_in_some newest lists = list_any (is_among newest) lists

-- from each place before this one on the newest state is still in some list, and from no later one
abbrev pub IsUntil : ℕ → List (List ℕ) → ℕ → Type 0
IsUntil newest lists until = (j : ℕ) → is_in_some newest (drop j lists) ≡ nat_lt j until

-- at most eight places, each with a leader
pub record AreLeaderLists (newest : ℕ) (lists : List (List ℕ)) (until : ℕ) : Type 0 where
  pub few : length lists ≤ 8
  pub some : HasEach lists
  pub last : IsLastInEach newest lists
  pub ends : IsUntil newest lists until

-- where the newest state has to be chosen here, no leader but the last one is tried
abbrev pub first_tried : Bool → ℕ → ℕ → ℕ
first_tried may_come from count = if may_come then from else count - 1

-- the first of these choices, where the others come after it
pub record IsFirstPicked (newest : ℕ) (lists : List (List ℕ)) (has_newest : Bool) (among : List (List ℕ)) (is ks : List ℕ) : Type 0 where
  pub within : AreIn lists is
  pub leaders : ks ≡ chosen lists is
  pub first : among ≡ ks ∷ choices_after newest lists has_newest is

-- whether there is a choice among these, and then it is the first one
abbrev pub GivesPicked : ℕ → List (List ℕ) → Bool → List (List ℕ) → Option Picked → Type 0
GivesPicked newest lists has_newest among None = among ≡ []
GivesPicked newest lists has_newest among (Some p) = IsFirstPicked newest lists has_newest among p.indices p.leaders

pub record IsChoice (newest : ℕ) (lists : List (List ℕ)) (c : Choice) : Type 0 where
  pub within : AreIn lists c.picks.indices
  pub leaders : c.picks.leaders ≡ chosen lists c.picks.indices
  pub until : IsUntil newest lists c.until

pub record IsFirstChoice (newest : ℕ) (lists among : List (List ℕ)) (c : Choice) : Type 0 where
  pub is : IsChoice newest lists c
  pub first : among ≡ c.picks.leaders ∷ choices_after newest lists false c.picks.indices

-- whether there is a choice among these, and then it is the first one
abbrev pub GivesChoice : ℕ → List (List ℕ) → List (List ℕ) → Option Choice → Type 0
GivesChoice newest lists among None = among ≡ []
GivesChoice newest lists among (Some c) = IsFirstChoice newest lists among c
