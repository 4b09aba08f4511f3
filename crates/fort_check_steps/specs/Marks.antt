-- Inside: room for the check of marks; what is known of each mark after some entries were seen.
use Rattle.std.specs.Prelude.{◌≡◌, ℕ, ◌^◌, ◌<◌, ◌≤◌, List, [], ◌∷◌, length, get_or, Contains, nat_lt, Bool, true, false, not, ◌&&◌, ◌||◌, ◌==◌, if◌then◌else◌, vec_capacity}
use Rattle.std.specs.List.{list_any}
use Rattle.fort_tables.specs.Tuples.{presence}
use Rattle.fort_tables.specs.Entries.{Entry, no_entry}
use Rattle.fort_tables.specs.Tables.{Listed}
use Rattle.fort_tables.specs.Counts.{Count, Finite, Infinite, is_infinite, IsFiniteBelow, count_at}
use Rattle.fort_certificate_theory.specs.Outcomes.{Reason, Rank, Cycle}
use Rattle.fort_check_steps.specs.declared.marks.MarkRoom.{MarkRoom}

-- for pure states of so many states, and so many marks
pub record HasMarkRoom (states marks : ℕ) (r : MarkRoom) : Type 0 where
  pub pure : states ≤ vec_capacity r.states
  pub holds : marks ≤ vec_capacity r.holds

abbrev pub mark_in : List Count → ℕ → Count
mark_in marks i = get_or marks i (Finite 0)

abbrev pub is_below : Count → ℕ → Bool
is_below (Finite s) r = nat_lt s r
is_below (Infinite p) r = false

-- whether all are marked finite with a number below r
abbrev pub are_below : (ℕ → Count) → ℕ → List ℕ → Bool
are_below mark r [] = true
are_below mark r (k ∷ ks) = is_below (mark k) r && are_below mark r ks

-- what an entry that gives the state, with these children, makes of what is held of its mark
abbrev pub held_next : (ℕ → Count) → Count → List ℕ → Bool → Bool
held_next mark (Finite r) ks held = held && are_below mark r ks
held_next mark (Infinite p) ks held = held || list_any (λ k. k == p) ks

-- the same of any entry with its target
abbrev pub entry_next : (ℕ → Count) → (c q : ℕ) → Count → Entry → (target : ℕ) → Bool → Bool
entry_next mark c q m e target held =
    if (presence e.symbol == 2 ^ c) && (target == q) then held_next mark m e.kids held else held

-- a finite mark is held until something speaks against it, an infinite one isn't until something speaks for it
abbrev pub starts : Count → Bool
starts mark = not (is_infinite mark)

-- the entry at this place has column c alone present, and gives q
pub record IsGiver (t : Listed) (c q k : ℕ) : Type 0 where
  pub within : k < length t.entries
  pub alone : presence (get_or t.entries k (no_entry 0)).symbol ≡ 2 ^ c
  pub gives : get_or t.targets k 0 ≡ q

abbrev pub kids_at : Listed → ℕ → List ℕ
kids_at t k = (get_or t.entries k (no_entry 0)).kids

-- an entry that gives q has a child that isn't finite below r
pub record IsAgainst (t : Listed) (mark : ℕ → Count) (c q r : ℕ) : Type 0 where
  pub place : ℕ
  pub child : ℕ
  pub giver : IsGiver t c q place
  pub among : Contains (kids_at t place) child
  pub not_below : IsFiniteBelow mark r child → ⊥

-- what is held of the mark of q after n entries
abbrev pub IsSeen : Listed → (ℕ → Count) → (c n q : ℕ) → Count → Bool → Type 0
IsSeen t mark c n q (Finite r) true = (k j : ℕ) → k < n → IsGiver t c q k → Contains (kids_at t k) j → IsFiniteBelow mark r j
IsSeen t mark c n q (Finite r) false = IsAgainst t mark c q r
IsSeen t mark c n q (Infinite p) true = (k : ℕ) × IsGiver t c q k × Contains (kids_at t k) p
IsSeen t mark c n q (Infinite p) false = (k : ℕ) → k < n → IsGiver t c q k → Contains (kids_at t k) p → ⊥

pub record IsSeenTo (t : Listed) (c : ℕ) (states : List ℕ) (marks : List Count) (n : ℕ) (holds : List Bool) : Type 0 where
  pub count : length holds ≡ length states
  pub each : (i : ℕ) → i < length states → IsSeen t (count_at states marks) c n (get_or states i 0) (mark_in marks i) (get_or holds i false)

-- whether a mark is right, by what is held of it
abbrev pub mark_test : (ℕ → Count) → Count → Bool → Bool
mark_test mark (Finite r) held = held
mark_test mark (Infinite p) held = held && is_infinite (mark p)

abbrev pub right_at : List ℕ → List Count → List Bool → ℕ → Bool
right_at states marks holds i = mark_test (count_at states marks) (mark_in marks i) (get_or holds i false)

pub record IsFirstWrong (states : List ℕ) (marks : List Count) (holds : List Bool) (i : ℕ) : Type 0 where
  pub within : i < length marks
  pub wrong : right_at states marks holds i ≡ false
  pub before : (j : ℕ) → j < i → right_at states marks holds j ≡ true

abbrev pub AreAllHeld : List ℕ → List Count → List Bool → Type 0
AreAllHeld states marks holds = (i : ℕ) → i < length marks → right_at states marks holds i ≡ true

abbrev pub wrong_reason : Count → Reason
wrong_reason (Finite r) = Rank
wrong_reason (Infinite p) = Cycle
