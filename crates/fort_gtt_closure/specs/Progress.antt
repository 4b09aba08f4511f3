-- Inside: how far passes over all pairs have come.
use Rattle.std.specs.Prelude.{◌≡◌, ◌⊎◌, ℕ, ◌<◌, ◌≤◌, List, [], ◌∷◌, ◌++◌, length, take, Some, slice_get}
use Rattle.fort_tree_automata.specs.InhabitedStates.{MarksInhabited}
use Rattle.fort_transducers.specs.declared.agtt.Agtt.{Agtt}
use Rattle.fort_gtt_closure.specs.declared.entry.Entry.{Entry}
use Rattle.fort_gtt_closure.specs.declared.entry.Why.{Why}
use Rattle.fort_gtt_closure.specs.declared.reasons.Inhabited.{Inhabited}
use Rattle.fort_gtt_closure.specs.Reasons.{IsListed, IsFirstReason}
use Rattle.fort_gtt_closure.specs.Passes.{IsDue, IsNext, IsPassed, last_number, number}

pub record MarksBoth (agtt : Agtt) (inhabited : Inhabited) : Type 0 where
  pub left : MarksInhabited agtt.left inhabited.left.items
  pub right : MarksInhabited agtt.right inhabited.right.items
  pub left_count : length inhabited.left.items ≡ agtt.left.states
  pub right_count : length inhabited.right.items ≡ agtt.right.states

-- the pair wasn't due, or it is listed with its first reason
abbrev pub IsVisited : Agtt → ℕ → ℕ → List Entry → List Entry → Type 0
IsVisited agtt p q old new =
    ((new ≡ old) × (IsDue agtt old p q → ⊥))
    ⊎ ((why : Why) × (IsListed old p q → ⊥) × IsFirstReason agtt old p q why × (new ≡ old ++ record { p = p; q = q; why = why } ∷ []))

-- before the pair with number n is visited, in a pass that began with the list start
pub record Progress (agtt : Agtt) (start es : List Entry) (n : ℕ) : Type 0 where
  pub each : (k : ℕ) (e : Entry) → slice_get es k ≡ Some e → IsNext agtt (take k es) e
  pub passed : (p q : ℕ) → IsDue agtt es p q → IsPassed (last_number agtt es) n (number agtt p q) → ⊥
  pub grown : length start ≤ length es
  -- as long as nothing was listed in this pass, no pair so far was due
  pub still : length es ≡ length start → (p q : ℕ) → IsDue agtt es p q → number agtt p q < n → ⊥
