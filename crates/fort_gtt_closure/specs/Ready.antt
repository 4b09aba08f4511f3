-- Inside: each pair that is due waits for its visit.
use Rattle.std.specs.Prelude.{◌≡◌, ◌↔◌, ◌⊎◌, ℕ, ◌+◌, ◌*◌, ◌<◌, List, Contains, true}
use Rattle.fort_transducers.specs.AgttView.{NamesItsStates}
use Rattle.fort_transducers.specs.declared.agtt.Agtt.{Agtt}
use Rattle.fort_gtt_closure.specs.declared.agenda.Agenda.{Agenda}
use Rattle.fort_gtt_closure.specs.declared.entry.Entry.{Entry}
use Rattle.fort_gtt_closure.specs.declared.links.Links.{Links}
use Rattle.fort_gtt_closure.specs.declared.marks.Shape.{Shape}
use Rattle.fort_gtt_closure.specs.declared.passes.PairListing.{PairListing}
use Rattle.fort_gtt_closure.specs.declared.reasons.Inhabited.{Inhabited}
use Rattle.fort_gtt_closure.specs.Grids.{is_listed}
use Rattle.fort_gtt_closure.specs.Groups.{group}
use Rattle.fort_gtt_closure.specs.Links.{Leads}
use Rattle.fort_gtt_closure.specs.Marks.{IsMarked, IsSet, KeepsSet}
use Rattle.fort_gtt_closure.specs.Passes.{IsDue}
use Rattle.fort_gtt_closure.specs.Progress.{MarksBoth}
use Rattle.fort_gtt_closure.specs.Reasons.{IsListed, IsNumbered}

pub record IsGiven (agtt : Agtt) (inhabited : Inhabited) (links : Links) : Type 0 where
  pub named : NamesItsStates agtt
  pub numbered : IsNumbered agtt
  pub marked : MarksBoth agtt inhabited
  pub leads : Leads agtt links

abbrev pub Waits : Agenda → ℕ → ℕ → Type 0
Waits agenda p q = IsSet agenda.waiting.items (p * agenda.shape.width + q)

-- from p through a pair to the right state b
abbrev pub LeadsThrough : Agenda → ℕ → ℕ → Type 0
LeadsThrough agenda p b = IsSet agenda.through.items (p * agenda.shape.height + b)

-- a pair of the transducer leads from a left state that is listed with p to the right state b
abbrev pub GoesThrough : Agtt → List Entry → ℕ → ℕ → Type 0
GoesThrough agtt es p b = (a : ℕ) × Contains agtt.pairs.items (a, b) × IsListed es p a

pub record IsAwake (agtt : Agtt) (es : List Entry) (agenda : Agenda) : Type 0 where
  pub height : agenda.shape.height ≡ agtt.right.states
  pub width : agenda.shape.width ≡ agtt.left.states
  pub due : (p q : ℕ) → IsDue agtt es p q → Waits agenda p q
  pub through : (p b : ℕ) → p < agtt.right.states → b < agtt.right.states → LeadsThrough agenda p b ↔ GoesThrough agtt es p b

pub record IsReady (agtt : Agtt) (listing : PairListing) : Type 0 where
  pub height : listing.grid.height ≡ agtt.right.states
  pub width : listing.grid.width ≡ agtt.left.states
  pub awake : IsAwake agtt listing.grid.entries.items listing.agenda

-- the right state p leads through another one that it led through before, or all that is listed with that one waits
abbrev pub HasRow : Shape → List Entry → ℕ → Agenda → Agenda → ℕ → Type 0
HasRow shape es p start now b = LeadsThrough start p b ⊎ ((y : ℕ) → is_listed es b y ≡ true → IsMarked shape now.waiting.items p y)

pub record Passed (shape : Shape) (es : List Entry) (p : ℕ) (start now : Agenda) (pairs : List (ℕ × ℕ)) : Type 0 where
  pub shape_same : now.shape ≡ shape
  pub kept : KeepsSet start.waiting.items now.waiting.items
  pub through : (x b : ℕ) → x < shape.height → b < shape.height → LeadsThrough now x b ↔ (LeadsThrough start x b ⊎ ((x ≡ p) × (a : ℕ) × Contains pairs (a, b)))
  pub rows : (pair : ℕ × ℕ) → Contains pairs pair → pair.1 < shape.height → HasRow shape es p start now pair.1

-- what may have come to follow by the pair of p and q waits
pub record Wakes (links : Links) (es : List Entry) (p q : ℕ) (old new : Agenda) : Type 0 where
  pub shape : new.shape ≡ old.shape
  pub kept : KeepsSet old.waiting.items new.waiting.items
  pub met : (right : ℕ × ℕ) → Contains (group links.right_uses p) right → (left : ℕ × ℕ) → Contains (group links.left_uses q) left → right.0 ≡ left.0
      → IsMarked new.shape new.waiting.items right.1 left.1
  pub right_silent : (step : ℕ × ℕ) → Contains (group links.right_silent p) step → IsMarked new.shape new.waiting.items step.1 q
  pub left_silent : (step : ℕ × ℕ) → Contains (group links.left_silent q) step → IsMarked new.shape new.waiting.items p step.1
  pub through : (x b : ℕ) → x < old.shape.height → b < old.shape.height
      → LeadsThrough new x b ↔ (LeadsThrough old x b ⊎ ((x ≡ p) × (a : ℕ) × Contains (group links.pairs q) (a, b)))
  pub rows : (pair : ℕ × ℕ) → Contains (group links.pairs q) pair → pair.1 < old.shape.height
      → LeadsThrough old p pair.1 ⊎ ((y : ℕ) → is_listed es pair.1 y ≡ true → IsMarked new.shape new.waiting.items p y)
  pub back : (x : ℕ) → x < old.shape.height → LeadsThrough new x p → IsMarked new.shape new.waiting.items x q
