-- To believe: where a walk through the leading entries stands, and one step of it.
use Rattle.std.specs.Prelude.{◌≡◌, ℕ, ◌-◌, ◌<◌, ◌≤◌, List, [], length, Bool, true, false, Option, None, Some}
use Rattle.fort_theory.specs.Signatures.{Signature}
use Rattle.fort_tables.specs.Entries.{Entry, ComesBefore}
use Rattle.fort_tuple_symbols.specs.Columns.{symbol_of}
use Rattle.fort_classes.specs.Leaders.{Leaders, IsLeading}
use Rattle.fort_classes.specs.Firsts.{IsNextLeading}
use Rattle.fort_entry_walk.specs.WalkPlaces.{AreArities, Place, place, entry_at, IsPlace}
use Rattle.fort_leading_walk.specs.Choices.{IsChoice}
use Rattle.fort_leading_walk.specs.LeaderStates.{leader_states}
use Rattle.fort_leading_walk.specs.declared.choices.Choice.{Choice}
use Rattle.fort_leading_walk.specs.declared.leading.LeadingWalk.{LeadingWalk}

abbrev pub kids_of : Option Choice → List ℕ
kids_of None = []
kids_of (Some c) = c.picks.leaders

-- the child states are the choice's
abbrev pub leading_place : LeadingWalk → Place
leading_place w = record { stage = w.walk.stage; digits = w.walk.digits; kids = kids_of w.choice; wanted = w.walk.wanted }

abbrev pub leading_entry : LeadingWalk → Entry
leading_entry w = entry_at (leading_place w)

-- for each child the states that lead there, up to the newest one of the place's stage
abbrev pub leaders_at : Leaders → List ℕ → Place → List (List ℕ)
leaders_at lead ps p = leader_states lead (symbol_of p.digits) ps (p.stage - 1) 0 p.wanted

-- the walk has this choice of its symbol's leaders, whose lists are these
pub record IsAmongLeaders (lead : Leaders) (ps : List ℕ) (lists : List (List ℕ)) (w : LeadingWalk) (c : Choice) : Type 0 where
  pub some : 0 < w.walk.stage
  pub is : IsChoice (w.walk.stage - 1) lists c
  pub turned : lists ≡ leaders_at lead ps (place w.walk)

-- an entry without children has no choice
abbrev pub IsChosen : Leaders → List ℕ → List (List ℕ) → LeadingWalk → Option Choice → Type 0
IsChosen lead ps lists w None = w.walk.stage ≡ 0
IsChosen lead ps lists w (Some c) = IsAmongLeaders lead ps lists w c

-- the walk stands at a place over states of these presences with these leaders, whose lists are turned to its symbol
pub record StandsAt (sig : Signature) (lead : Leaders) (ps : List ℕ) (lists : List (List ℕ)) (w : LeadingWalk) : Type 0 where
  pub few : length w.walk.digits ≤ 16
  pub arities : AreArities sig w.walk.arities
  pub symbol : IsPlace sig (place w.walk)
  pub is_place : IsPlace sig (leading_place w)
  pub within : w.walk.stage ≤ length ps
  pub chosen : IsChosen lead ps lists w w.choice

-- no leading entry comes after this one
abbrev pub IsLastLeading : Signature → ℕ → List ℕ → Leaders → Entry → Type 0
IsLastLeading sig columns ps lead last = (x : Entry) → IsLeading sig columns ps lead x → ComesBefore last x → ⊥

-- the walk goes to the next leading entry, or there is none and it stays
abbrev pub IsLeadingStep : Signature → ℕ → List ℕ → Leaders → Entry → Entry → Bool → Type 0
IsLeadingStep sig columns ps lead old new true = IsNextLeading sig columns ps lead old new
IsLeadingStep sig columns ps lead old new false = IsLastLeading sig columns ps lead old × (new ≡ old)
