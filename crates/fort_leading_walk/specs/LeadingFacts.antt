-- Inside: what one step of the search for the next leading entry finds.
use Rattle.std.specs.Prelude.{◌≡◌, ℕ, ◌≤◌, List, [], ◌∷◌, length, filter, Bool, true, false}
use Rattle.fort_theory.specs.Signatures.{Signature}
use Rattle.fort_tables.specs.Entries.{Entry}
use Rattle.fort_classes.specs.Leaders.{Leaders}
use Rattle.fort_entry_walk.specs.WalkPlaces.{AreArities, Place, place, IsPlace}
use Rattle.fort_entry_walk.specs.Walks.{entries_after}
use Rattle.fort_entry_walk.specs.WalkFacts.{later_entries}
use Rattle.fort_entry_walk.specs.declared.walk.Walk.{Walk}
use Rattle.fort_leading_walk.specs.LeaderStates.{all_lead}
use Rattle.fort_leading_walk.specs.LeadingPlaces.{leading_place, leading_entry, StandsAt}
use Rattle.fort_leading_walk.specs.declared.leading.LeadingWalk.{LeadingWalk}

abbrev pub leads : Leaders → Entry → Bool
leads lead e = all_lead lead e.symbol 0 e.kids

-- the leading entries after a place
abbrev pub leading_after : Signature → List ℕ → Leaders → Place → List Entry
leading_after sig ps lead p = filter (leads lead) (entries_after sig ps p)

-- those of this stage after these digits, and of all later stages
abbrev pub later_leading : Signature → List ℕ → Leaders → ℕ → List ℕ → List Entry
later_leading sig ps lead s ds = filter (leads lead) (later_entries sig ps s ds)

-- the walk stands at the first of these leading entries
pub record IsFirstLeading (sig : Signature) (lead : Leaders) (ps : List ℕ) (lists : List (List ℕ)) (among : List Entry) (w : LeadingWalk) : Type 0 where
  pub stands : StandsAt sig lead ps lists w
  pub first : among ≡ leading_entry w ∷ leading_after sig ps lead (leading_place w)

-- the walk went on to the first of these, or there is none
abbrev pub IsStepAmong : Signature → Leaders → List ℕ → List (List ℕ) → List Entry → LeadingWalk → Bool → Type 0
IsStepAmong sig lead ps lists among new true = IsFirstLeading sig lead ps lists among new
IsStepAmong sig lead ps lists among new false = among ≡ []

-- a search that began at one walk's symbol has come to this one's, and none leads between
pub record IsSearching (sig : Signature) (lead : Leaders) (ps : List ℕ) (from w : Walk) : Type 0 where
  pub placed : IsPlace sig (place w)
  pub arities : AreArities sig w.arities
  pub width : length w.digits ≡ length from.digits
  pub within : w.stage ≤ length ps
  pub rest : later_leading sig ps lead w.stage w.digits ≡ later_leading sig ps lead from.stage from.digits
