-- Inside: what one step of the search for the next entry finds.
use Rattle.std.specs.Prelude.{◌≡◌, ℕ, ◌+◌, ◌-◌, ◌<◌, ◌≤◌, List, [], ◌∷◌, ◌++◌, map, length, Option, None, Some}
use Rattle.fort_theory.specs.Signatures.{Signature}
use Rattle.fort_tables.specs.Entries.{Entry, entry, stage}
use Rattle.fort_tuple_symbols.specs.Columns.{symbol_of}
use Rattle.fort_tuple_symbols.specs.DigitNumbers.{AreUpTo}
use Rattle.fort_entry_walk.specs.WalkPlaces.{Place, wants, place, entry_at, IsPlace}
use Rattle.fort_entry_walk.specs.Walks.{digits_after, entries_after, stage_kids, stage_kids_after, stage_entries, stages}
use Rattle.fort_entry_walk.specs.declared.walk.Walk.{Walk}

-- the entries of the stage after this symbol and these kids
abbrev pub in_stage_after : Signature → List ℕ → ℕ → List ℕ → List ℕ → List Entry
in_stage_after sig ps s ds ks = map (entry (symbol_of ds)) (stage_kids_after ps s (wants sig (symbol_of ds)) ks) ++ stage_entries sig ps s (digits_after (length sig) ds)

-- a walk's place with the first entry of the stage after these digits, the first one of its symbol
pub record IsInStage (sig : Signature) (ps : List ℕ) (s : ℕ) (from : List ℕ) (p : Place) : Type 0 where
  pub placed : IsPlace sig p
  pub at_stage : p.stage ≡ s
  pub width : length p.digits ≡ length from
  pub first : stage_kids ps p.stage p.wanted ≡ p.kids ∷ stage_kids_after ps p.stage p.wanted p.kids
  pub next : stage_entries sig ps s (digits_after (length sig) from) ≡ entry_at p ∷ in_stage_after sig ps s p.digits p.kids

-- a walk that didn't go on, but for its digits
pub record IsSameButDigits (old new : Walk) : Type 0 where
  pub stage : new.stage ≡ old.stage
  pub kids : new.kids ≡ old.kids
  pub wanted : new.wanted ≡ old.wanted

-- a place whose entry is the only one of its symbol at its stage
pub record IsAlone (ps : List ℕ) (p : Place) : Type 0 where
  pub within : p.stage ≤ length ps
  pub only : stage_kids ps p.stage p.wanted ≡ p.kids ∷ []
  pub last : stage_kids_after ps p.stage p.wanted p.kids ≡ []

-- a walk that only raised its last digit, at an entry that is alone, where neither digit has arguments
pub record IsRaised (ps : List ℕ) (old new : Walk) : Type 0 where
  pub others : List ℕ
  pub last : ℕ
  pub before : old.digits ≡ others ++ last ∷ []
  pub after : new.digits ≡ others ++ (last + 1) ∷ []
  pub flat : last + 1 < old.arities.flat
  pub alone : IsAlone ps (place old)
  pub same : IsSameButDigits old new
  pub arities : new.arities ≡ old.arities

-- a walk that only went on to its symbol's next list of child states
pub record IsNextKids (ps : List ℕ) (old new : Walk) : Type 0 where
  pub within : old.stage ≤ length ps
  pub at_stage : stage new.kids ≡ old.stage
  pub states : AreUpTo (old.stage - 1) new.kids
  pub next : stage_kids_after ps old.stage old.wanted old.kids ≡ new.kids ∷ stage_kids_after ps old.stage old.wanted new.kids
  pub stays : new.stage ≡ old.stage
  pub digits : new.digits ≡ old.digits
  pub wanted : new.wanted ≡ old.wanted
  pub arities : new.arities ≡ old.arities

-- a place whose child states are its symbol's last ones at its stage
abbrev pub IsLastKids : List ℕ → Place → Type 0
IsLastKids ps p = p.stage ≤ length ps → stage_kids_after ps p.stage p.wanted p.kids ≡ []

abbrev pub IsNextInStage : Signature → List ℕ → ℕ → List ℕ → Option Walk → Type 0
IsNextInStage sig ps s from None = stage_entries sig ps s (digits_after (length sig) from) ≡ []
IsNextInStage sig ps s from (Some w) = IsInStage sig ps s from (place w)

-- the entries of this stage after these digits, and of all later stages
abbrev pub later_entries : Signature → List ℕ → ℕ → List ℕ → List Entry
later_entries sig ps s ds = stage_entries sig ps s (digits_after (length sig) ds) ++ stages sig (length ds) ps (s + 1) (length ps - s)

-- a place with the first of these later entries, the first one of its symbol
pub record IsFound (sig : Signature) (ps : List ℕ) (s : ℕ) (ds : List ℕ) (p : Place) : Type 0 where
  pub placed : IsPlace sig p
  pub within : p.stage ≤ length ps
  pub width : length p.digits ≡ length ds
  pub first : stage_kids ps p.stage p.wanted ≡ p.kids ∷ stage_kids_after ps p.stage p.wanted p.kids
  pub next : later_entries sig ps s ds ≡ entry_at p ∷ entries_after sig ps p

abbrev pub IsFirstAfter : Signature → List ℕ → ℕ → List ℕ → Option Walk → Type 0
IsFirstAfter sig ps s ds None = later_entries sig ps s ds ≡ []
IsFirstAfter sig ps s ds (Some w) = IsFound sig ps s ds (place w)
