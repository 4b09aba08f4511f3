-- Inside: how the entries, targets and states of a table in the making grow.
use Rattle.std.specs.Prelude.{◌≡◌, ℕ, ◌<◌, ◌⊎◌, List, [], ◌∷◌, ◌++◌, length, get_or, Contains, Bool, true, false, ◌==◌, if◌then◌else◌}
use Rattle.fort_theory.specs.Signatures.{Signature}
use Rattle.fort_tables.specs.Tuples.{presence}
use Rattle.fort_tables.specs.Entries.{Entry, IsEntry, ComesBefore, AreInOrder}
use Rattle.fort_tables.specs.Tables.{Made, IsComplete}

-- states with the places of their first entries, and entries with their targets
pub record Parts : Type 0 where
  pub presences : List ℕ
  pub firsts : List ℕ
  pub entries : List Entry
  pub targets : List ℕ

abbrev pub made_of : Signature → ℕ → Parts → Made
made_of sig columns g = record { signature = sig; columns = columns; presences = g.presences; entries = g.entries; targets = g.targets }

pub record IsPushed (old : Parts) (e : Entry) (target : ℕ) (new : Parts) : Type 0 where
  pub presences : new.presences ≡ (if target == length old.presences then old.presences ++ presence e.symbol ∷ [] else old.presences)
  pub firsts : new.firsts ≡ (if target == length old.presences then old.firsts ++ length old.entries ∷ [] else old.firsts)
  pub entries : new.entries ≡ old.entries ++ e ∷ []
  pub targets : new.targets ≡ old.targets ++ target ∷ []

-- the first place of this target; the targets before it are smaller
pub record IsFirstPlace (targets : List ℕ) (q place : ℕ) : Type 0 where
  pub within : place < length targets
  pub target : get_or targets place 0 ≡ q
  pub before : (j : ℕ) → j < place → get_or targets j 0 < q

-- the entries are in order and each has a state of its presence; each state has a first row, whose states are earlier
pub record IsMaking (sig : Signature) (columns : ℕ) (ps firsts : List ℕ) (entries : List Entry) (qs : List ℕ) : Type 0 where
  pub order : AreInOrder sig columns ps entries
  pub count : length qs ≡ length entries
  pub inside : (k : ℕ) → k < length qs → get_or qs k 0 < length ps
  pub alike : (k : ℕ) (d : Entry) → k < length qs → get_or ps (get_or qs k 0) 0 ≡ presence (get_or entries k d).symbol
  pub first_count : length firsts ≡ length ps
  pub first_place : (q : ℕ) → q < length ps → IsFirstPlace qs q (get_or firsts q 0)
  pub first_kids : (q : ℕ) (d : Entry) (j : ℕ) → q < length ps → j < length (get_or entries (get_or firsts q 0) d).kids → get_or (get_or entries (get_or firsts q 0) d).kids j 0 < q

-- this entry comes after all entries, and each other one that isn't among the entries comes after it
pub record IsStanding (sig : Signature) (columns : ℕ) (ps : List ℕ) (entries : List Entry) (e : Entry) : Type 0 where
  pub is_entry : IsEntry sig columns ps e
  pub after : (k : ℕ) (d : Entry) → k < length entries → ComesBefore (get_or entries k d) e
  pub all : (x : Entry) → IsEntry sig columns ps x → Contains entries x ⊎ ((e ≡ x) ⊎ ComesBefore e x)

-- the entries are up to this one
pub record IsUpTo (sig : Signature) (columns : ℕ) (ps : List ℕ) (entries : List Entry) (last : Entry) : Type 0 where
  pub before : (k : ℕ) (d : Entry) → k < length entries → (get_or entries k d ≡ last) ⊎ ComesBefore (get_or entries k d) last
  pub all : (x : Entry) → IsEntry sig columns ps x → Contains entries x ⊎ ComesBefore last x

-- where a maker's walk stands: at the entry that is due, or no entry is
abbrev pub Stands : Made → Entry → Bool → Type 0
Stands m e true = IsStanding m.signature m.columns m.presences m.entries e
Stands m e false = IsComplete m
