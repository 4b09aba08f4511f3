-- To believe: where a walk through the entries stands, what it knows of arities, and one step of it.
use Rattle.std.specs.Prelude.{◌≡◌, ℕ, zero, suc, ◌+◌, ◌-◌, ◌<◌, ◌≤◌, List, [], ◌∷◌, length, Bool, true, false}
use Rattle.fort_theory.specs.Signatures.{Signature}
use Rattle.fort_tables.specs.Tuples.{TupleSymbol, arity, symbol_kids, kid_presence}
use Rattle.fort_tables.specs.Entries.{Entry, entry, stage, IsNextEntry, IsLastEntry}
use Rattle.fort_tuple_symbols.specs.Columns.{symbol_of, column_arity}
use Rattle.fort_tuple_symbols.specs.DigitNumbers.{AreUpTo}
use Rattle.fort_entry_walk.specs.declared.candidates.Arities.{Arities}
use Rattle.fort_entry_walk.specs.declared.walk.Walk.{Walk}

-- the presences of the children from child j on, n of them
abbrev pub wants_from : Signature → TupleSymbol → ℕ → ℕ → List ℕ
wants_from sig f j zero = []
wants_from sig f j (suc n) = kid_presence sig f j ∷ wants_from sig f (j + 1) n

abbrev pub wants : Signature → TupleSymbol → List ℕ
wants sig f = wants_from sig f 0 (symbol_kids sig f)

-- where a walk through the entries stands
pub record Place : Type 0 where
  pub stage : ℕ
  pub digits : List ℕ
  pub kids : List ℕ
  pub wanted : List ℕ

abbrev pub place : Walk → Place
place w = record { stage = w.stage; digits = w.digits; kids = w.kids; wanted = w.wanted }

abbrev pub entry_at : Place → Entry
entry_at p = entry (symbol_of p.digits) p.kids

-- a walk's place, whatever the states are
pub record IsPlace (sig : Signature) (p : Place) : Type 0 where
  pub stage : stage p.kids ≡ p.stage
  pub digits : AreUpTo (length sig) p.digits
  pub kids : AreUpTo (p.stage - 1) p.kids
  pub wanted : p.wanted ≡ wants sig (symbol_of p.digits)

-- no symbol has more arguments
abbrev pub AreAtMost : Signature → ℕ → Type 0
AreAtMost sig most = (g : ℕ) → g < length sig → arity sig g ≤ most

-- the digits before this one have no arguments
abbrev pub IsFlat : Signature → ℕ → Type 0
IsFlat sig flat = (d : ℕ) → d < flat → column_arity sig d ≡ 0

pub record AreArities (sig : Signature) (a : Arities) : Type 0 where
  pub at_most : AreAtMost sig a.most
  pub is_flat : IsFlat sig a.flat
  pub within : a.flat ≤ length sig + 1

-- the walk goes to the next entry, or there is none and it stays
abbrev pub IsStep : Signature → List ℕ → Place → Place → Bool → Type 0
IsStep sig ps old new true = IsNextEntry sig (length old.digits) ps (entry_at old) (entry_at new)
IsStep sig ps old new false = IsLastEntry sig (length old.digits) ps (entry_at old) × (new ≡ old)
