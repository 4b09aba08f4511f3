-- Inside: the part whose answer a formula has, under negations with columns, each of which turns the table.
use Rattle.std.specs.Prelude.{◌≡◌, ℕ, zero, suc, ◌<◌, List, get_or, true, false}
use Rattle.fort_theory.specs.Cores as core
use Rattle.fort_theory.specs.Cores.{Core}
use Rattle.fort_tables.specs.Tables.{Table}
use Rattle.fort_tables.specs.OperationTruth.{complemented}
use Rattle.fort_certificate_theory.specs.Dues.{has_columns, is_turned}
use Rattle.fort_certificate_theory.specs.Made.{IsPartAt}

-- part k is a negation with columns, of this earlier part
pub record IsTurnedBody (parts : List Core) (k body : ℕ) : Type 0 where
  pub before : body < k
  pub whole : get_or parts k core.True ≡ core.Not (get_or parts body core.True)
  pub columns : has_columns (get_or parts k core.True) ≡ true

-- the formula is part k, under so many negations with columns
abbrev pub IsSourceOf : List Core → Core → (k turns : ℕ) → Type 0
IsSourceOf parts f k zero = IsPartAt parts k f × (is_turned f ≡ false)
IsSourceOf parts (core.Not f) k (suc n) = (has_columns f ≡ true) × IsSourceOf parts f k n
IsSourceOf parts other k (suc n) = ⊥

abbrev pub turned : ℕ → Table → Table
turned zero table = table
turned (suc n) table = complemented (turned n table)
