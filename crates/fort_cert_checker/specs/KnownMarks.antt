-- Inside: the marks of an "infinitely many" that were made hold by their rules, and there is one for each pure state.
use Rattle.std.specs.Prelude.{◌≡◌, ℕ, List, length}
use Rattle.fort_theory.specs.Cores as core
use Rattle.fort_theory.specs.Cores.{Core}
use Rattle.fort_tables.specs.Tables.{Table}
use Rattle.fort_tables.specs.Counts.{KeepRules, count_at}
use Rattle.fort_parts.specs.PartColumns.{columns_of, place_in}
use Rattle.fort_certificate_theory.specs.Made.{MadeSoFar}
use Rattle.fort_certificate_theory.specs.PartRules.{IsCounted}

-- of part k, which is f
abbrev pub HasMarksFor : List Core → MadeSoFar → ℕ → Core → Type 0
HasMarksFor parts made k f =
    (n : ℕ) (g : Core) (body : Table) (states : List ℕ) → f ≡ core.Infinite n g → IsCounted parts made n g body states
    → KeepRules body (place_in (columns_of g) n) (count_at states (made.counts k)) × (length (made.counts k) ≡ length states)
