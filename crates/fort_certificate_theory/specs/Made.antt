-- To believe: what the steps of a certificate make, one after another; and the answer of a formula by what is made.
use Rattle.std.specs.Prelude.{◌≡◌, ℕ, ◌<◌, Bool, true, false, ◌&&◌, ◌==◌, if◌then◌else◌, List, [], length, get_or}
use Rattle.fort_theory.specs.Cores as core
use Rattle.fort_theory.specs.Cores.{Core}
use Rattle.fort_tables.specs.Tables.{Table}
use Rattle.fort_tables.specs.OperationTruth.{complemented}
use Rattle.fort_tables.specs.Counts.{Count}
use Rattle.fort_parts.specs.PartAnswers.{Answer, OfValue, OfTable}
use Rattle.fort_alike.specs.ListedClosures.{Which, Star, Conv, Pair as Item}
use Rattle.fort_certificate_theory.specs.Dues.{has_columns, is_turned}

-- the items of closures by their index; counts and answers by the numbers of parts
pub record MadeSoFar : Type 0 where
  pub closures : Which → ℕ → List Item
  pub counts : ℕ → List Count
  pub answers : ℕ → Answer

abbrev pub nothing_made : MadeSoFar
nothing_made = record { closures = λ which i. []; counts = λ k. []; answers = λ k. OfValue false }

abbrev pub same_which : Which → Which → Bool
same_which Star Star = true
same_which Star Conv = false
same_which Conv Star = false
same_which Conv Conv = true

abbrev pub with_closure : MadeSoFar → Which → ℕ → List Item → MadeSoFar
with_closure m which index items = record {
  closures = λ w i. if same_which w which && (i == index) then items else m.closures w i;
  counts = m.counts;
  answers = m.answers;
}

abbrev pub with_counts : MadeSoFar → ℕ → List Count → MadeSoFar
with_counts m k counts = record { closures = m.closures; counts = λ i. if i == k then counts else m.counts i; answers = m.answers }

abbrev pub with_answer : MadeSoFar → ℕ → Answer → MadeSoFar
with_answer m k answer = record { closures = m.closures; counts = m.counts; answers = λ i. if i == k then answer else m.answers i }

abbrev pub IsPartAt : List Core → ℕ → Core → Type 0
IsPartAt parts k f = (k < length parts) × (get_or parts k core.True ≡ f)

-- the answer that its step has made; a negation with columns turns the one of its body
pub data IsAnswerOf (parts : List Core) (made : MadeSoFar) : Core → Answer → Type 0 where
  OfStep : {f : Core} {answer : Answer} (k : ℕ) → IsPartAt parts k f → is_turned f ≡ false → made.answers k ≡ answer
      → IsAnswerOf parts made f answer
  Turned : {f : Core} (body : Table) → has_columns f ≡ true → IsAnswerOf parts made f (OfTable body)
      → IsAnswerOf parts made (core.Not f) (OfTable (complemented body))
