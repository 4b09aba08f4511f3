-- The numbers of a written certificate can be written, where those of its steps are small: a closure that tells no index is of index 1.
use Rattle.std.proofs.Common.{◌≡◌, ℕ, zero, suc, ◌+◌, ◌<◌, ◌≤◌, true, false, List, [], ◌∷◌, ◌++◌, length, refl, sym, ap, subst, arith, true≢false}
use Rattle.std.proofs.lemmas.Bool.{eqb-true}
use Rattle.std.specs.Prelude.{Bool, if◌then◌else◌, ◌==◌}
use Rattle.std.specs.List.{AllByRecursion, list_any}
use Rattle.fort_theory.specs.Patterns.{PatternSystem}
use Rattle.fort_theory.specs.Cores as core
use Rattle.fort_theory.specs.Cores.{Core}
use Rattle.fort_alike.specs.ListedClosures.{Which, Star, Conv, asks}
use Rattle.fort_certificate_theory.specs.Certificates.{Step, Closure, Part, Merge, Counts, Value, Certificate}
use Rattle.fort_certificate_theory.specs.CertificateForms.{OfOne, OfSeveral, version_for, tells_index, has_merges}
use Rattle.fort_certificate_theory.specs.CertificateText.{CanBeWritten}
use Rattle.fort_certificate.specs.Again.{HasSmallNumbers}
use Rattle.fort_certificate_theory.specs.Dues.{DueStep, OfClosure, OfPart, OfMerge, OfCounts, OfValue, due_of, has_columns, is_turned, closure_due, closures_due, counts_due, table_due, answer_due, parts_due, dues}
use Rattle.fort_certificate_theory.specs.Made.{MadeSoFar, nothing_made}
use Rattle.fort_certificate_theory.specs.Checked.{AreSteps, NoSteps, MoreSteps}
use Rattle.fort_certificate_theory.specs.Written.{IsWrittenStep, IsWritten}

-- of a closure, the index is among n from i on; a merge is due where tables are reduced, and only there a version has merges
abbrev IsDueOf : (reduces : Bool) (i n : ℕ) → DueStep → Type 0
IsDueOf reduces i n (OfClosure which index) = (i ≤ index) × (index < i + n)
IsDueOf reduces i n (OfPart k) = Unit {0}
IsDueOf reduces i n (OfMerge k) = reduces ≡ true
IsDueOf reduces i n (OfCounts k) = Unit {0}
IsDueOf reduces i n (OfValue k) = Unit {0}

abbrev AreDuesOf : (reduces : Bool) (i n : ℕ) → List DueStep → Type 0
AreDuesOf reduces i n ds = AllByRecursion (IsDueOf reduces i n) ds

both : (P : DueStep → Type 0) (ds es : List DueStep) → AllByRecursion P ds → AllByRecursion P es → AllByRecursion P (ds ++ es)
both P [] es h k = k
both P (d ∷ ds) es h k = (h.0, both P ds es h.1 k)

module _ (reduces : Bool) where
  later : (i n : ℕ) (ds : List DueStep) → AreDuesOf reduces (suc i) n ds → AreDuesOf reduces i (suc n) ds
  later i n [] h = tt
  later i n (OfClosure which index ∷ ds) h = ((omega (arith, h.0.0), omega (arith, h.0.1)), later i n ds h.1)
  later i n (OfPart k ∷ ds) h = (tt, later i n ds h.1)
  later i n (OfMerge k ∷ ds) h = (h.0, later i n ds h.1)
  later i n (OfCounts k ∷ ds) h = (tt, later i n ds h.1)
  later i n (OfValue k ∷ ds) h = (tt, later i n ds h.1)

  closure_of : (parts : List Core) (i n : ℕ) (which : Which) → AreDuesOf reduces i (suc n) (closure_due parts i which)
  closure_of parts i n which =
      elim (list_any (asks which i) parts) as (λ b. AreDuesOf reduces i (suc n) (if b then (OfClosure which i ∷ []) else [])) [
        | true ↦ ((omega arith, omega arith), tt)
        | false ↦ tt
      ]

  closures_of : (parts : List Core) (n i : ℕ) → AreDuesOf reduces i n (closures_due parts n i)
  closures_of parts zero i = tt
  closures_of parts (suc n) i =
      both (IsDueOf reduces i (suc n)) (closure_due parts i Star) (closure_due parts i Conv ++ closures_due parts n (suc i)) (closure_of parts i n Star)
      (both (IsDueOf reduces i (suc n)) (closure_due parts i Conv) (closures_due parts n (suc i)) (closure_of parts i n Conv)
      (later i n (closures_due parts n (suc i)) (closures_of parts n (suc i))))

  counts_of : (i n k : ℕ) (f : Core) → AreDuesOf reduces i n (counts_due k f)
  counts_of i n k core.True = tt
  counts_of i n k (core.Leaf a) = tt
  counts_of i n k (core.Not f) = tt
  counts_of i n k (core.Binary op f g) = tt
  counts_of i n k (core.Exists x f) = tt
  counts_of i n k (core.Infinite x f) = (tt, tt)

  table_of : (i n k : ℕ) → AreDuesOf reduces i n (table_due (λ j. reduces) k)
  table_of i n k = (tt, elim reduces as (λ b. AreDuesOf b i n (if b then (OfMerge k ∷ []) else [])) [ true ↦ (refl, tt) | false ↦ tt ])

  answer_of : (i n k : ℕ) (f : Core) → AreDuesOf reduces i n (answer_due (λ j. reduces) k f)
  answer_of i n k f =
      let table = table_due (λ j. reduces) k in
      elim (has_columns f) as (λ b. AreDuesOf reduces i n (if b then (if is_turned f then [] else table) else (OfValue k ∷ []))) [
        | true ↦ elim (is_turned f) as (λ b. AreDuesOf reduces i n (if b then [] else table)) [ true ↦ tt | false ↦ table_of i n k ]
        | false ↦ (tt, tt)
      ]

  parts_of : (i n k : ℕ) (fs : List Core) → AreDuesOf reduces i n (parts_due (λ j. reduces) k fs)
  parts_of i n k [] = tt
  parts_of i n k (f ∷ fs) =
      both (IsDueOf reduces i n) (counts_due k f) (answer_due (λ j. reduces) k f ++ parts_due (λ j. reduces) (suc k) fs) (counts_of i n k f)
      (both (IsDueOf reduces i n) (answer_due (λ j. reduces) k f) (parts_due (λ j. reduces) (suc k) fs) (answer_of i n k f) (parts_of i n (suc k) fs))

  all_of : (n : ℕ) (parts : List Core) → AreDuesOf reduces 1 n (dues (λ j. reduces) n parts)
  all_of n parts =
      both (IsDueOf reduces 1 n) (closures_due parts n 1) (parts_due (λ j. reduces) 0 parts) (closures_of parts n 1) (parts_of 1 n 0 parts)

-- an index that isn't told, of a problem with so many
index_is : (reduces : Bool) (n index : ℕ) → tells_index (version_for reduces n) ≡ false → 1 ≤ index → index < 1 + n → index ≡ 1
index_is true n index e low high = absurd (true≢false e)
index_is false n index e low high = let one : n ≡ 1 = only e in omega (arith, one)
  where
    only : tells_index (if n == 1 then OfOne else OfSeveral) ≡ false → n ≡ 1
    only h =
        elim (n == 1) as (λ b. (n == 1) ≡ b → tells_index (if b then OfOne else OfSeveral) ≡ false → n ≡ 1) [
          | true ↦ (λ is h. eqb-true n 1 is)
          | false ↦ (λ is h. absurd (true≢false h))
        ] refl h

can_be : (reduces : Bool) (n : ℕ) (s : Step) → IsDueOf reduces 1 n (due_of s) → HasSmallNumbers s → CanBeWritten (version_for reduces n) s
can_be reduces n (Closure which index items) h small = ((small.0, (λ e. index_is reduces n index e h.0 h.1)), small.1)
can_be reduces n (Part k targets) h small = small
can_be reduces n (Merge k classes) h small = (ap (λ b. has_merges (version_for b n)) h, small.0, small.1)
can_be reduces n (Counts k marks) h small = small
can_be reduces n (Value k value) h small = small

steps_can : (IsStep : MadeSoFar → Step → MadeSoFar → Type 0) (reduces : Bool) (n : ℕ) (made last : MadeSoFar) (ds : List DueStep) (ss : List Step)
    → AreSteps IsStep made ds ss last → AreDuesOf reduces 1 n ds → AllByRecursion HasSmallNumbers ss
    → AllByRecursion (CanBeWritten (version_for reduces n)) ss
steps_can IsStep reduces n made last [] [] NoSteps h small = tt
steps_can IsStep reduces n made last [] (s ∷ ss) steps h small = elim steps [ ]
steps_can IsStep reduces n made last (d ∷ ds) [] steps h small = elim steps [ ]
steps_can IsStep reduces n made last (d ∷ ds) (s ∷ ss) (MoreSteps {next = next} is step rest) h small =
    (can_be reduces n s (subst (IsDueOf reduces 1 n) (sym is) h.0) small.0, steps_can IsStep reduces n next last ds ss rest h.1 small.1)

-- result
pub written_numbers : (reduces : Bool) (system : PatternSystem) (f : Core) (c : Certificate) → IsWritten reduces system f c
    → AllByRecursion HasSmallNumbers c.steps → AllByRecursion (CanBeWritten (version_for reduces (length system.rules))) c.steps
written_numbers reduces system f c written small =
    steps_can (IsWrittenStep system written.parts) reduces (length system.rules) nothing_made written.made
    (dues (λ k. reduces) (length system.rules) written.parts) c.steps written.steps (all_of reduces (length system.rules) written.parts) small
