-- To believe: which steps a certificate of a formula has to have, and in which order; a merge may stand behind the step of its part.
use Rattle.std.specs.Prelude.{ℕ, zero, suc, Bool, true, false, ◌==◌, nat_lt, List, [], ◌∷◌, ◌++◌, length, if◌then◌else◌}
use Rattle.std.specs.List.{list_any}
use Rattle.fort_theory.specs.Cores as core
use Rattle.fort_theory.specs.Cores.{Core}
use Rattle.fort_parts.specs.PartColumns.{columns_of}
use Rattle.fort_alike.specs.ListedClosures.{Which, Star, Conv, asks}
use Rattle.fort_certificate_theory.specs.Certificates.{Step, Closure, Part, Merge, Counts, Value}

-- what a step is about
pub data DueStep : Type 0 where
  OfClosure : Which → (index : ℕ) → DueStep
  OfPart : ℕ → DueStep
  OfMerge : ℕ → DueStep
  OfCounts : ℕ → DueStep
  OfValue : ℕ → DueStep

abbrev pub due_of : Step → DueStep
due_of (Closure which index items) = OfClosure which index
due_of (Part k targets) = OfPart k
due_of (Merge k classes) = OfMerge k
due_of (Counts k counts) = OfCounts k
due_of (Value k value) = OfValue k

abbrev pub closure_due : List Core → ℕ → Which → List DueStep
closure_due parts i which = if list_any (asks which i) parts then (OfClosure which i ∷ []) else []

-- for n indices from i on
abbrev pub closures_due : List Core → (n i : ℕ) → List DueStep
closures_due parts zero i = []
closures_due parts (suc n) i = closure_due parts i Star ++ (closure_due parts i Conv ++ closures_due parts n (suc i))

abbrev pub has_columns : Core → Bool
has_columns f = nat_lt 0 (length (columns_of f))

-- a negation with columns has no step: its table is its body's, with the accepting states turned
abbrev pub is_turned : Core → Bool
is_turned (core.Not f) = has_columns f
is_turned other = false

abbrev pub counts_due : ℕ → Core → List DueStep
counts_due k (core.Infinite n f) = OfCounts k ∷ []
counts_due k other = []

-- the table of part k, and where it is merged its classes behind it
abbrev pub table_due : (merges : ℕ → Bool) → ℕ → List DueStep
table_due merges k = OfPart k ∷ (if merges k then (OfMerge k ∷ []) else [])

abbrev pub answer_due : (merges : ℕ → Bool) → ℕ → Core → List DueStep
answer_due merges k f = if has_columns f then (if is_turned f then [] else table_due merges k) else (OfValue k ∷ [])

-- the parts from number k on
abbrev pub parts_due : (merges : ℕ → Bool) → ℕ → List Core → List DueStep
parts_due merges k [] = []
parts_due merges k (f ∷ fs) = counts_due k f ++ (answer_due merges k f ++ parts_due merges (suc k) fs)

-- of a formula with these parts, over a system of this many indices, where the tables of these parts are merged
abbrev pub dues : (merges : ℕ → Bool) → (indices : ℕ) → List Core → List DueStep
dues merges indices parts = closures_due parts indices 1 ++ parts_due merges 0 parts

-- the first of these steps is a merge of part k
abbrev pub begins_with_merge : List Step → ℕ → Bool
begins_with_merge (Merge j classes ∷ ss) k = j == k
begins_with_merge other k = false

-- the step behind the first one of the targets of part k is a merge of it
abbrev pub is_merged_in : List Step → ℕ → Bool
is_merged_in [] k = false
is_merged_in (Part j targets ∷ ss) k = if j == k then begins_with_merge ss k else is_merged_in ss k
is_merged_in (s ∷ ss) k = is_merged_in ss k

-- those of a certificate with these steps
abbrev pub dues_of : (steps : List Step) → (indices : ℕ) → List Core → List DueStep
dues_of steps indices parts = dues (is_merged_in steps) indices parts
