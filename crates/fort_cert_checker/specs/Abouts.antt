-- Inside: the first step of a certificate about a due, and the only one in front; what a step holds.
use Rattle.std.specs.Prelude.{◌≡◌, ℕ, ◌<◌, List, [], ◌++◌, length, get_or, Contains, Bool, false}
use Rattle.fort_tables.specs.Counts.{Count}
use Rattle.fort_alike.specs.ListedClosures.{Pair as Item}
use Rattle.fort_certificate_theory.specs.Certificates.{Step, Closure, Part, Merge, Counts, Value}
use Rattle.fort_certificate_theory.specs.Dues.{DueStep, due_of}

pub record IsFirstAbout (ss : List Step) (d : DueStep) (s : Step) : Type 0 where
  pub place : ℕ
  pub within : place < length ss
  pub is : (e : Step) → get_or ss place e ≡ s
  pub about : due_of s ≡ d
  pub before : (i : ℕ) (e : Step) → i < place → due_of (get_or ss i e) ≡ d → ⊥

-- the steps in front have this one, and no other about its due
pub record IsOnlyAbout (ss : List Step) (s : Step) : Type 0 where
  pub front : List Step
  pub rest : List Step
  pub split : ss ≡ front ++ rest
  pub among : Contains front s
  pub only : (t : Step) → Contains front t → due_of t ≡ due_of s → t ≡ s

-- what a step holds
abbrev pub targets_in : Step → List ℕ
targets_in (Part k targets) = targets
targets_in other = []

abbrev pub classes_in : Step → List ℕ
classes_in (Merge k classes) = classes
classes_in other = []

abbrev pub marks_in : Step → List Count
marks_in (Counts k marks) = marks
marks_in other = []

abbrev pub items_in : Step → List Item
items_in (Closure which index items) = items
items_in other = []

abbrev pub value_in : Step → Bool
value_in (Value k value) = value
value_in other = false
