-- Inside: a walk through all choices of so many elements of a list, in order, behind a front that is fixed.
use Rattle.std.specs.Prelude.{◌≡◌, ℕ, zero, suc, Bool, true, false, ◌⊎◌, List, [], ◌∷◌, ◌++◌, drop, Option, None, Some, Result, Ok, Err}
use Rattle.fort_theory.specs.Signatures.{Signature}
use Rattle.fort_theory.specs.Patterns.{PatternSystem}
use Rattle.fort_answers.specs.FamilyRules.{FamilyRule}
use Rattle.fort_synth.specs.declared.search.SynthFault.{SynthFault}
use Rattle.fort_synth.specs.declared.search.SynthFault.TheVariants.{Memory, Decide}
use Rattle.fort_synth.specs.SearchAnswers.{Test, MayAsk, Answers, picked_system}

-- P holds of the front with each choice of so many elements behind it
abbrev pub EachChoice : {A : Type 0} → (List A → Type 0) → List A → ℕ → List A → Type 0
EachChoice P front zero xs = P front
EachChoice P front (suc k) [] = Unit {0}
EachChoice P front (suc k) (x ∷ xs) = EachChoice P (front ++ x ∷ []) k xs × EachChoice P front (suc k) xs

-- Q holds of the front with some choice behind it, and P of it with each choice before that one
abbrev pub FirstChoice : {A : Type 0} → (P Q : List A → Type 0) → List A → ℕ → List A → Type 0
FirstChoice P Q front zero xs = Q front
FirstChoice P Q front (suc k) [] = ⊥
FirstChoice P Q front (suc k) (x ∷ xs) =
    FirstChoice P Q (front ++ x ∷ []) k xs ⊎ (EachChoice P (front ++ x ∷ []) k xs × FirstChoice P Q front (suc k) xs)

-- the test has answered this about the system, which is that of the rules
pub record IsAnswered {F E : Type 0} (test : Test F E) (f : F) (signature : Signature) (answer : Result Bool E) (system : PatternSystem)
    (rules : List FamilyRule) : Type 0 where
  pub is : system ≡ picked_system signature rules
  pub answered : Answers test f signature answer rules

-- each choice may be asked about
abbrev pub MayAskEach : {F E : Type 0} → Test F E → F → Signature → List FamilyRule → ℕ → List FamilyRule → Type 0
MayAskEach {F} {E} test f signature = EachChoice (λ rules. MayAsk test f (picked_system signature rules))

abbrev pub FirstAnswered : {F E : Type 0} → Test F E → F → Signature → Result Bool E → PatternSystem → List FamilyRule → ℕ → List FamilyRule → Type 0
FirstAnswered {F} {E} test f signature answer system = FirstChoice (Answers test f signature (Ok false)) (IsAnswered test f signature answer system)

-- what a walk through the choices tells
abbrev pub IsOutcome : {F E : Type 0} → Test F E → F → Signature → List FamilyRule → ℕ → List FamilyRule → Result (Option PatternSystem) (SynthFault E) → Type 0
IsOutcome {F} {E} test f signature front k xs (Ok None) = EachChoice (Answers test f signature (Ok false)) front k xs
IsOutcome {F} {E} test f signature front k xs (Ok (Some system)) = FirstAnswered test f signature (Ok true) system front k xs
IsOutcome {F} {E} test f signature front k xs (Err Memory) = Unit {0}
IsOutcome {F} {E} test f signature front k xs (Err (Decide system fault)) = FirstAnswered test f signature (Err fault) system front k xs

-- the choices from place i on are the last ones of those from place start on, and no is the answer on the others
pub record IsPassed {F E : Type 0} (test : Test F E) (f : F) (signature : Signature) (front : List FamilyRule) (k : ℕ) (family : List FamilyRule)
    (start i : ℕ) : Type 0 where
  pub each : EachChoice (Answers test f signature (Ok false)) front k (drop i family) → EachChoice (Answers test f signature (Ok false)) front k (drop start family)
  pub first : (answer : Result Bool E) (system : PatternSystem) → FirstAnswered test f signature answer system front k (drop i family)
      → FirstAnswered test f signature answer system front k (drop start family)
