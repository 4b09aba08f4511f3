-- To believe: what a search finds through the systems of a family, by the answers of the test that it asks: the first system on which the test says yes, where it says no on all before; that it says no on all; or the first on which it fails, where it says no on all before.
use Rattle.std.specs.Prelude.{◌≡◌, ◌<◌, ◌^◌, ℕ, Bool, false, List, length, Contains, All, Result, Ok}
use Rattle.std.specs.Fn.{Shared, FnReturnsAt}
use Rattle.fort_theory.specs.Signatures.{Signature, IsGround}
use Rattle.fort_theory.specs.Patterns.{FitsPattern, PatternSystem, pattern_system}
use Rattle.fort_answers.specs.FamilyRules.{FamilyRule, Ascend}
use Rattle.fort_answers.specs.FamilySystems.{any_count, system_of, CandidateBefore}
use Rattle.fort_synth.specs.declared.search.SynthFault.{SynthFault}
use Rattle.fort_synth.specs.declared.search.SynthFault.TheVariants.{Memory, Decide}
use denote.Ref.{Bor}

-- both sides fit the signature, and the left one has fewer than 2^32 places for variables
pub record FitsRule (signature : Signature) (rule : FamilyRule) : Type 0 where
  pub left : FitsPattern signature rule.0
  pub right : IsGround signature rule.1
  pub places : any_count rule.0 < 2 ^ 32

-- so many rules of the family, ascending
pub record IsPicked (family : List FamilyRule) (count : ℕ) (rules : List FamilyRule) : Type 0 where
  pub among : All (Contains family) rules
  pub ascend : Ascend rules
  pub number : length rules ≡ count

-- the system of these rules, as the program has it
abbrev pub picked_system : Signature → List FamilyRule → PatternSystem
picked_system signature rules = pattern_system (system_of signature rules)

-- a test of systems, which answers yes or no, or fails
abbrev pub Test : Type 0 → Type 0 → Type 1
Test F E = Shared F (Bor PatternSystem × Unit {0}) (Result Bool E)

-- the test may be asked about a system
abbrev pub MayAsk : {F E : Type 0} → Test F E → F → PatternSystem → Type 0
MayAsk {F} {E} test f system = (shown : Bor PatternSystem) → shown.now ≡ system → test.pre f (shown, tt)

-- and about every system of the family
abbrev pub MayAskAll : {F E : Type 0} → Test F E → F → Signature → List FamilyRule → ℕ → Type 0
MayAskAll {F} {E} test f signature family count =
    (rules : List FamilyRule) → IsPicked family count rules → MayAsk test f (picked_system signature rules)

-- a call of the test at the system of these rules may give this
abbrev pub Answers : {F E : Type 0} → Test F E → F → Signature → Result Bool E → List FamilyRule → Type 0
Answers {F} {E} test f signature answer rules = FnReturnsAt test f (picked_system signature rules) answer

-- it may say no about every system of the family
abbrev pub AnswersNoOnAll : {F E : Type 0} → Test F E → F → Signature → List FamilyRule → ℕ → Type 0
AnswersNoOnAll {F} {E} test f signature family count =
    (rules : List FamilyRule) → IsPicked family count rules → Answers test f signature (Ok false) rules

-- it may say this about the system, and no about every system of the family before it
pub record IsFirstAnswer {F E : Type 0} (test : Test F E) (f : F) (signature : Signature) (family : List FamilyRule) (count : ℕ) (answer : Result Bool E)
    (system : PatternSystem) : Type 0 where
  pub rules : List FamilyRule
  pub picked : IsPicked family count rules
  pub is : system ≡ picked_system signature rules
  pub answered : Answers test f signature answer rules
  pub before : (others : List FamilyRule) → IsPicked family count others → CandidateBefore others rules → Answers test f signature (Ok false) others

-- P of the system and the fault, where the search ended by a fault of the test
abbrev pub IfDecide : {E : Type 0} → SynthFault E → (PatternSystem → E → Type 0) → Type 0
IfDecide Memory P = Unit {0}
IfDecide (Decide system fault) P = P system fault
