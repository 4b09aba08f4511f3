-- Inside: what is made before a check, for each step that is due and for each part.
use Rattle.std.specs.Prelude.{◌≡◌, ℕ, ◌*◌, ◌^◌, ◌<◌, ◌≤◌, List, length, get_or, Bool, true, Option, None, Some}
use Rattle.fort_theory.specs.Patterns.{PatternSystem}
use Rattle.fort_theory.specs.Cores as core
use Rattle.fort_theory.specs.Cores.{Core}
use Rattle.fort_alike.specs.ListedClosures.{Which}
use Rattle.fort_certificate_theory.specs.Certificates.{Step, Part}
use Rattle.fort_certificate_theory.specs.Dues.{DueStep, OfClosure, OfPart, OfMerge, OfCounts, OfValue, is_merged_in}
use Rattle.fort_check_steps.specs.PairSteps.{HasClosureRules}
use Rattle.fort_check_steps.specs.declared.room.PartRoom.{PartRoom}
use Rattle.fort_check_steps.specs.declared.room.LabelRoom.{LabelRoom}
use Rattle.fort_check_steps.specs.declared.marks.MarkRoom.{MarkRoom}
use Rattle.fort_check_steps.specs.Room.{HasRoom, HasMergeRoom, HasLabelRoom, HasLeaderRoom, most_states}
use Rattle.fort_cert_checker.specs.Abouts.{IsFirstAbout, IsOnlyAbout, targets_in}
use Rattle.fort_cert_checker.specs.OperandLists.{AreListsFor}
use Rattle.fort_cert_checker.specs.Plans.{IsPlanOf, IsWidthFor}
use Rattle.fort_cert_checker.specs.Pasts.{IsMarkRoomFor}
use Rattle.fort_cert_checker.specs.declared.plan.Plan.{Plan}
use Rattle.fort_cert_checker.specs.declared.plan.Work.{Work}
use Rattle.fort_cert_checker.specs.declared.making.ClosurePlan.{ClosurePlan}

-- as many as n, each right at its place
pub record AreMade {A : Type 0} (IsRight : ℕ → A → Type 0) (n : ℕ) (xs : List A) : Type 0 where
  pub count : length xs ≡ n
  pub each : (k : ℕ) (d : A) → k < n → IsRight k (get_or xs k d)

pub record IsClosurePlan (system : PatternSystem) (which : Which) (index : ℕ) (p : ClosurePlan) : Type 0 where
  pub rules : HasClosureRules system which index p.rules
  pub room : length p.rules.rights.items * length p.rules.lefts.items ≤ 64 * length p.listed.items

abbrev pub IsClosureFor : PatternSystem → DueStep → Option ClosurePlan → Type 0
IsClosureFor system (OfClosure which index) (Some p) = IsClosurePlan system which index p
IsClosureFor system (OfClosure which index) None = ⊥
IsClosureFor system (OfPart k) p = Unit {0}
IsClosureFor system (OfMerge k) p = Unit {0}
IsClosureFor system (OfCounts k) p = Unit {0}
IsClosureFor system (OfValue k) p = Unit {0}

abbrev pub AreClosuresMade : PatternSystem → List DueStep → ℕ → List (Option ClosurePlan) → Type 0
AreClosuresMade system dues n ps = AreMade (λ k p. IsClosureFor system (get_or dues k (OfPart 0)) p) n ps

abbrev pub ArePlansMade : PatternSystem → List Core → List Step → ℕ → List Plan → Type 0
ArePlansMade system parts ss n ps = AreMade (λ k p. IsPlanOf system parts ss k (get_or parts k core.True) p) n ps

-- for each of the first n parts, whether it is merged
abbrev pub AreMergesMade : List Step → ℕ → List Bool → Type 0
AreMergesMade ss n bs = AreMade (λ k b. b ≡ is_merged_in ss k) n bs

-- room for the targets of part k, and where it is merged for those over its classes
pub record IsRoomFor (ss : List Step) (k : ℕ) (r : PartRoom) : Type 0 where
  pub targets_fit : (targets : List ℕ) → IsOnlyAbout ss (Part k targets) → HasRoom targets r
  pub classes_fit : (targets : List ℕ) → IsOnlyAbout ss (Part k targets) → is_merged_in ss k ≡ true → HasMergeRoom targets r

abbrev pub AreRoomsMade : List Step → ℕ → List PartRoom → Type 0
AreRoomsMade ss n rs = AreMade (IsRoomFor ss) n rs

-- a label of part k has so many words that there is no number for those of all labels
pub record HasTooManyWords (ss : List Step) (k : ℕ) (w : Work) : Type 0 where
  pub width : ℕ
  pub is_width : IsWidthFor ss w width
  pub step : Step
  pub first : IsFirstAbout ss (OfPart k) step
  pub many : 2 ^ 64 ≤ width * most_states (targets_in step)

-- room for the labels of part k, for its operands' lists, and where it is merged for its classes
pub record IsScratchFor (ss : List Step) (k : ℕ) (p : Plan) (r : LabelRoom) : Type 0 where
  pub width : ℕ
  pub is_width : IsWidthFor ss p.work width
  pub sized : (targets : List ℕ) → IsOnlyAbout ss (Part k targets) → HasLabelRoom width targets r
  pub lists : AreListsFor ss p.work r.lists
  pub leaders : (targets : List ℕ) → IsOnlyAbout ss (Part k targets) → is_merged_in ss k ≡ true → HasLeaderRoom targets r

-- for each of the first n parts
abbrev pub IsScratchMade : List Step → List Plan → ℕ → LabelRoom → Type 0
IsScratchMade ss ps n r = (k : ℕ) (d : Plan) → k < n → IsScratchFor ss k (get_or ps k d) r

abbrev pub AreMarksMade : List Step → List Plan → ℕ → List MarkRoom → Type 0
AreMarksMade ss ps n rs = AreMade (λ k r. (d : Plan) → IsMarkRoomFor ss (get_or ps k d).work r) n rs
