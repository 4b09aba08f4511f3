-- Inside: where a check stands: the first steps are fine, and the rooms hold their tables; what comes of the step behind them.
use Rattle.std.specs.Prelude.{◌≡◌, ℕ, ◌^◌, ◌<◌, ◌≤◌, List, length, take, drop, get_or, Contains, Bool, Option, IsTrue, IsFalse}
use Rattle.fort_theory.specs.Patterns.{PatternSystem}
use Rattle.fort_theory.specs.Cores as core
use Rattle.fort_theory.specs.Cores.{Core}
use Rattle.fort_theory.specs.PartLists.{AreParts}
use Rattle.fort_tables.specs.Tables.{Table}
use Rattle.fort_tables.specs.Counts.{Count}
use Rattle.fort_parts.specs.PartColumns.{columns_of}
use Rattle.fort_parts.specs.PartAnswers.{OfValue, OfTable}
use Rattle.fort_parts.specs.DecidedCores.{IsDecided}
use Rattle.fort_alike.specs.ListedClosures.{Which, Pair as Item}
use Rattle.fort_certificate_theory.specs.Certificates.{Step, Closure, Part, Merge, Counts, Value}
use Rattle.fort_certificate_theory.specs.Dues.{DueStep, due_of, dues_of}
use Rattle.fort_certificate_theory.specs.Made.{MadeSoFar}
use Rattle.fort_certificate_theory.specs.Checked.{IsFine, IsUpTo}
use Rattle.fort_check_steps.specs.Room.{most_states}
use Rattle.fort_check_steps.specs.declared.room.PartRoom.{PartRoom}
use Rattle.fort_check_steps.specs.declared.room.LabelRoom.{LabelRoom}
use Rattle.fort_check_steps.specs.declared.marks.MarkRoom.{MarkRoom}
use Rattle.fort_cert_checker.specs.declared.plan.Plan.{Plan}
use Rattle.fort_cert_checker.specs.declared.past.Past.{Past}
use Rattle.fort_cert_checker.specs.declared.making.ClosurePlan.{ClosurePlan}
use Rattle.fort_cert_checker.specs.KnownMarks.{HasMarksFor}
use Rattle.fort_cert_checker.specs.Abouts.{IsOnlyAbout}
use Rattle.fort_cert_checker.specs.Pasts.{steps_of, IsElement, IsHeld, IsTableDue, IsMergeDue}
use Rattle.fort_cert_checker.specs.Values.{IsValueDue, AreCountsDue}
use Rattle.fort_cert_checker.specs.Makings.{ArePlansMade, AreRoomsMade, IsScratchMade, AreMarksMade, AreClosuresMade}

-- what the steps in front have made
pub record Tells (parts : List Core) (front : List Step) (made : MadeSoFar) : Type 0 where
  pub closures : (which : Which) (index : ℕ) (items : List Item) → Contains front (Closure which index items) → made.closures which index ≡ items
  pub counts : (k : ℕ) (marks : List Count) → Contains front (Counts k marks) → made.counts k ≡ marks
  pub values : (k : ℕ) (value : Bool) → Contains front (Value k value) → made.answers k ≡ OfValue value
  pub rules : (k : ℕ) (marks : List Count) → Contains front (Counts k marks) → HasMarksFor parts made k (get_or parts k core.True)

-- the first n steps are fine
pub record IsAtPlace (system : PatternSystem) (parts : List Core) (ss : List Step) (n : ℕ) (made : MadeSoFar) : Type 0 where
  pub within : n ≤ length ss
  pub up : IsUpTo system parts ss (take n ss) (drop n (dues_of ss (length system.rules) parts)) (drop n ss) made
  pub tells : Tells parts (take n ss) made

-- a room holds the table of part j, which was made, and is merged only behind a merge of it
pub record IsRoomHeld (system : PatternSystem) (parts : List Core) (rooms : List PartRoom) (front : List Step) (made : MadeSoFar) (j : ℕ) (targets : List ℕ) : Type 0 where
  pub room : PartRoom
  pub table : Table
  pub room_at : IsElement rooms j room
  pub held : IsHeld system.signature (length (columns_of (get_or parts j core.True))) targets room table
  pub made_is : made.answers j ≡ OfTable table
  pub merged : IsTrue room.is_merged → (classes : List ℕ) × Contains front (Merge j classes)
  pub plain_states : ((classes : List ℕ) → Contains front (Merge j classes) → ⊥) → length table.presences ≡ most_states targets
  pub merged_states : (classes : List ℕ) → Contains front (Merge j classes) → length table.presences ≡ most_states classes

abbrev pub AreHeld : PatternSystem → List Core → List PartRoom → List Step → MadeSoFar → Type 0
AreHeld system parts rooms front made = (j : ℕ) (targets : List ℕ) → Contains front (Part j targets) → IsRoomHeld system parts rooms front made j targets

-- no part has more targets or classes than there are numbers for
pub record HasFewTargets (ss : List Step) : Type 0 where
  pub targets : (k : ℕ) (targets : List ℕ) → Contains ss (Part k targets) → length targets < 2 ^ 32
  pub classes : (k : ℕ) (classes : List ℕ) → Contains ss (Merge k classes) → length classes < 2 ^ 32

-- all that a check needs
pub record IsReady (system : PatternSystem) (root : Core) (parts : List Core) (ss : List Step) (plans : List Plan) (closures : List (Option ClosurePlan)) (rooms : List PartRoom) (scratch : LabelRoom) (marks : List MarkRoom) : Type 0 where
  pub are : AreParts root parts
  pub decided : IsDecided system root
  pub few : HasFewTargets ss
  pub plans_made : ArePlansMade system parts ss (length parts) plans
  pub rooms_made : AreRoomsMade ss (length parts) rooms
  pub scratch_made : IsScratchMade ss plans (length parts) scratch
  pub marks_made : AreMarksMade ss plans (length parts) marks
  pub closures_made : AreClosuresMade system (dues_of ss (length system.rules) parts) (length (dues_of ss (length system.rules) parts)) closures

-- the first n steps are fine, and the rooms hold their tables
pub record IsLoopAt (system : PatternSystem) (root : Core) (parts : List Core) (ss : List Step) (plans : List Plan) (closures : List (Option ClosurePlan)) (rooms : List PartRoom) (scratch : LabelRoom) (marks : List MarkRoom) (n : ℕ)
    (made : MadeSoFar) : Type 0 where
  pub ready : IsReady system root parts ss plans closures rooms scratch marks
  pub place : IsAtPlace system parts ss n made
  pub held : AreHeld system parts rooms (take n ss) made

-- the step at a place is the one that is due there
pub record IsStepDue (system : PatternSystem) (parts : List Core) (ss : List Step) (n : ℕ) : Type 0 where
  pub low : n < length ss
  pub due_low : n < length (dues_of ss (length system.rules) parts)
  pub about : (s : Step) (d : DueStep) → due_of (get_or ss n s) ≡ get_or (dues_of ss (length system.rules) parts) n d

-- ---- the step of a part

-- what is read of the past
pub record IsPastOf (system : PatternSystem) (ss : List Step) (plans : List Plan) (rooms : List PartRoom) (past : Past) : Type 0 where
  pub signature : past.signature.now ≡ system.signature
  pub steps : steps_of past ≡ ss
  pub plans_are : past.plans.now ≡ plans
  pub rooms_are : past.rooms.now ≡ rooms

-- the part that a step names
abbrev pub part_in : Step → ℕ
part_in (Closure which index items) = 0
part_in (Part k targets) = k
part_in (Merge k classes) = k
part_in (Counts k marks) = k
part_in (Value k value) = k

-- a step that names a part is due
abbrev pub IsOwnDue : PatternSystem → List Core → Past → MadeSoFar → Core → Plan → Step → PartRoom → LabelRoom → MarkRoom → Type 0
IsOwnDue system parts past made f p (Closure which index items) room scratch marks = ⊥
IsOwnDue system parts past made f p (Part k targets) room scratch marks = IsTableDue system parts past k made f p targets room scratch marks
IsOwnDue system parts past made f p (Merge k classes) room scratch marks = IsMergeDue system parts past k made p room scratch marks
IsOwnDue system parts past made f p (Counts k counts) room scratch marks = AreCountsDue system parts past k made f p counts marks
IsOwnDue system parts past made f p (Value k value) room scratch marks = IsValueDue system parts past k made f p marks

-- the room of part k with these targets holds its table, which was made, of so many states
pub record IsNewlyHeld (system : PatternSystem) (parts : List Core) (next : MadeSoFar) (k : ℕ) (targets : List ℕ) (states : ℕ) (room : PartRoom) : Type 0 where
  pub table : Table
  pub held : IsHeld system.signature (length (columns_of (get_or parts k core.True))) targets room table
  pub made_is : next.answers k ≡ OfTable table
  pub states_are : length table.presences ≡ states

-- after a step of these, a part's room holds its table, or that of its classes
abbrev pub IsHeldAfter : PatternSystem → List Core → List Step → MadeSoFar → Step → PartRoom → Type 0
IsHeldAfter system parts ss next (Part k targets) room = IsNewlyHeld system parts next k targets (most_states targets) room × IsFalse room.is_merged
IsHeldAfter system parts ss next (Merge k classes) room =
    (targets : List ℕ) → IsOnlyAbout ss (Part k targets) → IsNewlyHeld system parts next k targets (most_states classes) room
IsHeldAfter system parts ss next other room = Unit {0}

pub record IsFineStep (system : PatternSystem) (parts : List Core) (ss : List Step) (made : MadeSoFar) (s : Step) (room : PartRoom) : Type 0 where
  pub next : MadeSoFar
  pub fine : IsFine system parts made s next
  pub after : IsHeldAfter system parts ss next s room

-- with every past that is read of these
abbrev pub IsDueBehind : PatternSystem → List Core → List Step → List Plan → List PartRoom → MadeSoFar → Core → Plan → Step → PartRoom → LabelRoom → MarkRoom → Type 0
IsDueBehind system parts ss plans rooms made f p s room scratch marks = (past : Past) → IsPastOf system ss plans rooms past → IsOwnDue system parts past made f p s room scratch marks
