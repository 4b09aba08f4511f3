-- Inside: the answers of earlier parts, by steps, plans and rooms; what a part's step is checked by, and what comes of it.
use Rattle.std.specs.Prelude.{◌≡◌, ℕ, ◌^◌, ◌<◌, ◌≤◌, List, IsFalse, map, length, get_or, Bool, true, false, Result, OnOk}
use Rattle.fort_theory.specs.Patterns.{PatternSystem}
use Rattle.fort_theory.specs.Signatures.{Signature}
use Rattle.fort_theory.specs.Cores as core
use Rattle.fort_theory.specs.Cores.{Core}
use Rattle.fort_tables.specs.Tables.{Table, listed_table}
use Rattle.fort_tables.specs.Counts.{Count}
use Rattle.fort_parts.specs.PartColumns.{columns_of}
use Rattle.fort_parts.specs.PartAnswers.{Answer, OfValue, OfTable}
use Rattle.fort_alike.specs.ListedClosures.{Star, Conv, Pair as Item}
use Rattle.fort_certificate_theory.specs.Certificates.{Step, Closure, Part, Counts, Value}
use Rattle.fort_certificate_theory.specs.PartSteps.{IsPartOutcome}
use Rattle.fort_certificate_theory.specs.Dues.{has_columns, is_turned}
use Rattle.fort_certificate_theory.specs.Made.{MadeSoFar}
use Rattle.fort_certificate_theory.specs.PartRules.{Local, IsLocalOf}
use Rattle.fort_steps.specs.StepView.{as_step}
use Rattle.fort_check_steps.specs.declared.room.PartRoom.{PartRoom}
use Rattle.fort_check_steps.specs.declared.room.LabelRoom.{LabelRoom}
use Rattle.fort_check_steps.specs.declared.failure.Failure.{Failure}
use Rattle.fort_check_steps.specs.StepAnswers.{outcome_of}
use Rattle.fort_check_steps.specs.Held.{HoldsPart, IsRoomTable, room_table, own_targets}
use Rattle.fort_check_steps.specs.Turned.{turned_table}
use Rattle.fort_check_steps.specs.Room.{HasRoom, HasMergeRoom, HasLabelRoom, HasLeaderRoom, most_states}
use Rattle.fort_check_steps.specs.Marks.{HasMarkRoom}
use Rattle.fort_check_steps.specs.declared.marks.MarkRoom.{MarkRoom}
use Rattle.fort_cert_checker.specs.Abouts.{IsOnlyAbout}
use Rattle.fort_cert_checker.specs.PartStates.{IsStatesOf}
use Rattle.fort_cert_checker.specs.KnownMarks.{HasMarksFor}
use Rattle.fort_cert_checker.specs.Sources.{turned}
use Rattle.fort_cert_checker.specs.OperandLists.{AreListsFor}
use Rattle.fort_cert_checker.specs.Plans.{AreParted, IsFitPart, IsPlanOf, IsWidthFor}
use Rattle.fort_cert_checker.specs.declared.plan.Work.{Work}
use Rattle.fort_cert_checker.specs.declared.plan.Work.TheVariants.{Projection, Many}
use Rattle.fort_cert_checker.specs.declared.plan.Source.{Source}
use Rattle.fort_cert_checker.specs.declared.plan.Plan.{Plan}
use Rattle.fort_cert_checker.specs.declared.past.Past.{Past}
use Rattle.fort_cert_checker.specs.declared.past.PastAnswer as answers
use Rattle.fort_cert_checker.specs.declared.past.PastAnswer.TheVariants as variants

-- a room holds the table of a part with these targets, over this signature and so many columns, with no more states and targets than there
-- is room for
pub record IsHeld (sig : Signature) (columns : ℕ) (targets : List ℕ) (room : PartRoom) (table : Table) : Type 0 where
  pub holds : IsRoomTable sig columns targets room
  pub is : listed_table (room_table sig columns targets room) ≡ table
  pub few_states : length table.presences ≤ most_states targets
  pub few_targets : length (own_targets targets room) ≤ length targets

-- the steps, as the definitions have them
abbrev pub steps_of : Past → List Step
steps_of past = map as_step past.steps.now

-- what stands at this place
abbrev pub IsElement : {A : Type 0} → List A → ℕ → A → Type 0
IsElement {A} xs k x = (k < length xs) × ((d : A) → get_or xs k d ≡ x)

-- the table of a source
pub record IsTableAt (past : Past) (s : Source) (table : Table) : Type 0 where
  pub plan : Plan
  pub room : PartRoom
  pub targets : List ℕ
  pub own : Table
  pub plan_at : IsElement past.plans.now s.part plan
  pub room_at : IsElement past.rooms.now s.part room
  pub only : IsOnlyAbout (steps_of past) (Part s.part targets)
  pub some : 0 < plan.columns
  pub held : IsHeld past.signature.now plan.columns targets room own
  pub is : table ≡ turned s.turns own

pub record IsTruthAt (past : Past) (s : Source) (truth : Bool) : Type 0 where
  pub plan : Plan
  pub plan_at : IsElement past.plans.now s.part plan
  pub none : plan.columns ≡ 0
  pub only : IsOnlyAbout (steps_of past) (Value s.part truth)

abbrev pub IsAnswerAt : Past → Source → Answer → Type 0
IsAnswerAt past s (OfValue truth) = IsTruthAt past s truth
IsAnswerAt past s (OfTable table) = IsTableAt past s table

abbrev pub as_answer : answers.PastAnswer → Answer
as_answer (variants.Truth truth) = OfValue truth
as_answer (variants.Auto table) = OfTable (turned_table table)

-- what comes of the step of a part by this rule
pub record IsPartStep {U : Type 0} (local : Local) (targets : List ℕ) (room : PartRoom) (result : Result U Failure) : Type 0 where
  pub outcome : IsPartOutcome local.rule targets (outcome_of result)
  pub plain : IsFalse room.is_merged
  pub held : OnOk result (HoldsPart local.rule local.accepting targets room)

-- the items of the closure that a relation reads
abbrev pub IsClosureKnown : List Step → MadeSoFar → core.Rel → ℕ → Type 0
IsClosureKnown ss made core.Star index = (items : List Item) × IsOnlyAbout ss (Closure Star index items) × (made.closures Star index ≡ items)
IsClosureKnown ss made core.Plus index = (items : List Item) × IsOnlyAbout ss (Closure Star index items) × (made.closures Star index ≡ items)
IsClosureKnown ss made core.Conv index = (items : List Item) × IsOnlyAbout ss (Closure Conv index items) × (made.closures Conv index ≡ items)
IsClosureKnown ss made other index = Unit {0}

pub record IsTableKnown (sig : Signature) (parts : List Core) (past : Past) (made : MadeSoFar) (j : ℕ) : Type 0 where
  pub targets : List ℕ
  pub room : PartRoom
  pub table : Table
  pub only : IsOnlyAbout (steps_of past) (Part j targets)
  pub room_at : IsElement past.rooms.now j room
  pub held : IsHeld sig (length (columns_of (get_or parts j core.True))) targets room table
  pub made_is : made.answers j ≡ OfTable table
  pub states : IsStatesOf (steps_of past) j (length table.presences)

pub record IsValueKnown (past : Past) (made : MadeSoFar) (j : ℕ) : Type 0 where
  pub value : Bool
  pub only : IsOnlyAbout (steps_of past) (Value j value)
  pub made_is : made.answers j ≡ OfValue value

pub record AreCountsKnown (parts : List Core) (past : Past) (made : MadeSoFar) (k : ℕ) : Type 0 where
  pub marks : List Count
  pub only : IsOnlyAbout (steps_of past) (Counts k marks)
  pub made_is : made.counts k ≡ marks
  pub rules : HasMarksFor parts made k (get_or parts k core.True)

-- what is known of the answers that part k needs, where this was made
pub record KnowsPast (system : PatternSystem) (parts : List Core) (past : Past) (k : ℕ) (made : MadeSoFar) : Type 0 where
  pub parted : AreParted parts
  pub within : k < length parts
  pub signature : past.signature.now ≡ system.signature
  pub plans : (j : ℕ) → j < length parts → (p : Plan) × IsElement past.plans.now j p × (p.columns ≡ length (columns_of (get_or parts j core.True)))
  pub tables : (j : ℕ) → j < k → has_columns (get_or parts j core.True) ≡ true → is_turned (get_or parts j core.True) ≡ false → IsTableKnown system.signature parts past made j
  pub values : (j : ℕ) → j < k → has_columns (get_or parts j core.True) ≡ false → is_turned (get_or parts j core.True) ≡ false → IsValueKnown past made j
  pub closures : (rel : core.Rel) (index x y : ℕ) → get_or parts k core.True ≡ core.Leaf (core.Related rel index x y) → IsClosureKnown (steps_of past) made rel index

-- part k is this formula, which may be checked by this plan
pub record IsPartDue (system : PatternSystem) (parts : List Core) (past : Past) (k : ℕ) (made : MadeSoFar) (f : Core) (p : Plan) : Type 0 where
  pub known : KnowsPast system parts past k made
  pub part : get_or parts k core.True ≡ f
  pub plan : IsPlanOf system parts (steps_of past) k f p
  pub fit : IsFitPart system f

-- the counts of an "infinitely many" are known before its answer
abbrev pub KnowsCounts : List Core → Past → ℕ → MadeSoFar → Type 0
KnowsCounts parts past k made = (n : ℕ) (g : Core) → get_or parts k core.True ≡ core.Infinite n g → AreCountsKnown parts past made k

-- room for the pure states of a source, and for so many marks
abbrev pub IsMarkRoomFor : List Step → Work → MarkRoom → Type 0
IsMarkRoomFor ss (Projection s c) room = (n : ℕ) → IsStatesOf ss s.part n → HasMarkRoom n 0 room
IsMarkRoomFor ss (Many s c marks) room = (n : ℕ) → IsStatesOf ss s.part n → HasMarkRoom n (length marks.items) room
IsMarkRoomFor ss other room = Unit {0}

-- the targets are due, and there is room for them
pub record IsTableDue (system : PatternSystem) (parts : List Core) (past : Past) (k : ℕ) (made : MadeSoFar) (f : Core) (p : Plan) (targets : List ℕ) (room : PartRoom) (scratch : LabelRoom) (marks : MarkRoom) : Type 0 where
  pub due : IsPartDue system parts past k made f p
  pub columns : has_columns f ≡ true
  pub plain : is_turned f ≡ false
  pub counts : KnowsCounts parts past k made
  pub few : length targets < 2 ^ 32
  pub width : ℕ
  pub is_width : IsWidthFor (steps_of past) p.work width
  pub sized : HasRoom targets room
  pub scratch_sized : HasLabelRoom width targets scratch
  pub lists_sized : AreListsFor (steps_of past) p.work scratch.lists
  pub marks_sized : IsMarkRoomFor (steps_of past) p.work marks

-- the step of part k by the rule that it is to have
pub record IsTableStep {U : Type 0} (system : PatternSystem) (parts : List Core) (k : ℕ) (made : MadeSoFar) (f : Core) (targets : List ℕ) (room : PartRoom) (result : Result U Failure) : Type 0 where
  pub local : Local
  pub local_is : IsLocalOf system parts made k f local
  pub signature : local.rule.signature ≡ system.signature
  pub columns_are : local.rule.columns ≡ length (columns_of f)
  pub step : IsPartStep local targets room result

-- the classes of part k are due, whose room holds the table of its targets
pub record IsMergeDue (system : PatternSystem) (parts : List Core) (past : Past) (k : ℕ) (made : MadeSoFar) (p : Plan) (room : PartRoom) (scratch : LabelRoom) (marks : MarkRoom) : Type 0 where
  pub targets : List ℕ
  pub table : Table
  pub signature : past.signature.now ≡ system.signature
  pub columns : p.columns ≡ length (columns_of (get_or parts k core.True))
  pub only : IsOnlyAbout (steps_of past) (Part k targets)
  pub held : IsHeld system.signature (length (columns_of (get_or parts k core.True))) targets room table
  pub plain : IsFalse room.is_merged
  pub made_is : made.answers k ≡ OfTable table
  pub sized : HasMergeRoom targets room
  pub scratch_sized : HasLeaderRoom targets scratch
  pub marks_sized : IsMarkRoomFor (steps_of past) p.work marks
