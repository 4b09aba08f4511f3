-- Inside: steps behind those that are recorded, what a part adds, and what is recorded of the first parts and of all.
use Rattle.std.specs.Prelude.{◌≡◌, ℕ, ◌+◌, ◌<◌, ◌≤◌, ◌^◌, List, [], ◌∷◌, ◌++◌, map, take, length, get_or, Bool, true, false, Option, None, Some}
use Rattle.std.specs.declared.alloc.Global.{Global}
use Rattle.std.specs.declared.vec.Vec.{Vec}
use Rattle.std.proofs.Common.{sym, ◌∙◌, arith}
use Rattle.fort_theory.specs.Patterns.{PatternSystem}
use Rattle.fort_theory.specs.Cores as core
use Rattle.fort_theory.specs.Cores.{Core}
use Rattle.fort_theory.specs.PartLists.{AreParts}
use Rattle.fort_theory.specs.PatternStructures.{pattern_structure}
use Rattle.fort_tables.specs.Tables.{Table, Listed, IsListed}
use Rattle.fort_tables.specs.Counts as counts
use Rattle.fort_parts.specs.PartAnswers.{OfTable, IsAnswerTo}
use Rattle.fort_parts.specs.DecidedCores.{IsOperandOf}
use Rattle.fort_certificate_theory.specs.Certificates as certificates
use Rattle.fort_certificate_theory.specs.Dues.{DueStep, is_turned, counts_due, answer_due, parts_due, closures_due, dues}
use Rattle.fort_certificate_theory.specs.Made.{MadeSoFar, nothing_made, IsAnswerOf}
use Rattle.fort_certificate_theory.specs.Checked.{AreSteps, last_value}
use Rattle.fort_certificate_theory.specs.Written.{IsWrittenStep}
use Rattle.fort_certificate_theory.proofs.FineSteps.{HasClosures}
use Rattle.fort_outline.specs.declared.outline.Outline.{Outline}
use Rattle.fort_outline.specs.Outlines.{parts_in}
use Rattle.fort_engine.specs.declared.answer.Last.{Last}
use Rattle.fort_engine.specs.declared.answer.Last.TheVariants.{Truth, Auto}
use Rattle.fort_engine.specs.declared.options.Options.{Options}
use Rattle.fort_engine.specs.AnswerView.{as_answer}
use Rattle.fort_engine.specs.Found.{AreMarks, is_negation}
use Rattle.fort_findings.specs.declared.count.Count.{Count}
use Rattle.fort_steps.specs.declared.step.Step.{Step}
use Rattle.fort_findings.specs.FindingView.{as_count}
use Rattle.fort_steps.specs.StepView.{as_step}

-- how a formula is decided whose steps are recorded: with the targets of its tables
abbrev pub recorded_with : (cap : ℕ) (reduces : Bool) → Options
recorded_with cap reduces = record { cap = cap; reduces = reduces; lists = true }

-- the steps behind the old ones are those due, each as it is written, and make the last
pub record AddsSteps (system : PatternSystem) (parts : List Core) (made : MadeSoFar) (due : List DueStep) (old new : List Step) : Type 0 where
  pub added : List certificates.Step
  pub last : MadeSoFar
  pub all : map as_step new ≡ map as_step old ++ added
  pub done : AreSteps (IsWrittenStep system parts) made due added last

-- one more step
abbrev pub IsOneMore : List Step → certificates.Step → List Step → Type 0
IsOneMore old s new = map as_step new ≡ map as_step old ++ s ∷ []

-- the answer to a formula that is kept is the one that the steps make
abbrev pub IsKeptMade : List Core → MadeSoFar → List (Option Last) → Core → Type 0
IsKeptMade parts made kept g =
    (j : ℕ) (a : Last) → j < length kept → get_or parts j core.True ≡ g → get_or kept j None ≡ Some a → IsAnswerOf parts made g (as_answer a)

abbrev pub AreOperandsMade : List Core → MadeSoFar → List (Option Last) → Core → Type 0
AreOperandsMade parts made kept f = (g : Core) → IsOperandOf g f → IsKeptMade parts made kept g

-- those of the table that the steps make for g
pub record AreMarksMade (parts : List Core) (made : MadeSoFar) (n : ℕ) (g : Core) (marks : List counts.Count) : Type 0 where
  pub table : Table
  pub body : IsAnswerOf parts made g (OfTable table)
  pub are : AreMarks n g table marks

-- the step of counts, where there are any
abbrev pub CountsPushed : ℕ → Option (Vec Count Global) → (old new : List Step) → Type 0
CountsPushed k None old new = new ≡ old
CountsPushed k (Some list) old new = IsOneMore old (certificates.Counts k (map as_count list.items)) new

-- the counts of part k, which is "infinitely many" of g
pub record AreCountsAdded (parts : List Core) (made : MadeSoFar) (k n : ℕ) (g : Core) (old new : List Step) : Type 0 where
  pub counts : List counts.Count
  pub step : IsOneMore old (certificates.Counts k counts) new
  pub made_are : AreMarksMade parts made n g counts

abbrev pub CountsAdded : List Core → MadeSoFar → ℕ → Core → (old new : List Step) → Type 0
CountsAdded parts made k (core.Infinite n g) old new = AreCountsAdded parts made k n g old new
CountsAdded parts made k other old new = new ≡ old

-- the classes of the table of part k, where it was reduced
abbrev pub merge_of : ℕ → Option (Vec ℕ Global) → List certificates.Step
merge_of k None = []
merge_of k (Some classes) = certificates.Merge k classes.items ∷ []

-- the targets of a table, and its classes
abbrev pub TablePushed : ℕ → (targets classes : Option (Vec ℕ Global)) → (old new : List Step) → Type 0
TablePushed k None classes old new = ⊥
TablePushed k (Some targets) classes old new = map as_step new ≡ map as_step old ++ certificates.Part k targets.items ∷ merge_of k classes

-- the table of a negation is its body's, and has no step
pub record IsTableAdded (k : ℕ) (f : Core) (table : Listed) (targets classes : Option (Vec ℕ Global)) (old new : List Step) : Type 0 where
  pub turned : is_negation f ≡ true → new ≡ old
  pub pushed : is_negation f ≡ false → TablePushed k targets classes old new
  pub finals : length table.finals ≡ length table.presences
  pub lawful : IsListed table

-- the answer of part k
abbrev pub AnswerAdded : ℕ → Core → Last → (targets classes : Option (Vec ℕ Global)) → (old new : List Step) → Type 0
AnswerAdded k f (Truth b) targets classes old new = IsOneMore old (certificates.Value k b) new
AnswerAdded k f (Auto table) targets classes old new = IsTableAdded k f table targets classes old new

-- the targets of a table are there, but a negation's
abbrev pub HasTargets : Core → Last → Option (Vec ℕ Global) → Type 0
HasTargets f (Truth b) targets = Unit {0}
HasTargets f (Auto table) targets = is_negation f ≡ false → (list : Vec ℕ Global) × (targets ≡ Some list)

-- the answers of earlier parts that have a step are right
abbrev pub HasRightSteps : PatternSystem → List Core → ℕ → MadeSoFar → Type 0
HasRightSteps system parts k made =
    (j : ℕ) → j < k → j < length parts → is_turned (get_or parts j core.True) ≡ false
    → IsAnswerTo (pattern_structure system) (get_or parts j core.True) (made.answers j)

-- its steps, which make its answer and leave the others
pub record IsPartRecorded (reduces : Bool) (system : PatternSystem) (parts : List Core) (k : ℕ) (made : MadeSoFar) (answer : Last) (old new : List Step) : Type 0 where
  pub added : List certificates.Step
  pub last : MadeSoFar
  pub all : map as_step new ≡ map as_step old ++ added
  pub done : AreSteps (IsWrittenStep system parts) made (counts_due k (get_or parts k core.True) ++ answer_due (λ i. reduces) k (get_or parts k core.True)) added last
  pub closures : HasClosures system parts (1 + length system.rules) last
  pub others : (j : ℕ) → (j ≡ k → ⊥) → last.answers j ≡ made.answers j
  pub is : IsAnswerOf parts last (get_or parts k core.True) (as_answer answer)
  pub value : (v : Bool) → answer ≡ Truth v → last_value (map as_step new) ≡ Some v

-- the steps of the closures and of the first k parts, which make the answers that are kept
pub record IsRecordedTo (reduces : Bool) (system : PatternSystem) (parts : List Core) (uses : List ℕ) (k : ℕ) (kept : List (Option Last)) (steps : List Step) : Type 0 where
  pub made : MadeSoFar
  pub done : AreSteps (IsWrittenStep system parts) nothing_made (closures_due parts (length system.rules) 1 ++ parts_due (λ i. reduces) 0 (take k parts)) (map as_step steps) made
  pub closures : HasClosures system parts (1 + length system.rules) made
  pub right : HasRightSteps system parts k made
  pub kept_made : (j : ℕ) (a : Last) → j < k → k ≤ get_or uses j 0 → get_or kept j None ≡ Some a
      → IsAnswerOf parts made (get_or parts j core.True) (as_answer a)
  pub value : (j : ℕ) (v : Bool) → j + 1 ≡ k → k ≤ get_or uses j 0 → get_or kept j None ≡ Some (Truth v) → last_value (map as_step steps) ≡ Some v

-- the same, where the parts are numbered by 32 bits
pub record AreRecordedTo (reduces : Bool) (system : PatternSystem) (outline : Outline) (k : ℕ) (kept : List (Option Last)) (steps : List Step) : Type 0 where
  pub few : length outline.roots.items < 2 ^ 32
  pub recorded : IsRecordedTo reduces system (parts_in outline) outline.last_uses.items k kept steps

-- the steps of all parts, which make the formula's answer
pub record IsTraced (reduces : Bool) (system : PatternSystem) (f : Core) (answer : Last) (steps : List Step) : Type 0 where
  pub parts : List Core
  pub parts_are : AreParts f parts
  pub made : MadeSoFar
  pub done : AreSteps (IsWrittenStep system parts) nothing_made (dues (λ k. reduces) (length system.rules) parts) (map as_step steps) made
  pub is : IsAnswerOf parts made f (as_answer answer)
  pub value : (v : Bool) → answer ≡ Truth v → last_value (map as_step steps) ≡ Some v

-- answers that are not needed may be let go
pub AreRecordedTo-less : (reduces : Bool) (system : PatternSystem) (outline : Outline) (k : ℕ) (kept less : List (Option Last)) (steps : List Step) → AreRecordedTo reduces system outline k kept steps
    → ((j : ℕ) → j < k → k ≤ get_or outline.last_uses.items j 0 → get_or less j None ≡ get_or kept j None) → AreRecordedTo reduces system outline k less steps
AreRecordedTo-less reduces system outline k kept less steps h same =
    let far = h.recorded in
    record {
      few = h.few;
      recorded = record {
        made = far.made;
        done = far.done;
        closures = far.closures;
        right = far.right;
        kept_made = λ j a l m e. far.kept_made j a l m (sym (same j l m) ∙ e);
        value = λ j v n m e. far.value j v n m (sym (same j (omega arith) m) ∙ e);
      };
    }
