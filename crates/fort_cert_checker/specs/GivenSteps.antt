-- Inside: where a step is due, by what a check reads; what holds wherever it is.
use Rattle.std.specs.Prelude.{◌≡◌, ℕ, List, map, Option}
use Rattle.fort_theory.specs.Cores.{Core}
use Rattle.fort_certificate_theory.specs.Certificates.{Step}
use Rattle.fort_certificate_theory.specs.Made.{MadeSoFar}
use Rattle.fort_steps.specs.StepView.{as_step}
use Rattle.fort_check_steps.specs.declared.room.PartRoom.{PartRoom}
use Rattle.fort_check_steps.specs.declared.room.LabelRoom.{LabelRoom}
use Rattle.fort_check_steps.specs.declared.marks.MarkRoom.{MarkRoom}
use Rattle.fort_cert_checker.specs.declared.plan.Plan.{Plan}
use Rattle.fort_cert_checker.specs.declared.making.ClosurePlan.{ClosurePlan}
use Rattle.fort_cert_checker.specs.declared.one_step.CheckSources.{CheckSources}
use Rattle.fort_cert_checker.specs.Fronts.{IsLoopAt, IsStepDue, IsDueBehind}

-- a step of part f, behind the parts in front
abbrev pub IsPartDue : CheckSources → List Core → List PartRoom → MadeSoFar → Core → Plan → Step → PartRoom → LabelRoom → MarkRoom → Type 0
IsPartDue given parts front made f plan step room scratch marks =
    IsDueBehind given.system.now parts (map as_step given.steps.now) given.plans.now front made f plan step room scratch marks

abbrev pub WherePartDue : CheckSources → List PartRoom → Plan → Step → PartRoom → LabelRoom → MarkRoom → (List Core → Core → MadeSoFar → Type 0) → Type 0
WherePartDue given front plan step room scratch marks P =
    (parts : List Core) (f : Core) (made : MadeSoFar) → IsPartDue given parts front made f plan step room scratch marks → P parts f made

abbrev pub IsLoopOf : CheckSources → Core → List Core → List Step → List (Option ClosurePlan) → List PartRoom → LabelRoom → List MarkRoom → ℕ → MadeSoFar → Type 0
IsLoopOf given root parts ss closures rooms scratch marks n made = IsLoopAt given.system.now root parts ss given.plans.now closures rooms scratch marks n made

-- the certificate has the steps that are read, the loop stands at a place, and the step there is due
abbrev pub IsDueAt : CheckSources → List (Option ClosurePlan) → List PartRoom → LabelRoom → List MarkRoom → ℕ → List Core → Core → List Step → MadeSoFar → Type 0
IsDueAt given closures rooms scratch marks n parts root ss made =
    (ss ≡ map as_step given.steps.now) × IsLoopOf given root parts ss closures rooms scratch marks n made × IsStepDue given.system.now parts ss n

abbrev pub WhereDue : CheckSources → List (Option ClosurePlan) → List PartRoom → LabelRoom → List MarkRoom → ℕ → (List Core → Core → List Step → MadeSoFar → Type 0) → Type 0
WhereDue given closures rooms scratch marks n P =
    (parts : List Core) (root : Core) (ss : List Step) (made : MadeSoFar) → ss ≡ map as_step given.steps.now
    → IsLoopOf given root parts ss closures rooms scratch marks n made → IsStepDue given.system.now parts ss n → P parts root ss made
