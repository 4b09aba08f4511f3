-- Inside: what a value and marks are checked by.
use Rattle.std.specs.Prelude.{◌≡◌, ℕ, List, Bool, false}
use Rattle.fort_theory.specs.Patterns.{PatternSystem}
use Rattle.fort_theory.specs.Cores as core
use Rattle.fort_theory.specs.Cores.{Core}
use Rattle.fort_tables.specs.Counts.{Count}
use Rattle.fort_certificate_theory.specs.Certificates.{Counts}
use Rattle.fort_certificate_theory.specs.Dues.{has_columns}
use Rattle.fort_certificate_theory.specs.Made.{MadeSoFar}
use Rattle.fort_certificate_theory.specs.PartRules.{IsValueOf}
use Rattle.fort_check_steps.specs.declared.failure.Failure.{Failure}
use Rattle.fort_check_steps.specs.declared.failure.Reason.TheVariants.{Value}
use Rattle.fort_check_steps.specs.declared.marks.MarkRoom.{MarkRoom}
use Rattle.fort_cert_checker.specs.declared.plan.Plan.{Plan}
use Rattle.fort_cert_checker.specs.declared.past.Past.{Past}
use Rattle.fort_cert_checker.specs.Abouts.{IsOnlyAbout}
use Rattle.fort_cert_checker.specs.Pasts.{steps_of, IsPartDue, KnowsCounts, IsMarkRoomFor}

-- the value is due of part k, which is f
pub record IsValueDue (system : PatternSystem) (parts : List Core) (past : Past) (k : ℕ) (made : MadeSoFar) (f : Core) (p : Plan) (marks : MarkRoom) : Type 0 where
  pub due : IsPartDue system parts past k made f p
  pub columns : has_columns f ≡ false
  pub counts : KnowsCounts parts past k made
  pub marks_sized : IsMarkRoomFor (steps_of past) p.work marks

-- the failure of a value that isn't the part's own
pub record IsOtherValue (parts : List Core) (made : MadeSoFar) (k : ℕ) (f : Core) (value : Bool) (e : Failure) : Type 0 where
  pub own : Bool
  pub is : IsValueOf parts made k f own
  pub other : value ≡ own → ⊥
  pub place : e.place ≡ 0
  pub reason : e.reason ≡ Value

-- the marks are due of part k, which is f
pub record AreCountsDue (system : PatternSystem) (parts : List Core) (past : Past) (k : ℕ) (made : MadeSoFar) (f : Core) (p : Plan) (marks : List Count) (room : MarkRoom) : Type 0 where
  pub due : IsPartDue system parts past k made f p
  pub number : ℕ
  pub body : Core
  pub whole : f ≡ core.Infinite number body
  pub only : IsOnlyAbout (steps_of past) (Counts k marks)
  pub marks_sized : IsMarkRoomFor (steps_of past) p.work room
