-- The certificate that is written for an open formula is in order with its claim, and so proves it.
use Rattle.std.proofs.Common.{Bool, length}
use Rattle.fort_theory.specs.Patterns.{PatternSystem, IsSystem}
use Rattle.fort_theory.specs.Cores.{Core}
use Rattle.fort_theory.specs.PatternStructures.{pattern_structure}
use Rattle.fort_parts.specs.PartAnswers.{OfTable, IsAnswerTo}
use Rattle.fort_parts.specs.DecidedCores.{IsDecided}
use Rattle.fort_certificate_theory.specs.Dues.{dues}
use Rattle.fort_certificate_theory.specs.Made.{nothing_made}
use Rattle.fort_certificate_theory.specs.OpenCertificates.{OpenCertificate}
use Rattle.fort_certificate_theory.specs.OpenChecked.{Confirmed, HasOpenOutcome}
use Rattle.fort_certificate_theory.specs.OpenWritten.{IsOpenWritten}
use Rattle.fort_certificate_theory.proofs.OpenWrittenSteps.{fine_steps}
use Rattle.fort_certificate_theory.proofs.OpenWrittenLaws.{HasOpenOutcome-written}
use Rattle.fort_certificate_theory.specs.OpenTruth.{Proves}
use Rattle.fort_certificate_theory.proofs.RightSteps.{answer_right}
use Rattle.fort_certificate_theory.proofs.OpenTruthLaws.{proves}

-- the table that its steps make tells the formula's truth
pub written_answers : (reduces : Bool) (system : PatternSystem) → IsSystem system → (f : Core) → IsDecided system f
    → (c : OpenCertificate) (h : IsOpenWritten reduces system f c) → IsAnswerTo (pattern_structure system) f (OfTable h.table)
written_answers reduces system is f decided c h =
    let s = h.steps_are in
    let ds = dues (λ k. reduces) (length system.rules) s.parts in
    let fine = fine_steps system f s.parts s.parts_are nothing_made s.made ds c.steps s.written in
    answer_right system is f decided s.parts s.parts_are (λ k. reduces) s.made c.steps fine f (OfTable h.table) s.table_is

-- Result
pub written_in_order : (reduces : Bool) (system : PatternSystem) → IsSystem system → (f : Core) → IsDecided system f
    → (c : OpenCertificate) → IsOpenWritten reduces system f c → HasOpenOutcome system f c (Confirmed c.claim)
written_in_order reduces system is f decided c h =
    HasOpenOutcome-written reduces system f c h (written_answers reduces system is f decided c h).over

-- Result
pub written_proves : (reduces : Bool) (system : PatternSystem) → IsSystem system → (f : Core) → IsDecided system f
    → (c : OpenCertificate) → IsOpenWritten reduces system f c → Proves system f c c.claim
written_proves reduces system is f decided c h =
    proves system is f decided c c.claim (written_in_order reduces system is f decided c h)
