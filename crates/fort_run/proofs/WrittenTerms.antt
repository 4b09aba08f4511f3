-- What is recorded for an open formula is the certificate that is written for it, and tells the least terms that satisfy it, or that none do.
use Rattle.std.proofs.Common.{◌≡◌, ℕ, Bool, List, map, ◌∙◌, subst}
use Rattle.fort_theory.specs.Trees.{Tree}
use Rattle.fort_theory.specs.Sides.{System}
use Rattle.fort_theory.specs.Patterns.{PatternSystem, pattern_system}
use Rattle.fort_logic.specs.Formulas.{Formula}
use Rattle.fort_theory.specs.Cores.{Core}
use Rattle.fort_theory.specs.PatternStructures.{pattern_structure}
use Rattle.fort_logic.specs.Translation.{core_of}
use Rattle.fort_tables.specs.Tables.{Table, listed_table}
use Rattle.fort_parts.specs.PartAnswers.{OfTable, IsAnswerTo}
use Rattle.fort_certificate_theory.specs.Certificates.{Step}
use Rattle.fort_steps.specs.StepView.{as_step}
use Rattle.fort_certificate_theory.specs.OpenWritten.{AreWrittenFor}
use Rattle.fort_trace.specs.declared.decide.OpenRecorded.{OpenRecorded}
use Rattle.fort_answers.specs.Requests.{Text}
use Rattle.fort_answers.specs.Lines.{positive}
use Rattle.fort_answers.specs.FormulaAnswer.{Open}
use Rattle.fort_run.specs.OpenTexts.{IsTextOf}
use Rattle.fort_run.specs.Posed.{IsPosed}
use Rattle.fort_run.specs.Ready.{IsLawful, IsAnsweredBy}
use Rattle.fort_run.specs.Verdicts.{IsTrueOpenCertificate}
use Rattle.fort_run.proofs.OpenTruths.{written_tells}
use Rattle.fort_run.proofs.PosedQuestions.{answered_by}
use Rattle.fort_run.proofs.SmallSteps.{steps_written}

-- Result
pub true_terms : (reduces : Bool) (f : Formula) (p : System) → IsLawful p → (system : PatternSystem) (terms : List Tree) (c : Core)
    → IsPosed Open f system terms c → system ≡ pattern_system p → (r : OpenRecorded) (made : Text) → IsTextOf r made
    → AreWrittenFor reduces system c (map as_step r.steps.items) (listed_table r.table)
    → IsAnswerTo (pattern_structure system) c (OfTable (listed_table r.table)) → (status : ℕ) (text : Text) → status ≡ positive → text ≡ made
    → IsTrueOpenCertificate reduces p terms f status text
true_terms reduces f p lawful system terms c posed same r made is written answers status text done spelled =
    let table : Table = listed_table r.table in
    let ss : List Step = map as_step r.steps.items in
    let own = subst (λ k. AreWrittenFor reduces system k ss table) posed.is written in
    let answered = answered_by Open f system terms c (OfTable table) posed answers in
    record {
      written = record {
        certificate = record { first = 0; claim = is.claim; steps = ss; nodes = is.nodes };
        written = record {
          table = table;
          steps_are = subst (λ s. AreWrittenFor reduces s (core_of terms f) ss table) same own;
          claim_is = is.written;
        };
        small_steps = steps_written ss is.small_steps;
        small_nodes = is.small_nodes;
        are = record { same_status = done; same_text = spelled ∙ is.is };
      };
      truth = written_tells p lawful f terms table (subst (λ s. IsAnsweredBy f s terms (OfTable table)) same answered) is.nodes is.claim is.written;
    }
