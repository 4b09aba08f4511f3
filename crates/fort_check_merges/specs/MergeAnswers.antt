-- To believe: which outcome of a merge an answer of the program tells.
use Rattle.std.specs.Prelude.{◌≡◌, ℕ, List, Result}
use Rattle.fort_tables.specs.Tables.{Table}
use Rattle.fort_tables.specs.MergeOutcomes.{MergeOutcome, IsMergeOutcome}
use Rattle.fort_certificate_theory.specs.MergeSteps.{step_outcome}
use Rattle.fort_check_steps.specs.StepAnswers.{outcome_of}
use Rattle.fort_check_steps.specs.declared.failure.Failure.{Failure}

-- what comes of the merge is what the answer tells
abbrev pub IsAnswer : {U : Type 0} → Table → List ℕ → Result U Failure → Type 0
IsAnswer table classes result = (o : MergeOutcome) × IsMergeOutcome table classes o × (step_outcome o ≡ outcome_of result)
