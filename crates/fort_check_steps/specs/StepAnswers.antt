-- To believe: which outcome of a step an answer of the program tells.
use Rattle.std.specs.Prelude.{Result, Ok, Err}
use Rattle.fort_certificate_theory.specs.Outcomes as outcomes
use Rattle.fort_certificate_theory.specs.Outcomes.{StepOutcome, Fine, Fails}
use Rattle.fort_check_steps.specs.declared.failure.Failure.{Failure}
use Rattle.fort_check_steps.specs.declared.failure.Reason.{Reason}
use Rattle.fort_check_steps.specs.declared.failure.Reason.TheVariants.{Due, Range, Unfounded, Open, Target, Label, Short, Long, Class, Split, Count, Rank, Cycle, Value, Verdict}

abbrev pub as_reason : Reason → outcomes.Reason
as_reason Due = outcomes.Due
as_reason Range = outcomes.Range
as_reason Unfounded = outcomes.Unfounded
as_reason Open = outcomes.Open
as_reason Target = outcomes.Target
as_reason Label = outcomes.Label
as_reason Short = outcomes.Short
as_reason Long = outcomes.Long
as_reason Class = outcomes.Class
as_reason Split = outcomes.Split
as_reason Count = outcomes.Count
as_reason Rank = outcomes.Rank
as_reason Cycle = outcomes.Cycle
as_reason Value = outcomes.Value
as_reason Verdict = outcomes.Verdict

abbrev pub outcome_of : {U : Type 0} → Result U Failure → StepOutcome
outcome_of (Ok u) = Fine
outcome_of (Err e) = Fails e.place (as_reason e.reason)
