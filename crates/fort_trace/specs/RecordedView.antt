-- To believe: which certificate a recording is, whatever the number of its first form.
use Rattle.std.specs.Prelude.{ℕ, map}
use Rattle.fort_certificate_theory.specs.Certificates.{Certificate}
use Rattle.fort_steps.specs.StepView.{as_step}
use Rattle.fort_trace.specs.declared.decide.Recorded.{Recorded}

abbrev pub as_certificate : (first : ℕ) → Recorded → Certificate
as_certificate first r = record { first = first; verdict = r.verdict; steps = map as_step r.steps.items }
