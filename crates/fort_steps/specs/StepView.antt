-- To believe: which step of the definitions a step of the program is.
use Rattle.std.specs.Prelude.{map}
use Rattle.fort_certificate_theory.specs.Certificates as certificates
use Rattle.fort_findings.specs.FindingView.{as_which, as_pair, as_count}
use Rattle.fort_steps.specs.declared.step.Step.{Step}
use Rattle.fort_steps.specs.declared.step.Step.TheVariants.{Closure, Part, Merge, Counts, Value}

abbrev pub as_step : Step → certificates.Step
as_step (Closure which index entries) = certificates.Closure (as_which which) index (map as_pair entries.items)
as_step (Part part targets) = certificates.Part part targets.items
as_step (Merge part classes) = certificates.Merge part classes.items
as_step (Counts part marks) = certificates.Counts part (map as_count marks.items)
as_step (Value part value) = certificates.Value part value
