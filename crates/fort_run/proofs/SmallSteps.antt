-- Steps of a version with merges can be written exactly where their numbers are small.
use Rattle.std.specs.Prelude.{List, [], ◌∷◌, refl}
use Rattle.std.specs.List.{AllByRecursion}
use Rattle.fort_certificate_theory.specs.Certificates.{Step, Closure, Part, Merge, Counts, Value}
use Rattle.fort_certificate_theory.specs.CertificateText.{CanBeWritten}
use Rattle.fort_certificate.specs.Again.{HasSmallNumbers}
use Rattle.fort_certificate_theory.specs.OpenForms.{step_version}

step_small : (s : Step) → CanBeWritten step_version s → HasSmallNumbers s
step_small (Closure which index pairs) h = (h.0.0, h.1)
step_small (Part k targets) h = h
step_small (Merge k classes) h = (h.1, h.2)
step_small (Counts k counts) h = h
step_small (Value k value) h = h

step_written : (s : Step) → HasSmallNumbers s → CanBeWritten step_version s
step_written (Closure which index pairs) h = ((h.0, λ untold. absurd cc), h.1)
step_written (Part k targets) h = h
step_written (Merge k classes) h = (refl, h.0, h.1)
step_written (Counts k counts) h = h
step_written (Value k value) h = h

pub steps_small : (ss : List Step) → AllByRecursion (CanBeWritten step_version) ss → AllByRecursion HasSmallNumbers ss
steps_small [] h = tt
steps_small (s ∷ ss) h = (step_small s h.0, steps_small ss h.1)

pub steps_written : (ss : List Step) → AllByRecursion HasSmallNumbers ss → AllByRecursion (CanBeWritten step_version) ss
steps_written [] h = tt
steps_written (s ∷ ss) h = (step_written s h.0, steps_written ss h.1)
