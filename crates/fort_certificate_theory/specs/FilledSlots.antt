-- Inside: forms that fill the slots of a step.
use Rattle.std.specs.Prelude.{ℕ, List, [], ◌∷◌, Option, None, Some}
use Rattle.fort_grammar.specs.Forms.{Form}
use Rattle.fort_certificate_theory.specs.CertificateFaults.{Slot, Fits}

-- these slots, and then any number of the last one, if there is one
abbrev pub FitAll : List ℕ → List Slot → Option Slot → List Form → Type 0
FitAll bytes [] None [] = Unit {0}
FitAll bytes [] None (f ∷ fs) = ⊥
FitAll bytes [] (Some s) [] = Unit {0}
FitAll bytes [] (Some s) (f ∷ fs) = Fits bytes f s × FitAll bytes [] (Some s) fs
FitAll bytes (s ∷ ss) rest [] = ⊥
FitAll bytes (s ∷ ss) rest (f ∷ fs) = Fits bytes f s × FitAll bytes ss rest fs
