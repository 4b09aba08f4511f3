-- Inside: the formulas that have no operands.
use Rattle.fort_logic.specs.Formulas.{Formula, Not, And, Or, Imp, Iff, Exists, Forall, Infinite}

abbrev pub IsAtom : Formula → Type 0
IsAtom (Not f) = ⊥
IsAtom (And f g) = ⊥
IsAtom (Or f g) = ⊥
IsAtom (Imp f g) = ⊥
IsAtom (Iff f g) = ⊥
IsAtom (Exists x f) = ⊥
IsAtom (Forall x f) = ⊥
IsAtom (Infinite x f) = ⊥
IsAtom _ = Unit
