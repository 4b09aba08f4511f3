-- To believe: the system whose one rule is f(x) -> a, over a constant a and a symbol f of one argument.
use Rattle.std.specs.Prelude.{[], ◌∷◌, codes}
use Rattle.fort_theory.specs.Signatures.{Signature, symbol}
use Rattle.fort_theory.specs.Sides.{Var, App, NoSide, MoreSides, Rule, System}

abbrev pub a_and_f : Signature
a_and_f = symbol (codes "a") 0 ∷ symbol (codes "f") 1 ∷ []

abbrev pub f_to_a : Rule
f_to_a = record { left = App 1 (MoreSides (Var 0) NoSide); right = App 0 NoSide }

abbrev pub one_rule : System
one_rule = record { signature = a_and_f; rules = (f_to_a ∷ []) ∷ [] }
