-- Inside: a formula about an argument, made by the argument's number and then bound.
use Rattle.std.specs.Prelude.{ℕ, List}
use Rattle.fort_theory.specs.Trees.{Tree}
use Rattle.fort_logic.specs.Formulas.{Name, Argument, Var, Ground}
use Rattle.fort_theory.specs.Cores.{Core, Leaf, IsTerm, Binary, Exists}
use Rattle.fort_theory.specs.Logic.{And}
use Rattle.fort_logic.specs.Translation.{number_in, term_at}

-- the number of an argument, where this is the first number that is not in use
abbrev pub number_of : List Name → ℕ → Argument → ℕ
number_of scope n (Var x) = number_in scope x
number_of scope n (Ground k) = n

-- the formula below the binder of an argument with this number
abbrev pub bound : List Tree → ℕ → Argument → Core → Core
bound terms n (Var x) f = f
bound terms n (Ground k) f = Exists n (Binary And (Leaf (IsTerm n (term_at terms k))) f)
