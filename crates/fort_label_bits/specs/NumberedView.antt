-- To believe: what a pattern by numbers is seen as, and a list of them.
use Rattle.std.specs.Prelude.{◌≡◌, ℕ, ◌<◌, List, length, get_or, Option, None, Some}
use Rattle.fort_theory.specs.Patterns.{Pattern, Any}
use Rattle.fort_terms.specs.declared.sym.Sym.{Sym}
use Rattle.fort_alike.specs.PatternNumbers.{PatternNumber, IsNumberOf}

-- without a symbol it is Any, and has no arguments
abbrev pub number_seen : Option Sym → List ℕ → PatternNumber
number_seen None ks = None
number_seen (Some f) ks = Some (f.0, ks)

-- each by numbers, in the same order
pub record AreNumbersOf (listed : List Pattern) (rows : List PatternNumber) : Type 0 where
  pub count : length rows ≡ length listed
  pub each : (k : ℕ) → k < length listed → IsNumberOf listed (get_or rows k None) (get_or listed k Any)
