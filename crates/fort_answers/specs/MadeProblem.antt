-- To believe: the made problem of each size: constants c0, c1 and so on and a unary f; a rule from each constant to the one whose number is one more than the square of its own, counted round, and a rule from two f in a row to c0.
use Rattle.std.specs.Prelude.{ℕ, ◌+◌, ◌*◌, ◌%◌, List, [], ◌∷◌, ◌++◌, map, codes, decimal}
use Rattle.std.specs.List.{range_with_len}
use Rattle.fort_theory.specs.Signatures.{Symbol, Signature, symbol}
use Rattle.fort_theory.specs.Sides.{Side, Var, App, NoSide, MoreSides, Rule, System}

-- the constant with this number
abbrev pub made_constant : ℕ → Symbol
made_constant i = symbol (codes "c" ++ decimal i) 0

-- the constants in the order of their numbers, and then f
abbrev pub made_signature : (size : ℕ) → Signature
made_signature size = map made_constant (range_with_len 0 size) ++ symbol (codes "f") 1 ∷ []

abbrev pub constant_side : ℕ → Side
constant_side i = App i NoSide

-- f has the number behind those of the constants
abbrev pub f_side : (size : ℕ) → Side → Side
f_side size s = App size (MoreSides s NoSide)

abbrev pub constant_rule : (size i : ℕ) → Rule
constant_rule size i = record { left = constant_side i; right = constant_side ((i * i + 1) % size) }

abbrev pub f_rule : (size : ℕ) → Rule
f_rule size = record { left = f_side size (f_side size (Var 0)); right = constant_side 0 }

abbrev pub made_rules : (size : ℕ) → List Rule
made_rules size = map (constant_rule size) (range_with_len 0 size) ++ f_rule size ∷ []

unfoldable pub made_system : (size : ℕ) → System
made_system size = record { signature = made_signature size; rules = made_rules size ∷ [] }
