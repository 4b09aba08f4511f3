-- To believe: which symbols of the definitions the entries of the program are.
use Rattle.std.specs.Prelude.{ℕ, List, Vec, map, vec_items}
use Rattle.std.specs.declared.alloc.Global.{Global}
use Rattle.fort_theory.specs.Signatures as theory

-- a name with its arity
abbrev pub as_symbol : Vec ℕ Global × ℕ → theory.Symbol
as_symbol entry = theory.symbol (vec_items entry.0) entry.1

abbrev pub as_signature : List (Vec ℕ Global × ℕ) → theory.Signature
as_signature entries = map as_symbol entries
