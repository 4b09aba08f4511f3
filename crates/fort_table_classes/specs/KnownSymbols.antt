-- To believe: whether a tuple symbol's columns have symbols of a signature, as a test.
use Rattle.std.specs.Prelude.{length, [], ◌∷◌, None, Some, Bool, true, ◌&&◌, nat_lt}
use Rattle.fort_theory.specs.Signatures.{Signature}
use Rattle.fort_tables.specs.Tuples.{TupleSymbol}

-- whether each column that is present has a symbol of the signature
abbrev pub are_symbols : Signature → TupleSymbol → Bool
are_symbols sig [] = true
are_symbols sig (None ∷ f) = are_symbols sig f
are_symbols sig (Some g ∷ f) = nat_lt g (length sig) && are_symbols sig f
