-- To believe: a column of a tuple symbol as a number: 0 for absent, one more than the symbol's number else; its arity.
use Rattle.std.specs.Prelude.{◌≡◌, ℕ, zero, suc, List, [], ◌∷◌, map, Option, None, Some, refl}
use Rattle.std.proofs.Common.{ap}
use Rattle.fort_theory.specs.Signatures.{Signature}
use Rattle.fort_tables.specs.Tuples.{TupleSymbol, arity}
use Rattle.fort_terms.specs.declared.sym.Sym.{Sym}

abbrev pub column_of : ℕ → Option ℕ
column_of zero = None
column_of (suc g) = Some g

abbrev pub symbol_of : List ℕ → TupleSymbol
symbol_of ds = map column_of ds

abbrev pub digit_of : Option ℕ → ℕ
digit_of None = 0
digit_of (Some g) = suc g

-- the column that the program's column is
abbrev pub as_column : Option Sym → Option ℕ
as_column None = None
as_column (Some f) = Some f.0

abbrev pub as_symbol : List (Option Sym) → TupleSymbol
as_symbol columns = map as_column columns

pub digits_again : (ds : List ℕ) → map digit_of (map column_of ds) ≡ ds
digits_again [] = refl
digits_again (zero ∷ ds) = ap (λ es. 0 ∷ es) (digits_again ds)
digits_again (suc g ∷ ds) = ap (λ es. suc g ∷ es) (digits_again ds)

-- how many arguments the symbol of a digit has; an absent column has none
abbrev pub column_arity : Signature → ℕ → ℕ
column_arity sig zero = 0
column_arity sig (suc g) = arity sig g
