-- Inside: what a node is tested for.
use Rattle.std.specs.Prelude.{◌≡◌, ℕ, ◌<◌, ◌≤◌, List, length, get_or, Option, None, Some}
use Rattle.fort_theory.specs.Signatures.{Signature, IsSignature}
use Rattle.fort_tables.specs.Tuples.{TupleSymbol, AreSymbols, symbol_kids, kid_presence}
use Rattle.fort_tables.specs.Entries.{Entry}

-- absent, or a symbol whose number has 16 bits
abbrev pub IsSmallSymbol : Option ℕ → Type 0
IsSmallSymbol None = Unit {0}
IsSmallSymbol (Some g) = g < 65536

-- as many nodes as the tuple symbol has children, each of its child's presence
pub record HasKidsOver (sig : Signature) (presences : List ℕ) (symbol : TupleSymbol) (kids : List ℕ) : Type 0 where
  pub count : length kids ≡ symbol_kids sig symbol
  pub each : (j : ℕ) → j < length kids → (get_or kids j 0 < length presences) × (get_or presences (get_or kids j 0) 0 ≡ kid_presence sig symbol j)

-- its tuple symbol is of a signature, and it has no more columns and children than a row
pub record IsRowOver (sig : Signature) (e : Entry) : Type 0 where
  pub signature : IsSignature sig
  pub columns : length e.symbol ≤ 16
  pub symbols : AreSymbols sig e.symbol
  pub kids_few : length e.kids ≤ 8
