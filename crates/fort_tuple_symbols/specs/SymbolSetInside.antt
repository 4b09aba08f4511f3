-- Inside: what the fields of a set of tuple symbols stand for.
use Rattle.std.specs.Prelude.{ℕ, ◌<◌, ◌≤◌, ◌^◌, List, map, length, get_or}
use Rattle.fort_tuple_symbols.specs.DigitNumbers.{digits_at}
use Rattle.fort_tuple_symbols.specs.SymbolSetView.{Symbols}
use Rattle.fort_tuple_symbols.specs.declared.symbol_set.Storage.{Storage}
use Rattle.fort_tuple_symbols.specs.declared.symbol_set.Storage.TheVariants.{Numbered, Hashed}
use Rattle.fort_tuple_symbols.specs.declared.symbol_set.SymbolSet.TheInside.{Inside}

abbrev pub digits_in : ℕ → ℕ → Storage → List (List ℕ)
digits_in base columns (Numbered ns) = map (digits_at base columns) ns
digits_in base columns (Hashed dss) = dss

-- numbers are of that many digits, and there are few such
pub record AreFewNumbers (base columns : ℕ) (ns : List ℕ) : Type 0 where
  pub few : base ^ columns ≤ 2 ^ 26
  pub small : (q : ℕ) → q < length ns → get_or ns q 0 < base ^ columns

abbrev pub IsStorage : ℕ → ℕ → Storage → Type 0
IsStorage base columns (Numbered ns) = AreFewNumbers base columns ns
IsStorage base columns (Hashed dss) = Unit {0}

abbrev pub symbols_in : Inside → Symbols
symbols_in a = record { base = a.base; columns = a.columns; digits = digits_in a.base a.columns a.storage }

pub record IsSymbolSet (a : Inside) : Type 0 where
  pub some : 0 < a.base
  pub storage : IsStorage a.base a.columns a.storage
