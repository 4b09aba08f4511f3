-- Inside: what the fields of a tuple symbol stand for.
use Rattle.std.specs.Prelude.{◌≡◌, ℕ, ◌-◌, ◌≤◌, ◌++◌, map, length, take, drop, replicate, get_or}
use Rattle.std.proofs.Common.{ap, sym, ◌∙◌, arith}
use Rattle.std.proofs.lemmas.List.{length-map, length-take-le, take-append-drop}
use Rattle.fort_tables.specs.Tuples.{TupleSymbol}
use Rattle.fort_tuple_symbols.specs.Columns.{column_of, digit_of, digits_again}
use Rattle.fort_tuple_symbols.specs.declared.symbol.TupleSym.TheInside.{Inside}

abbrev pub symbol_in : Inside → TupleSymbol
symbol_in a = map column_of (take a.len a.digits)

-- the digits past the length are 0, and each is a column's
pub record IsCanonical (a : Inside) : Type 0 where
  pub short : a.len ≤ 16
  pub size : length a.digits ≡ 16
  pub clear : drop a.len a.digits ≡ replicate (16 - a.len) 0
  pub small : (k : ℕ) → get_or a.digits k 0 ≤ 65536

abbrev pub inside_of : TupleSymbol → Inside
inside_of f = record { len = length f; digits = map digit_of f ++ replicate (16 - length f) 0 }

pub inside_again : (a : Inside) → IsCanonical a → inside_of (symbol_in a) ≡ a
inside_again a h =
    let ds = take a.len a.digits in
    let p : length (map column_of ds) ≡ a.len = length-map ds column_of ∙ length-take-le a.len a.digits (omega (arith, h.short, h.size)) in
    let q : map digit_of (map column_of ds) ++ replicate (16 - length (map column_of ds)) 0 ≡ a.digits =
    ap (λ es. es ++ replicate (16 - length (map column_of ds)) 0) (digits_again ds)
    ∙ (ap (λ n. ds ++ replicate (16 - n) 0) p ∙ (ap (λ es. ds ++ es) (sym h.clear) ∙ take-append-drop a.len a.digits)) in
    λ i. record { len = p i; digits = q i }
