-- The test of a tuple symbol's columns says that they have symbols of the signature.
use Rattle.std.proofs.Common.{◌≡◌, ℕ, zero, suc, ◌<◌, [], ◌∷◌, drop, length, slice_get, Option, None, Some, Bool, true, false, ◌&&◌, nat_lt, refl, ap, sym, ◌∙◌, arith}
use Rattle.std.proofs.lemmas.Bool.{and_from, and_parts, lt-ltb, ltb-true}
use Rattle.fort_theory.specs.Signatures.{Signature}
use Rattle.fort_tables.specs.Tuples.{TupleSymbol, IsPresent, AreSymbols, symbol_kids}
use Rattle.fort_terms.specs.declared.sym.Sym.{Sym}
use Rattle.fort_tuple_symbols.specs.Columns.{as_column}
use Rattle.fort_table_classes.specs.KnownSymbols.{are_symbols}

-- the test of the symbols, both ways
pub test_from_symbols : (sig : Signature) (f : TupleSymbol) → AreSymbols sig f → are_symbols sig f ≡ true
test_from_symbols sig [] h = refl
test_from_symbols sig (None ∷ f) h = test_from_symbols sig f h
test_from_symbols sig (Some g ∷ f) h = and_from (nat_lt g (length sig)) (are_symbols sig f) (lt-ltb g (length sig) h.0) (test_from_symbols sig f h.1)

pub symbols_from_test : (sig : Signature) (f : TupleSymbol) → are_symbols sig f ≡ true → AreSymbols sig f
symbols_from_test sig [] h = tt
symbols_from_test sig (None ∷ f) h = symbols_from_test sig f h
symbols_from_test sig (Some g ∷ f) h =
    let p = and_parts (nat_lt g (length sig)) (are_symbols sig f) h in
    (ltb-true g (length sig) p.0, symbols_from_test sig f p.1)

-- some column is present where there is a child
pub present_over_kid : (sig : Signature) (f : TupleSymbol) → 0 < symbol_kids sig f → IsPresent f
present_over_kid sig [] h = absurd (omega arith)
present_over_kid sig (None ∷ f) h = present_over_kid sig f h
present_over_kid sig (Some g ∷ f) h = tt

-- one column and then those behind it
and_true : (b : Bool) → (b && true) ≡ b
and_true true = refl
and_true false = refl

column_is : (sig : Signature) (g : ℕ) → are_symbols sig (Some g ∷ []) ≡ nat_lt g (length sig)
column_is sig g = and_true (nat_lt g (length sig))

pub column_then : (sig : Signature) (f : TupleSymbol) (k : ℕ) (x : Option Sym) (b : Bool) → slice_get f k ≡ Some (as_column x) → b ≡ are_symbols sig (as_column x ∷ [])
    → are_symbols sig (drop k f) ≡ (b && are_symbols sig (drop (suc k) f))
column_then sig [] k x b h e = absurd cc
column_then sig (None ∷ f) zero None b h e = ap (λ c. c && are_symbols sig f) (sym e)
column_then sig (None ∷ f) zero (Some z) b h e = absurd cc
column_then sig (Some g ∷ f) zero None b h e = absurd cc
column_then sig (Some g ∷ f) zero (Some z) b h e =
    let same : g ≡ z.0 = cc in
    ap (λ c. c && are_symbols sig f) (ap (λ n. nat_lt n (length sig)) same ∙ (sym (column_is sig z.0) ∙ sym e))
column_then sig (y ∷ f) (suc k) x b h e = column_then sig f k x b h e
