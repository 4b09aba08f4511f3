-- The tests by which a place has a view say what they are to say.
use Rattle.std.proofs.Common.{◌≡◌, ℕ, ◌<◌, List, [], ◌∷◌, length, get_or, None, Some, true, ◌&&◌, ◌==◌, nat_lt, ap, ◌∙◌, arith, eq-eqb}
use Rattle.std.proofs.lemmas.Bool.{and_parts, ltb-true}
use Rattle.std.proofs.lemmas.List.{length-map}
use Rattle.fort_tables.specs.Tuples.{Tuple, TupleSymbol, kid_count, IsPresent, AreSymbols, symbol_kids}
use Rattle.fort_tables.specs.Tables.{Table}
use Rattle.fort_tables.specs.Selections.{selected}
use Rattle.fort_tables.proofs.SelectionLaws.{AreSymbols-selected}
use Rattle.fort_table_classes.specs.ClassViews.{IsPlaceUnder}
use Rattle.fort_table_classes.specs.KnownSymbols.{are_symbols}
use Rattle.fort_table_classes.proofs.SymbolTests.{test_from_symbols, symbols_from_test, present_over_kid}
use Rattle.fort_product_keys.specs.ProductViews.{has_kid_at}

-- some column is present where there is a child
pub tuple_over_kid : (t : Tuple) → 0 < kid_count t → IsPresent t
tuple_over_kid [] h = absurd (omega arith)
tuple_over_kid (None ∷ t) h = tuple_over_kid t h
tuple_over_kid (Some x ∷ t) h = tt

-- the test of a child, both ways
pub test_from_kid : (table : Table) (places : List ℕ) (columns : ℕ) (f : TupleSymbol) (j : ℕ) → length f ≡ columns → AreSymbols table.signature f → has_kid_at table places columns f j ≡ nat_lt j (symbol_kids table.signature (selected places f))
test_from_kid table places columns f j wide symbols =
    let low = nat_lt j (symbol_kids table.signature (selected places f)) in
    ap (λ b. b && (are_symbols table.signature f && low)) (eq-eqb (length f) columns wide) ∙ ap (λ b. b && low) (test_from_symbols table.signature f symbols)

pub place_from_test : (table : Table) (places : List ℕ) (columns : ℕ) (f : TupleSymbol) (j : ℕ) → length places ≡ table.columns → has_kid_at table places columns f j ≡ true → IsPlaceUnder table (selected places f) j
place_from_test table places columns f j wide h =
    let sig = table.signature in
    let own = selected places f in
    let p = and_parts (length f == columns) (are_symbols sig f && nat_lt j (symbol_kids sig own)) h in
    let q = and_parts (are_symbols sig f) (nat_lt j (symbol_kids sig own)) p.1 in
    let low : j < symbol_kids sig own = ltb-true j (symbol_kids sig own) q.1 in
    record {
      symbol = record {
        width = length-map places (λ p. get_or f p None) ∙ wide;
        present = present_over_kid sig own (omega arith);
        symbols = AreSymbols-selected sig places f (symbols_from_test sig f q.0);
      };
      place = low;
    }
