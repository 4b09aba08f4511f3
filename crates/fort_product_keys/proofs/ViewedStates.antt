-- Where a table's view of a place is read, and which states may stand at a place whose view has these words.
use Rattle.std.proofs.Common.{◌≡◌, ℕ, suc, ◌-◌, ◌<◌, List, length, get_or, true, false, ⊎_elim, ◌∙◌, arith}
use Rattle.std.proofs.lemmas.Bool.{cases_Bool, lt-ltb}
use Rattle.fort_tables.specs.Tuples.{TupleSymbol, AreSymbols, symbol_kids, kid_presence}
use Rattle.fort_tables.specs.Tables.{Table}
use Rattle.fort_tables.specs.Selections.{selected}
use Rattle.fort_tables.specs.Products.{OfTable}
use Rattle.fort_tables.proofs.SelectionLaws.{AreSymbols-selected}
use Rattle.fort_table_classes.specs.ClassViews.{IsPlaceUnder, IsSeenIn}
use Rattle.fort_table_classes.specs.KnownSymbols.{are_symbols}
use Rattle.fort_table_classes.proofs.SymbolTests.{symbols_from_test}
use Rattle.fort_product_keys.specs.ProductViews.{has_kid_at, IsSomeView}
use Rattle.fort_product_keys.proofs.SymbolTests.{test_from_kid, place_from_test}
use Rattle.fort_product_keys.proofs.WordLaws.{view_there, view_none, presence_there}

module _ (table : Table) (places : List ℕ) (columns : ℕ) (f : TupleSymbol) (j : ℕ) where
  -- the own columns have symbols of the table
  pub own_symbols : are_symbols table.signature f ≡ true → AreSymbols table.signature (selected places f)
  own_symbols h = AreSymbols-selected table.signature places f (symbols_from_test table.signature f h)

  -- the tests that pass
  pub there_by_place : length f ≡ columns → are_symbols table.signature f ≡ true → j < symbol_kids table.signature (selected places f) → has_kid_at table places columns f j ≡ true
  there_by_place wide h l = test_from_kid table places columns f j wide (symbols_from_test table.signature f h) ∙ lt-ltb j (symbol_kids table.signature (selected places f)) l

-- a place of the table whose view has these words
pub record IsViewedAt (table : Table) (number : TupleSymbol → ℕ → ℕ) (view presence : ℕ) : Type 0 where
  pub symbol : TupleSymbol
  pub place : ℕ
  pub under : IsPlaceUnder table symbol place
  pub view_is : view ≡ suc (number symbol place)
  pub presence_is : presence ≡ kid_presence table.signature symbol place

-- Result: a view of some place that isn't 0 is one of the table's
pub viewed_at : (table : Table) (places : List ℕ) (number : TupleSymbol → ℕ → ℕ) (view presence : ℕ) → IsSomeView number (OfTable table places) view presence → (view ≡ 0 → ⊥) → IsViewedAt table number view presence
viewed_at table places number view presence is some =
    let n = is.columns in
    let f = is.symbol in
    let j = is.place in
    ⊎_elim
    (λ (h : has_kid_at table places n f j ≡ true). record {
      symbol = selected places f;
      place = j;
      under = place_from_test table places n f j is.operand.1.0 h;
      view_is = is.view_is ∙ view_there table places n f j number h;
      presence_is = is.presence_is ∙ presence_there table places n f j number h;
    })
    (λ (h : has_kid_at table places n f j ≡ false). absurd (some (is.view_is ∙ view_none table places n f j number h)))
    (cases_Bool (has_kid_at table places n f j))

-- Result: a state of the presence may stand in the view
pub seen_in : (table : Table) (number : TupleSymbol → ℕ → ℕ) (view presence state : ℕ) → IsViewedAt table number view presence → state < length table.presences → get_or table.presences state 0 ≡ presence → IsSeenIn table number (view - 1) state
seen_in table number view presence state at within is = record {
  symbol = at.symbol;
  place = at.place;
  view_is = omega (arith, at.view_is);
  may = record {
    symbol = at.under.symbol;
    place = at.under.place;
    within = within;
    presence = is ∙ at.presence_is;
  };
}
