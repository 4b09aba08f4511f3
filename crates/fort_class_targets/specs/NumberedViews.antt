-- To believe: the views of the places under the tuple symbols with the first numbers, and their numbers.
use Rattle.std.specs.Prelude.{◌≡◌, ℕ, ◌+◌, ◌*◌, ◌<◌, ◌≤◌, List, ◌++◌, length, get_or}
use Rattle.fort_theory.specs.Signatures.{Signature}
use Rattle.fort_tables.specs.Tuples.{TupleSymbol}
use Rattle.fort_entry_walk.specs.WalkPlaces.{wants}
use Rattle.fort_tuple_symbols.specs.SymbolNumbers.{columns_at}
use Rattle.fort_views.specs.SymbolViews.{AreSights, HasSightsAt, AreSymbolRows, AreFresh, HasMoreViews}
use Rattle.fort_views.specs.declared.views.Views.{Views}

-- the same numbers and then those of the views of the tuple symbol's places; there may be more views
pub record HasNumbers (view : TupleSymbol → ℕ → List ℕ) (sig : Signature) (f : TupleSymbol) (old new : Views) (before after : List ℕ) : Type 0 where
  pub rows : AreSymbolRows view sig (length f) new
  pub more : HasMoreViews view old new
  pub few : length new.views.items ≤ length old.views.items + 8
  pub added : List ℕ
  pub numbers : after ≡ before ++ added
  pub are : AreSights view f (wants sig f) new.sights added

-- the tuple symbols with the first n numbers have the numbers of their places' views where they start; no view has taken up a state
pub record HasPlaces (view : TupleSymbol → ℕ → List ℕ) (sig : Signature) (columns n : ℕ) (views : Views) (starts numbers : List ℕ) : Type 0 where
  pub rows : AreSymbolRows view sig columns views
  pub few : length views.views.items ≤ 8 * n
  pub fresh : AreFresh view views.views.items
  pub count : length starts ≡ n
  pub places : (m : ℕ) → m < n → HasSightsAt view (columns_at (length sig + 1) columns m) (wants sig (columns_at (length sig + 1) columns m)) views.sights numbers (get_or starts m 0)
