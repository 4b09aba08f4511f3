-- To believe: each tuple symbol that was met has for each place the view of the presence there and of what the place asks.
use Rattle.std.specs.Prelude.{◌≡◌, ℕ, ◌+◌, ◌<◌, ◌≤◌, List, [], ◌∷◌, ◌++◌, map, length, get_or}
use Rattle.fort_theory.specs.Signatures.{Signature}
use Rattle.fort_tables.specs.Tuples.{TupleSymbol, IsTupleSymbol}
use Rattle.fort_tables.specs.Labels.{first_word}
use Rattle.fort_tuple_symbols.specs.Columns.{symbol_of}
use Rattle.fort_entry_walk.specs.WalkPlaces.{wants}
use Rattle.fort_views.specs.Views.{IsAsked, IsViewOf, view_states}
use Rattle.fort_views.specs.declared.view.View.{View}
use Rattle.fort_views.specs.declared.views.Views.{Views}

-- the presence and the words of a view
abbrev pub sight : View → List ℕ
sight v = v.presence ∷ v.words.items

abbrev pub view_leaders_of : View → List ℕ
view_leaders_of v = v.leaders.items

-- for each place under the symbol the number of its sight
pub record AreSights (view : TupleSymbol → ℕ → List ℕ) (f : TupleSymbol) (wanted : List ℕ) (sights : List (List ℕ)) (numbers : List ℕ) : Type 0 where
  pub count : length numbers ≡ length wanted
  pub within : (j : ℕ) → j < length wanted → get_or numbers j 0 < length sights
  pub is : (j : ℕ) → j < length wanted → get_or sights (get_or numbers j 0) [] ≡ get_or wanted j 0 ∷ view f j

-- the same for numbers that begin at a place of a list
pub record HasSightsAt (view : TupleSymbol → ℕ → List ℕ) (f : TupleSymbol) (wanted : List ℕ) (sights : List (List ℕ)) (numbers : List ℕ) (start : ℕ) : Type 0 where
  pub there : start + length wanted ≤ length numbers
  pub within : (j : ℕ) → j < length wanted → get_or numbers (start + j) 0 < length sights
  pub is : (j : ℕ) → j < length wanted → get_or sights (get_or numbers (start + j) 0) [] ≡ get_or wanted j 0 ∷ view f j

-- a view of what some place asks, that has taken up no state from this one on
pub record IsViewUpTo (view : TupleSymbol → ℕ → List ℕ) (key : List ℕ → List ℕ → List ℕ) (labels : List (List ℕ)) (until : ℕ) (v : View) : Type 0 where
  pub asked : IsAsked view v
  pub is : IsViewOf key labels v
  pub taken : v.until ≤ until

abbrev pub AreViewsUpTo : (TupleSymbol → ℕ → List ℕ) → (List ℕ → List ℕ → List ℕ) → List (List ℕ) → ℕ → List View → Type 0
AreViewsUpTo view key labels until vs = (q : ℕ) (v : View) → q < length vs → v ≡ get_or vs q v → IsViewUpTo view key labels until v

-- the symbols that were met, each with its views
pub record AreSymbolRows (view : TupleSymbol → ℕ → List ℕ) (sig : Signature) (columns : ℕ) (s : Views) : Type 0 where
  pub base : s.symbols.base ≡ length sig + 1
  pub columns_are : s.symbols.columns ≡ columns
  pub sights : s.sights ≡ map sight s.views.items
  pub count : length s.starts.items ≡ length s.symbols.digits
  pub rows : (k : ℕ) → k < length s.symbols.digits → HasSightsAt view (symbol_of (get_or s.symbols.digits k [])) (wants sig (symbol_of (get_or s.symbols.digits k []))) s.sights s.numbers.items (get_or s.starts.items k 0)

-- a tuple symbol whose views may be asked for
pub record MayFind (view : TupleSymbol → ℕ → List ℕ) (sig : Signature) (columns : ℕ) (digits wanted : List ℕ) (s : Views) : Type 0 where
  pub rows : AreSymbolRows view sig columns s
  pub symbol : IsTupleSymbol sig columns (symbol_of digits)
  pub wanted_are : wanted ≡ wants sig (symbol_of digits)

-- a view of what some place asks that has taken up no state
pub record IsFresh (view : TupleSymbol → ℕ → List ℕ) (v : View) : Type 0 where
  pub asked : IsAsked view v
  pub until : v.until ≡ 0
  pub keys : v.keys ≡ []
  pub leaders : v.leaders.items ≡ []
  pub classes : v.classes.items ≡ []

abbrev pub AreFresh : (TupleSymbol → ℕ → List ℕ) → List View → Type 0
AreFresh view vs = (q : ℕ) (v : View) → q < length vs → v ≡ get_or vs q v → IsFresh view v

-- the same views and then more, which have taken up no state
pub record HasMoreViews (view : TupleSymbol → ℕ → List ℕ) (old new : Views) : Type 0 where
  pub more : List View
  pub views : new.views.items ≡ old.views.items ++ more
  pub sights : new.sights ≡ old.sights ++ map sight more
  pub fresh : AreFresh view more

-- the same numbers and then those of the symbol's places
pub record HasPlaces (view : TupleSymbol → ℕ → List ℕ) (f : TupleSymbol) (wanted : List ℕ) (old new : Views) : Type 0 where
  pub added : List ℕ
  pub numbers : new.numbers.items ≡ old.numbers.items ++ added
  pub are : AreSights view f wanted new.sights added

-- the same symbols with the same numbers
pub record KeepsSymbols (old new : Views) : Type 0 where
  pub symbols : new.symbols ≡ old.symbols
  pub starts : new.starts.items ≡ old.starts.items
  pub numbers : new.numbers.items ≡ old.numbers.items

-- views of the same sights
pub record HasSameSights (old new : Views) : Type 0 where
  pub sights : new.sights ≡ old.sights
  pub views : map sight new.views.items ≡ map sight old.views.items

-- the views with these numbers have taken up the states before this one
abbrev pub HaveTaken : ℕ → List View → List ℕ → Type 0
HaveTaken until vs numbers = (j : ℕ) → j < length numbers → get_or (map (λ (v : View). v.until) vs) (get_or numbers j 0) 0 ≡ until

abbrev pub view_classes_of : View → List ℕ
view_classes_of v = v.classes.items

-- the leaders of the views with these numbers
abbrev pub leaders_at : List View → List ℕ → List (List ℕ)
leaders_at vs numbers = map (λ n. get_or (map view_leaders_of vs) n []) numbers

-- views for the symbols that were met, which have taken up states with these labels before this one
pub record AreViewsOf (view : TupleSymbol → ℕ → List ℕ) (key : List ℕ → List ℕ → List ℕ) (sig : Signature) (columns : ℕ) (labels : List (List ℕ)) (until : ℕ) (s : Views) : Type 0 where
  pub rows : AreSymbolRows view sig columns s
  pub each : AreViewsUpTo view key labels until s.views.items

-- turned to a tuple symbol, up to the newest state: these are the numbers of the views of its places, which have taken up all states
pub record IsTurnedTo (view : TupleSymbol → ℕ → List ℕ) (key : List ℕ → List ℕ → List ℕ) (labels : List (List ℕ)) (newest : ℕ) (f : TupleSymbol) (wanted : List ℕ) (vs : List View) (numbers : List ℕ) : Type 0 where
  pub are : AreSights view f wanted (map sight vs) numbers
  pub taken : HaveTaken (newest + 1) vs numbers
  pub each : AreViewsUpTo view key labels (newest + 1) vs

-- the states up to the newest one of the presence at a place
abbrev pub place_states : List (List ℕ) → ℕ → List ℕ → ℕ → List ℕ
place_states labels newest wanted place = view_states labels (get_or wanted place 0) (newest + 1)

-- there is a state of this rank among them
pub record IsRankedAt (labels : List (List ℕ)) (newest : ℕ) (wanted : List ℕ) (place rank : ℕ) : Type 0 where
  pub there : place < length wanted
  pub within : rank < length (place_states labels newest wanted place)

-- a state up to the newest one that has the presence at a place
pub record IsStateAt (labels : List (List ℕ)) (newest : ℕ) (wanted : List ℕ) (place state : ℕ) : Type 0 where
  pub there : place < length wanted
  pub within : state < length labels
  pub taken : state ≤ newest
  pub presence : get_or (map first_word labels) state 0 ≡ get_or wanted place 0
