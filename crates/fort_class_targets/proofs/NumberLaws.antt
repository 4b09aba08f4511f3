-- The views of all places and their numbers, tuple symbol by tuple symbol.
use Rattle.std.proofs.Common.{◌≡◌, ℕ, ◌+◌, ◌<◌, ◌≤◌, List, [], ◌∷◌, ◌++◌, map, take, length, get_or, None, Some, refl, ap, sym, ◌∙◌, arith, subst, ⊎_elim}
use Rattle.std.proofs.lemmas.Bool.{cases_lt}
use Rattle.std.proofs.lemmas.List.{append-nil, length_push, get_or_push, get_or_append_left}
use Rattle.fort_theory.specs.Signatures.{Signature}
use Rattle.fort_tables.specs.Tuples.{TupleSymbol, AreSymbols, IsPresent, IsTupleSymbol, symbol_kids, kid_presence}
use Rattle.fort_tuple_symbols.specs.Columns.{digit_of, symbol_of}
use Rattle.fort_tuple_symbols.specs.SymbolNumbers.{columns_at}
use Rattle.fort_tuple_symbols.proofs.Bounds.{symbol_again}
use Rattle.fort_entry_walk.specs.WalkPlaces.{wants}
use Rattle.fort_views.specs.SymbolViews.{sight, HasSightsAt, AreSymbolRows, MayFind, AreFresh}
use Rattle.fort_views.specs.declared.views.Views.{Views}
use Rattle.fort_views.specs.declared.view.View.{View}
use Rattle.fort_views.proofs.MakingLaws.{AreFresh-append, HasSightsAt-more, HasSightsAt-last}
use Rattle.fort_class_targets.specs.NumberedViews.{HasNumbers, HasPlaces}
use Rattle.fort_class_targets.proofs.ListLaws.{length-wants, wants_read}

-- a tuple symbol with children has a column
pub kids_present : (sig : Signature) (f : TupleSymbol) → 0 < symbol_kids sig f → IsPresent f
kids_present sig [] h = absurd (omega (arith, h))
kids_present sig (None ∷ f) h = kids_present sig f h
kids_present sig (Some g ∷ f) h = tt

-- without children it has no views
pub numbers_none : (view : TupleSymbol → ℕ → List ℕ) (sig : Signature) (f : TupleSymbol) (s : Views) (numbers : List ℕ) → symbol_kids sig f ≡ 0 → AreSymbolRows view sig (length f) s → HasNumbers view sig f s s numbers numbers
numbers_none view sig f s numbers none rows =
    let count : length (wants sig f) ≡ 0 = length-wants sig f ∙ none in
    let fresh : AreFresh view [] = λ q v l e. absurd (omega (arith, l)) in
    record {
      rows = rows;
      more = record { more = []; views = sym (append-nil s.views.items); sights = sym (append-nil s.sights); fresh = fresh };
      few = omega arith;
      added = [];
      numbers = sym (append-nil numbers);
      are = record { count = sym count; within = λ j l. absurd (omega (arith, l, count)); is = λ j l. absurd (omega (arith, l, count)) };
    }

-- with children its views may be asked for
pub may_find : (view : TupleSymbol → ℕ → List ℕ) (sig : Signature) (f : TupleSymbol) (ds room : List ℕ) (count : ℕ) (s : Views) → AreSymbolRows view sig (length f) s → AreSymbols sig f → ds ≡ map digit_of f → count ≡ symbol_kids sig f → (count ≡ 0 → ⊥) → count ≤ length room
    → ((j : ℕ) → j < count → get_or room j 0 ≡ kid_presence sig f j) → MayFind view sig (length f) ds (take count room) s
may_find view sig f ds room count s rows symbols digits is some few h =
    let same : f ≡ symbol_of ds = sym (ap symbol_of digits ∙ symbol_again f) in
    let kids : 0 < symbol_kids sig f = ⊎_elim (λ z. z) (λ z. absurd (some (let e : count ≡ 0 = omega (arith, z, is) in e))) (cases_lt 0 (symbol_kids sig f)) in
    let there : IsTupleSymbol sig (length f) f = record { width = refl; present = kids_present sig f kids; symbols = symbols } in
    record {
      rows = rows;
      symbol = subst (λ (g : TupleSymbol). IsTupleSymbol sig (length f) g) same there;
      wanted_are = wants_read sig f count room is few h ∙ ap (wants sig) same;
    }

-- Result: one more tuple symbol
pub places_more : (view : TupleSymbol → ℕ → List ℕ) (sig : Signature) (columns n : ℕ) (f : TupleSymbol) (old new : Views) (starts numbers more_starts more_numbers : List ℕ) → HasPlaces view sig columns n old starts numbers → length f ≡ columns → f ≡ columns_at (length sig + 1) columns n
    → more_starts ≡ starts ++ length numbers ∷ [] → HasNumbers view sig f old new numbers more_numbers → HasPlaces view sig columns (n + 1) new more_starts more_numbers
places_more view sig columns n f old new starts numbers more_starts more_numbers h width is pushed g =
    let symbol : ℕ → TupleSymbol = columns_at (length sig + 1) columns in
    let At : TupleSymbol → List (List ℕ) → List ℕ → ℕ → Type 0 = λ k ss ns s. HasSightsAt view k (wants sig k) ss ns s in
    let added : List ℕ = g.added in
    record {
      rows = subst (λ (c : ℕ). AreSymbolRows view sig c new) width g.rows;
      few = omega (arith, g.few, h.few);
      fresh = subst (λ (vs : List View). AreFresh view vs) (sym g.more.views) (AreFresh-append view old.views.items g.more.more h.fresh g.more.fresh);
      count = ap length pushed ∙ (length_push starts (length numbers) ∙ ap (λ k. k + 1) h.count);
      places = λ m l. ⊎_elim
          (λ (b : m < n).
          let at : get_or starts m 0 ≡ get_or more_starts m 0 = sym (ap (λ xs. get_or xs m 0) pushed ∙ get_or_append_left starts (length numbers ∷ []) 0 m (omega (arith, b, h.count))) in
          let before : At (symbol m) (old.sights ++ map sight g.more.more) (numbers ++ added) (get_or starts m 0) = HasSightsAt-more view (symbol m) (wants sig (symbol m)) old.sights (map sight g.more.more) numbers added (get_or starts m 0) (h.places m b) in
          subst (λ (ss : List (List ℕ)). At (symbol m) ss more_numbers (get_or more_starts m 0)) (sym g.more.sights)
          (subst (λ (ns : List ℕ). At (symbol m) (old.sights ++ map sight g.more.more) ns (get_or more_starts m 0)) (sym g.numbers)
          (subst (λ (z : ℕ). At (symbol m) (old.sights ++ map sight g.more.more) (numbers ++ added) z) at before)))
          (λ (b : n ≤ m).
          let e : n ≡ m = omega (arith, b, l) in
          let own : f ≡ symbol m = is ∙ ap symbol e in
          let at : length numbers ≡ get_or more_starts m 0 = sym (ap (λ xs. get_or xs m 0) pushed ∙ get_or_push starts (length numbers) 0 m (h.count ∙ e)) in
          let last : At f new.sights (numbers ++ added) (length numbers) = HasSightsAt-last view f (wants sig f) new.sights numbers added g.are in
          subst (λ (z : TupleSymbol). At z new.sights more_numbers (get_or more_starts m 0)) own
          (subst (λ (ns : List ℕ). At f new.sights ns (get_or more_starts m 0)) (sym g.numbers)
          (subst (λ (z : ℕ). At f new.sights (numbers ++ added) z) at last)))
          (cases_lt m n);
    }
