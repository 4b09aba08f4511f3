-- Views and numbers that are made for a tuple symbol leave those that are there.
use Rattle.std.proofs.Common.{◌≡◌, ℕ, ◌+◌, ◌-◌, ◌<◌, ◌≤◌, List, [], ◌∷◌, ◌++◌, map, length, take, get_or, refl, ap, sym, ◌∙◌, arith, subst, ⊎_elim, append_assoc, length-append}
use Rattle.std.proofs.lemmas.Bool.{cases_lt}
use Rattle.std.proofs.lemmas.List.{get_or_push, get_or_append_left, get_or-append_right, get_or-append-add, length-take-le, length_push, map-append, take_more}
use Rattle.fort_theory.specs.Signatures.{Signature}
use Rattle.fort_tables.specs.Tuples.{TupleSymbol}
use Rattle.fort_tuple_symbols.specs.Columns.{symbol_of, digits_again}
use Rattle.fort_tuple_symbols.specs.DigitNumbers.{AreDigits}
use Rattle.fort_tuple_symbols.specs.SymbolSetView.{Symbols}
use Rattle.fort_tuple_symbols.proofs.Bounds.{symbol_digits}
use Rattle.fort_entry_walk.specs.WalkPlaces.{wants}
use Rattle.fort_views.specs.SymbolViews.{sight, AreSights, HasSightsAt, AreSymbolRows, MayFind, AreFresh, HasMoreViews, HasPlaces}
use Rattle.fort_views.specs.declared.view.View.{View}
use Rattle.fort_views.specs.declared.views.Views.{Views}

-- fresh views and then fresh ones
pub AreFresh-append : (view : TupleSymbol → ℕ → List ℕ) (xs ys : List View) → AreFresh view xs → AreFresh view ys → AreFresh view (xs ++ ys)
AreFresh-append view xs ys h g = λ q v l e. ⊎_elim
    (λ b. h q v b (e ∙ get_or_append_left xs ys v q b))
    (λ b. g (q - length xs) v (omega (arith, length-append xs ys)) (e ∙ get_or-append_right xs ys (length xs) q v refl b))
    (cases_lt q (length xs))

-- more and then more
pub more_trans : (view : TupleSymbol → ℕ → List ℕ) (a b c : Views) → HasMoreViews view a b → HasMoreViews view b c → HasMoreViews view a c
more_trans view a b c h g = record {
  more = h.more ++ g.more;
  views = g.views ∙ (ap (λ xs. xs ++ g.more) h.views ∙ append_assoc a.views.items h.more g.more);
  sights = g.sights ∙ (ap (λ xs. xs ++ map sight g.more) h.sights ∙ (append_assoc a.sights (map sight h.more) (map sight g.more) ∙ ap (λ xs. a.sights ++ xs) (sym (map-append sight h.more g.more))));
  fresh = AreFresh-append view h.more g.more h.fresh g.fresh;
}

-- the sights stay those of the views
pub sights_more : (view : TupleSymbol → ℕ → List ℕ) (a b : Views) → a.sights ≡ map sight a.views.items → HasMoreViews view a b → b.sights ≡ map sight b.views.items
sights_more view a b e h = h.sights ∙ (ap (λ xs. xs ++ map sight h.more) e ∙ (sym (map-append sight a.views.items h.more) ∙ ap (map sight) (sym h.views)))

-- one more place of the symbol
pub places_more : (view : TupleSymbol → ℕ → List ℕ) (f : TupleSymbol) (ws : List ℕ) (w n : ℕ) (start old mid new : Views) → HasPlaces view f ws start old → HasMoreViews view old mid → mid.numbers.items ≡ old.numbers.items → new.sights ≡ mid.sights → new.numbers.items ≡ mid.numbers.items ++ n ∷ []
    → n < length mid.sights → get_or mid.sights n [] ≡ w ∷ view f (length ws) → HasPlaces view f (ws ++ w ∷ []) start new
places_more view f ws w n start old mid new h more same sights push low is =
    let len = length_push ws w in
    let lan = length_push h.added n in
    let longer : length old.sights ≤ length mid.sights = omega (arith, ap length more.sights, length-append old.sights (map sight more.more)) in
    let at : (k : ℕ) → k < length old.sights → get_or mid.sights k [] ≡ get_or old.sights k [] = λ k l. ap (λ xs. get_or xs k []) more.sights ∙ get_or_append_left old.sights (map sight more.more) [] k l in
    let w_old : (j : ℕ) → j < length ws → get_or (ws ++ w ∷ []) j 0 ≡ get_or ws j 0 = λ j b. get_or_append_left ws (w ∷ []) 0 j b in
    let n_old : (j : ℕ) → j < length ws → get_or (h.added ++ n ∷ []) j 0 ≡ get_or h.added j 0 = λ j b. get_or_append_left h.added (n ∷ []) 0 j (omega (arith, h.are.count)) in
    let F : List (List ℕ) → Type 0 = λ ss. AreSights view f (ws ++ w ∷ []) ss (h.added ++ n ∷ []) in
    let there : F mid.sights = record {
      count = omega (arith, h.are.count);
      within = λ j l. ⊎_elim
          (λ b. omega (arith, n_old j b, h.are.within j b))
          (λ b. let e : length h.added ≡ j = omega (arith, h.are.count) in omega (arith, get_or_push h.added n 0 j e))
          (cases_lt j (length ws));
      is = λ j l. ⊎_elim
          (λ b. ap (λ k. get_or mid.sights k []) (n_old j b) ∙ (at (get_or h.added j 0) (h.are.within j b) ∙ (h.are.is j b ∙ ap (λ x. x ∷ view f j) (sym (w_old j b)))))
          (λ b.
          let e : length h.added ≡ j = omega (arith, h.are.count) in
          let d : length ws ≡ j = omega arith in
          ap (λ k. get_or mid.sights k []) (get_or_push h.added n 0 j e) ∙ (is ∙ (ap (λ k. w ∷ view f k) d ∙ ap (λ x. x ∷ view f j) (sym (get_or_push ws w 0 j d)))))
          (cases_lt j (length ws));
    } in
    record {
      added = h.added ++ n ∷ [];
      numbers = push ∙ (ap (λ xs. xs ++ n ∷ []) (same ∙ h.numbers) ∙ append_assoc start.numbers.items h.added (n ∷ []));
      are = subst F (sym sights) there;
    }

-- numbers at a place where more are made
pub HasSightsAt-more : (view : TupleSymbol → ℕ → List ℕ) (f : TupleSymbol) (ws : List ℕ) (sights ss : List (List ℕ)) (numbers ns : List ℕ) (start : ℕ) → HasSightsAt view f ws sights numbers start → HasSightsAt view f ws (sights ++ ss) (numbers ++ ns) start
HasSightsAt-more view f ws sights ss numbers ns start h =
    let same : (j : ℕ) → j < length ws → get_or (numbers ++ ns) (start + j) 0 ≡ get_or numbers (start + j) 0 = λ j l. get_or_append_left numbers ns 0 (start + j) (omega (arith, h.there)) in
    record {
      there = omega (arith, h.there, length-append numbers ns);
      within = λ j l. omega (arith, same j l, h.within j l, length-append sights ss);
      is = λ j l. ap (λ k. get_or (sights ++ ss) k []) (same j l) ∙ (get_or_append_left sights ss [] (get_or numbers (start + j) 0) (h.within j l) ∙ h.is j l);
    }

-- numbers that are made
pub HasSightsAt-last : (view : TupleSymbol → ℕ → List ℕ) (f : TupleSymbol) (ws : List ℕ) (sights : List (List ℕ)) (numbers added : List ℕ) → AreSights view f ws sights added → HasSightsAt view f ws sights (numbers ++ added) (length numbers)
HasSightsAt-last view f ws sights numbers added h =
    let same : (j : ℕ) → get_or (numbers ++ added) (length numbers + j) 0 ≡ get_or added j 0 = λ j. get_or-append-add numbers added j 0 in
    record {
      there = omega (arith, h.count, length-append numbers added);
      within = λ j l. omega (arith, same j, h.within j l);
      is = λ j l. ap (λ k. get_or sights k []) (same j) ∙ h.is j l;
    }

-- Result: the symbols that were met, with one more
pub rows_added : (view : TupleSymbol → ℕ → List ℕ) (sig : Signature) (columns : ℕ) (digits wanted : List ℕ) (old new : Views) → MayFind view sig columns digits wanted old → HasMoreViews view old new → HasPlaces view (symbol_of digits) wanted old new
    → new.symbols.base ≡ old.symbols.base → new.symbols.columns ≡ old.symbols.columns → new.symbols.digits ≡ old.symbols.digits ++ digits ∷ [] → new.starts.items ≡ old.starts.items ++ length old.numbers.items ∷ [] → AreSymbolRows view sig columns new
rows_added view sig columns digits wanted old new h more places base cols dss starts =
    let ds = old.symbols.digits in
    let row : List (List ℕ) → List ℕ → ℕ → Type 0 = λ dss ss k. HasSightsAt view (symbol_of (get_or dss k [])) (wants sig (symbol_of (get_or dss k []))) new.sights new.numbers.items (get_or ss k 0) in
    let len = ap length dss ∙ length_push ds digits in
    let here : HasSightsAt view (symbol_of digits) (wants sig (symbol_of digits)) new.sights new.numbers.items (length old.numbers.items) =
    subst (λ ws. HasSightsAt view (symbol_of digits) ws new.sights new.numbers.items (length old.numbers.items)) h.wanted_are
    (subst (λ ns. HasSightsAt view (symbol_of digits) wanted new.sights ns (length old.numbers.items)) (sym places.numbers)
    (HasSightsAt-last view (symbol_of digits) wanted new.sights old.numbers.items places.added places.are)) in
    let F : List ℕ → ℕ → Type 0 = λ d s. HasSightsAt view (symbol_of d) (wants sig (symbol_of d)) new.sights new.numbers.items s in
    let before : (k : ℕ) → k < length ds → F (get_or ds k []) (get_or old.starts.items k 0) = λ k l.
    let d = get_or ds k [] in
    subst (λ ss. HasSightsAt view (symbol_of d) (wants sig (symbol_of d)) ss new.numbers.items (get_or old.starts.items k 0)) (sym more.sights)
    (subst (λ ns. HasSightsAt view (symbol_of d) (wants sig (symbol_of d)) (old.sights ++ map sight more.more) ns (get_or old.starts.items k 0)) (sym places.numbers)
    (HasSightsAt-more view (symbol_of d) (wants sig (symbol_of d)) old.sights (map sight more.more) old.numbers.items places.added (get_or old.starts.items k 0) (h.rows.rows k l))) in
    record {
      base = base ∙ h.rows.base;
      columns_are = cols ∙ h.rows.columns_are;
      sights = sights_more view old new h.rows.sights more;
      count = ap length starts ∙ (length_push old.starts.items (length old.numbers.items) ∙ (ap (λ n. n + 1) h.rows.count ∙ sym len));
      rows = λ k l. ⊎_elim
          (λ b.
          let d_is : get_or ds k [] ≡ get_or new.symbols.digits k [] = sym (ap (λ xs. get_or xs k []) dss ∙ get_or_append_left ds (digits ∷ []) [] k b) in
          let s_is : get_or old.starts.items k 0 ≡ get_or new.starts.items k 0 = sym (ap (λ xs. get_or xs k 0) starts ∙ get_or_append_left old.starts.items (length old.numbers.items ∷ []) 0 k (omega (arith, h.rows.count))) in
          subst (λ d. F d (get_or new.starts.items k 0)) d_is (subst (λ s. F (get_or ds k []) s) s_is (before k b)))
          (λ b.
          let e : length ds ≡ k = omega (arith, len) in
          let d_is : digits ≡ get_or new.symbols.digits k [] = sym (ap (λ xs. get_or xs k []) dss ∙ get_or_push ds digits [] k e) in
          let s_is : length old.numbers.items ≡ get_or new.starts.items k 0 = sym (ap (λ xs. get_or xs k 0) starts ∙ get_or_push old.starts.items (length old.numbers.items) 0 k (h.rows.count ∙ e)) in
          subst (λ d. F d (get_or new.starts.items k 0)) d_is (subst (λ s. F digits s) s_is here))
          (cases_lt k (length ds));
    }

-- Result: the numbers of one more place
pub places_step : (view : TupleSymbol → ℕ → List ℕ) (f : TupleSymbol) (wanted : List ℕ) (place n : ℕ) (start old mid new : Views) → HasPlaces view f (take place wanted) start old → HasMoreViews view old mid → mid.numbers.items ≡ old.numbers.items → new.sights ≡ mid.sights → new.numbers.items ≡ mid.numbers.items ++ n ∷ []
    → place < length wanted → n < length mid.sights → get_or mid.sights n [] ≡ get_or wanted place 0 ∷ view f place → HasPlaces view f (take (place + 1) wanted) start new
places_step view f wanted place n start old mid new h more same sights push low there is =
    let count : place ≡ length (take place wanted) = sym (length-take-le place wanted (omega arith)) in
    subst (λ ws. HasPlaces view f ws start new) (sym (take_more wanted place 0 low))
    (places_more view f (take place wanted) (get_or wanted place 0) n start old mid new h more same sights push there (is ∙ ap (λ k. get_or wanted place 0 ∷ view f k) count))

-- Result: the digits of a tuple symbol are as the set asks
pub digits_fit : (view : TupleSymbol → ℕ → List ℕ) (sig : Signature) (columns : ℕ) (digits wanted : List ℕ) (s : Views) (symbols : Symbols) → MayFind view sig columns digits wanted s → symbols ≡ s.symbols → AreDigits symbols.base symbols.columns digits
digits_fit view sig columns digits wanted s symbols h e =
    let fits : AreDigits (length sig + 1) columns digits = subst (AreDigits (length sig + 1) columns) (digits_again digits) (symbol_digits sig columns (symbol_of digits) h.symbol) in
    let base : length sig + 1 ≡ symbols.base = sym (ap (λ (x : Symbols). x.base) e ∙ h.rows.base) in
    let cols : columns ≡ symbols.columns = sym (ap (λ (x : Symbols). x.columns) e ∙ h.rows.columns_are) in
    subst (λ b. AreDigits b symbols.columns digits) base (subst (λ c. AreDigits (length sig + 1) c digits) cols fits)
