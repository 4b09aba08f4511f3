-- One more place, and one more tuple symbol; views that are made later change none.
use Rattle.std.proofs.Common.{◌≡◌, ◌⊎◌, ℕ, ◌+◌, ◌-◌, ◌^◌, ◌<◌, ◌≤◌, List, [], ◌∷◌, ◌++◌, length, get_or, refl, ap, sym, ◌∙◌, arith, subst, ⊎_elim, length-append}
use Rattle.std.proofs.lemmas.Bool.{cases_lt}
use Rattle.std.proofs.lemmas.List.{get_or_append_left, get_or_push, length_push, append-nil, append_assoc}
use Rattle.fort_tables.specs.Tuples.{TupleSymbol, IsTupleSymbol, symbol_kids}
use Rattle.fort_tables.specs.Tables.{Table}
use Rattle.fort_tuple_symbols.specs.SymbolNumbers.{columns_at}
use Rattle.fort_target_lists.specs.Places.{number_of}
use Rattle.fort_target_lists.specs.Flats.{base_of}
use Rattle.fort_target_lists.proofs.SymbolNumbers.{columns_again}
use Rattle.fort_table_classes.specs.ClassViews.{IsPlaceUnder}
use Rattle.fort_classed_tables.specs.declared.place_views.PlaceViews.{PlaceViews}
use Rattle.fort_classed_tables.specs.PlaceLeaders.{IsLedPlace, leader_in, leader_at, lead_in}
use Rattle.fort_classed_tables.specs.MakingViews.{AreViews, IsLonger, HasPlaces, AreLedTo}
use Rattle.fort_classed_tables.proofs.PlaceLaws.{led_own}

-- lists that grow
pub longer_none : {A : Type 0} (xs : List A) → IsLonger xs xs
longer_none xs = record { more = []; is = sym (append-nil xs) }

pub longer_push : {A : Type 0} (xs ys : List A) (x : A) → ys ≡ xs ++ x ∷ [] → IsLonger xs ys
longer_push xs ys x e = record { more = x ∷ []; is = e }

pub longer_longer : {A : Type 0} (xs ys zs : List A) → IsLonger xs ys → IsLonger ys zs → IsLonger xs zs
longer_longer xs ys zs a b = record { more = a.more ++ b.more; is = b.is ∙ (ap (λ us. us ++ b.more) a.is ∙ append_assoc xs a.more b.more) }

longer_at : {A : Type 0} (xs ys : List A) (k : ℕ) (d : A) → IsLonger xs ys → k < length xs → get_or ys k d ≡ get_or xs k d
longer_at xs ys k d a l = ap (λ us. get_or us k d) a.is ∙ get_or_append_left xs a.more d k l

longer_length : {A : Type 0} (xs ys : List A) → IsLonger xs ys → length xs ≤ length ys
longer_length xs ys a = omega (arith, ap length a.is, length-append xs a.more)

-- the first view, and one more
pub views_first : (views : List (List ℕ)) → views ≡ [] ∷ [] → AreViews views
views_first views e = record {
  some = omega (arith, ap length e);
  few = omega (arith, ap length e);
  first = ap (λ (xs : List (List ℕ)). get_or xs 0 []) e;
}

pub views_more : (views new : List (List ℕ)) (xs : List ℕ) → AreViews views → length views < 2 ^ 32 → new ≡ views ++ xs ∷ [] → AreViews new
views_more views new xs v l e = record {
  some = omega (arith, ap length e, length_push views xs);
  few = omega (arith, ap length e, length_push views xs, l);
  first = ap (λ (ys : List (List ℕ)). get_or ys 0 []) e ∙ (get_or_append_left views (xs ∷ []) [] 0 v.some ∙ v.first);
}

-- a place's leaders stay while views and numbers are added
led_stays : (table : Table) (f : TupleSymbol) (j : ℕ) (views views' : List (List ℕ)) (n n' : ℕ) → IsLonger views views' → n < length views → n' ≡ n
    → IsLedPlace table f j (leader_at views n) → IsLedPlace table f j (leader_at views' n')
led_stays table f j views views' n n' a l e h =
    let same : get_or views n [] ≡ get_or views' n' [] = sym (longer_at views views' n [] a l) ∙ ap (λ k. get_or views' k []) (sym e) in
    subst (λ xs. IsLedPlace table f j (leader_in xs)) same h

-- a view with the leaders, or that of no leaders
led_in_view : (table : Table) (f : TupleSymbol) (j : ℕ) (views : List (List ℕ)) (n n' : ℕ) (leaders : List ℕ) → n' ≡ n → (get_or views n [] ≡ leaders) ⊎ (get_or views n [] ≡ [])
    → IsLedPlace table f j (leader_in leaders) → IsLedPlace table f j (leader_at views n')
led_in_view table f j views n n' leaders e either h =
    let F : List ℕ → Type 0 = λ xs. IsLedPlace table f j (leader_in xs) in
    let z : get_or views n [] ≡ get_or views n' [] = ap (λ k. get_or views k []) (sym e) in
    subst F z (⊎_elim (λ a. subst F (sym a) h) (λ a. subst F (sym a) (led_own table f j)) either)

-- no place yet
pub places_none : (table : Table) (f : TupleSymbol) (v : PlaceViews) → AreViews v.views → HasPlaces table f 0 v v
places_none table f v is = record {
  views = is;
  longer = longer_none v.views;
  numbers = longer_none v.numbers.items;
  count = omega arith;
  known = λ j l. absurd (omega (arith, l));
  led = λ j l. absurd (omega (arith, l));
}

-- Result: one more place
pub places_more : (table : Table) (f : TupleSymbol) (p : ℕ) (old mid new : PlaceViews) (n : ℕ) (leaders : List ℕ) → HasPlaces table f p old mid
    → AreViews new.views → IsLonger mid.views new.views → new.numbers.items ≡ mid.numbers.items ++ n ∷ [] → n < length new.views
    → (get_or new.views n [] ≡ leaders) ⊎ (get_or new.views n [] ≡ []) → IsLedPlace table f p (leader_in leaders) → HasPlaces table f (p + 1) old new
places_more table f p old mid new n leaders h views longer e low either led =
    let start = length old.numbers.items in
    let grown = longer_push mid.numbers.items new.numbers.items n e in
    let before : (j : ℕ) → j < p → get_or new.numbers.items (start + j) 0 ≡ get_or mid.numbers.items (start + j) 0 =
    λ j l. longer_at mid.numbers.items new.numbers.items (start + j) 0 grown (omega (arith, h.count, l)) in
    let last : get_or new.numbers.items (start + p) 0 ≡ n = ap (λ (xs : List ℕ). get_or xs (start + p) 0) e ∙ get_or_push mid.numbers.items n 0 (start + p) h.count in
    record {
      views = views;
      longer = longer_longer old.views mid.views new.views h.longer longer;
      numbers = longer_longer old.numbers.items mid.numbers.items new.numbers.items h.numbers grown;
      count = omega (arith, ap length e, length_push mid.numbers.items n, h.count);
      known = λ j l. ⊎_elim
          (λ (o : j < p). omega (arith, before j o, h.known j o, longer_length mid.views new.views longer))
          (λ (o : p ≤ j). let z : start + j ≡ start + p = omega (arith, o, l) in omega (arith, ap (λ k. get_or new.numbers.items k 0) z, last, low))
          (cases_lt j p);
      led = λ j l. ⊎_elim
          (λ (o : j < p). led_stays table f j mid.views new.views (get_or mid.numbers.items (start + j) 0) (get_or new.numbers.items (start + j) 0) longer (h.known j o) (before j o) (h.led j o))
          (λ (o : p ≤ j).
          let z : p ≡ j = omega (arith, o, l) in
          subst (λ i. IsLedPlace table f i (leader_at new.views (get_or new.numbers.items (start + i) 0))) z
          (led_in_view table f p new.views n (get_or new.numbers.items (start + p) 0) leaders last either led))
          (cases_lt j p);
    }

-- no tuple symbol yet
pub led_first : (table : Table) (v : PlaceViews) → AreViews v.views → v.starts.items ≡ [] → v.numbers.items ≡ [] → AreLedTo table 0 v
led_first table v is a b = record {
  views = is;
  count = ap length a;
  known = λ k l. absurd (omega (arith, l, ap length b));
  within = λ f j under l. absurd (omega (arith, l));
  led = λ f j under l. absurd (omega (arith, l));
}

-- Result: one more tuple symbol
module _ (table : Table) (n : ℕ) (f : TupleSymbol) (old begun new : PlaceViews) (is : f ≡ columns_at (base_of table) table.columns n) (h : AreLedTo table n old)
    (same_views : begun.views ≡ old.views) (same_numbers : begun.numbers.items ≡ old.numbers.items) (started : begun.starts.items ≡ old.starts.items ++ length old.numbers.items ∷ [])
    (places : HasPlaces table f (symbol_kids table.signature f) begun new) (same_starts : new.starts.items ≡ begun.starts.items) where
  starts_are : new.starts.items ≡ old.starts.items ++ length old.numbers.items ∷ []
  starts_are = same_starts ∙ started

  views_longer : IsLonger old.views new.views
  views_longer = subst (λ (vs : List (List ℕ)). IsLonger vs new.views) same_views places.longer

  numbers_longer : IsLonger old.numbers.items new.numbers.items
  numbers_longer = subst (λ (vs : List ℕ). IsLonger vs new.numbers.items) same_numbers places.numbers

  numbers_count : length new.numbers.items ≡ length old.numbers.items + symbol_kids table.signature f
  numbers_count = places.count ∙ ap (λ (vs : List ℕ). length vs + symbol_kids table.signature f) same_numbers

  old_start : (g : TupleSymbol) → number_of (base_of table) g < n → get_or new.starts.items (number_of (base_of table) g) 0 ≡ get_or old.starts.items (number_of (base_of table) g) 0
  old_start g l =
      let k = number_of (base_of table) g in
      ap (λ (xs : List ℕ). get_or xs k 0) starts_are ∙ get_or_append_left old.starts.items (length old.numbers.items ∷ []) 0 k (omega (arith, l, h.count))

  new_start : get_or new.starts.items n 0 ≡ length old.numbers.items
  new_start = ap (λ (xs : List ℕ). get_or xs n 0) starts_are ∙ get_or_push old.starts.items (length old.numbers.items) 0 n h.count

  -- the tuple symbol with this number
  symbol_here : (g : TupleSymbol) → IsTupleSymbol table.signature table.columns g → number_of (base_of table) g ≡ n → f ≡ g
  symbol_here g s e =
      is ∙ (ap (columns_at (base_of table) table.columns) (sym e)
      ∙ (ap (λ c. columns_at (base_of table) c (number_of (base_of table) g)) (sym s.width) ∙ columns_again table.signature (base_of table) g refl s.symbols))

  within_more : (g : TupleSymbol) (j : ℕ) → IsPlaceUnder table g j → number_of (base_of table) g < n + 1 → get_or new.starts.items (number_of (base_of table) g) 0 + j < length new.numbers.items
  within_more g j under l = ⊎_elim
      (λ (o : number_of (base_of table) g < n). omega (arith, old_start g o, h.within g j under o, numbers_count))
      (λ (o : n ≤ number_of (base_of table) g).
      let e : number_of (base_of table) g ≡ n = omega (arith, o, l) in
      let here = symbol_here g under.symbol e in
      omega (arith, ap (λ k. get_or new.starts.items k 0) e, new_start, numbers_count, under.place, ap (symbol_kids table.signature) here))
      (cases_lt (number_of (base_of table) g) n)

  led_here : (j k : ℕ) → j < symbol_kids table.signature f → k ≡ n → IsLedPlace table f j (leader_at new.views (get_or new.numbers.items (get_or new.starts.items k 0 + j) 0))
  led_here j k l e =
      let start : length begun.numbers.items ≡ get_or new.starts.items k 0 = ap length same_numbers ∙ (sym new_start ∙ ap (λ i. get_or new.starts.items i 0) (sym e)) in
      subst (λ s. IsLedPlace table f j (leader_at new.views (get_or new.numbers.items (s + j) 0))) start (places.led j l)

  led_before : (g : TupleSymbol) (j : ℕ) → IsPlaceUnder table g j → number_of (base_of table) g < n → IsLedPlace table g j (lead_in table new.views new.starts.items new.numbers.items g j)
  led_before g j under o =
      let low = h.within g j under o in
      let k = get_or old.starts.items (number_of (base_of table) g) 0 + j in
      let number : get_or new.numbers.items (get_or new.starts.items (number_of (base_of table) g) 0 + j) 0 ≡ get_or old.numbers.items k 0 =
      ap (λ s. get_or new.numbers.items (s + j) 0) (old_start g o) ∙ longer_at old.numbers.items new.numbers.items k 0 numbers_longer low in
      led_stays table g j old.views new.views (get_or old.numbers.items k 0) (get_or new.numbers.items (get_or new.starts.items (number_of (base_of table) g) 0 + j) 0) views_longer (h.known k low) number (h.led g j under o)

  known_more : (k : ℕ) → k < length new.numbers.items → get_or new.numbers.items k 0 < length new.views
  known_more k l = ⊎_elim
      (λ (o : k < length old.numbers.items). omega (arith, longer_at old.numbers.items new.numbers.items k 0 numbers_longer o, h.known k o, longer_length old.views new.views views_longer))
      (λ (o : length old.numbers.items ≤ k).
      let j = k - length old.numbers.items in
      let z : length begun.numbers.items + j ≡ k = omega (arith, o, ap length same_numbers) in
      omega (arith, ap (λ i. get_or new.numbers.items i 0) z, places.known j (omega (arith, o, l, numbers_count))))
      (cases_lt k (length old.numbers.items))

  pub led_symbol : AreLedTo table (n + 1) new
  led_symbol = record {
    views = places.views;
    count = ap length starts_are ∙ (length_push old.starts.items (length old.numbers.items) ∙ ap (λ k. k + 1) h.count);
    known = known_more;
    within = within_more;
    led = λ g j under l. ⊎_elim
        (λ (o : number_of (base_of table) g < n). led_before g j under o)
        (λ (o : n ≤ number_of (base_of table) g).
        let e : number_of (base_of table) g ≡ n = omega (arith, o, l) in
        let here = symbol_here g under.symbol e in
        subst (λ (s : TupleSymbol). IsLedPlace table s j (lead_in table new.views new.starts.items new.numbers.items g j)) here
        (led_here j (number_of (base_of table) g) (omega (arith, under.place, ap (symbol_kids table.signature) here)) e))
        (cases_lt (number_of (base_of table) g) n);
  }
