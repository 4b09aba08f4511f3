-- Leaders that tell the targets at each place tell them at all places at once.
use Rattle.std.proofs.Common.{◌≡◌, ℕ, zero, suc, ◌+◌, ◌^◌, ◌<◌, ◌≤◌, List, [], ◌∷◌, ◌++◌, length, get_or, IsTrue, IsFalse, refl, ap, sym, ◌∙◌, arith, subst, ⊎_elim}
use Rattle.std.proofs.lemmas.Bool.{false≢true, cases_lt}
use Rattle.std.proofs.lemmas.List.{ext_get_or, length_push, append_assoc, get_or_past}
use Rattle.fort_tables.specs.Tuples.{TupleSymbol}
use Rattle.fort_tables.specs.Entries.{Entry, entry}
use Rattle.fort_tables.specs.Tables.{Table, IsTableEntry}
use Rattle.fort_classes.specs.Leaders.{Leaders, MayBeKid, led}
use Rattle.fort_classes.proofs.LeaderLaws.{length-led, get_or-led}
use Rattle.fort_operand_keys.specs.TableLeaders.{IsLedBy}
use Rattle.fort_table_classes.specs.ClassViews.{IsPlaceUnder}
use Rattle.fort_target_lists.specs.Places.{number_of}
use Rattle.fort_target_lists.specs.Flats.{base_of}
use Rattle.fort_target_lists.specs.TargetLists.{IsTargetListOf}
use Rattle.fort_target_lists.specs.declared.target_list.TargetList.{TargetList}
use Rattle.fort_target_lists.proofs.LookUpLaws.{symbol_below}
use Rattle.fort_classed_tables.specs.declared.place_views.PlaceViews.{PlaceViews}
use Rattle.fort_classed_tables.specs.PlaceLeaders.{IsLedPlace, leader_in, lead_in}
use Rattle.fort_classed_tables.specs.MakingViews.{AreViews, AreLedTo}
use Rattle.fort_classed_tables.specs.TableViews.{AreFoundViews}
use Rattle.fort_classed_tables.proofs.KidLaws.{child_of, entry_with}
use Rattle.fort_classed_tables.proofs.PlaceLaws.{led_own}

-- leaders of children from a place on
abbrev led_from : Leaders → TupleSymbol → ℕ → List ℕ → List ℕ
led_from lead f j [] = []
led_from lead f j (k ∷ ks) = lead f j k ∷ led_from lead f (suc j) ks

length-led_from : (lead : Leaders) (f : TupleSymbol) (j : ℕ) (ks : List ℕ) → length (led_from lead f j ks) ≡ length ks
length-led_from lead f j [] = refl
length-led_from lead f j (k ∷ ks) = ap suc (length-led_from lead f (suc j) ks)

get_or-led_from : (lead : Leaders) (f : TupleSymbol) (j : ℕ) (ks : List ℕ) (i : ℕ) → i < length ks → get_or (led_from lead f j ks) i 0 ≡ lead f (j + i) (get_or ks i 0)
get_or-led_from lead f j [] i l = absurd (omega (arith, l))
get_or-led_from lead f j (k ∷ ks) zero l = let z : j ≡ j + 0 = omega arith in ap (λ n. lead f n k) z
get_or-led_from lead f j (k ∷ ks) (suc i) l = let z : suc j + i ≡ j + suc i = omega arith in get_or-led_from lead f (suc j) ks i (omega (arith, l)) ∙ ap (λ n. lead f n (get_or ks i 0)) z

module _ (table : Table) (lead : Leaders) (at : (f : TupleSymbol) (j : ℕ) → IsPlaceUnder table f j → IsLedPlace table f j (lead f j)) where
  place_of : (f : TupleSymbol) (j q : ℕ) → MayBeKid table.signature table.columns table.presences f j q → IsLedPlace table f j (lead f j)
  place_of f j q m = at f j (record { symbol = m.symbol; place = m.place })

  -- one child after another
  goes_from : (f : TupleSymbol) (before ks : List ℕ) → IsTableEntry table (entry f (before ++ ks))
      → table.target (entry f (before ++ ks)) ≡ table.target (entry f (before ++ led_from lead f (length before) ks))
  goes_from f before [] h = refl
  goes_from f before (k ∷ ks) h =
      let j = length before in
      let own = child_of table f before ks k h in
      let under : IsPlaceUnder table f j = record { symbol = own.symbol; place = own.place } in
      let may : MayBeKid table.signature table.columns table.presences f j k = record { symbol = own.symbol; place = own.place; within = own.within; presence = own.presence } in
      let place = at f j under in
      let p = lead f j k in
      let next = entry_with table f before ks k p h (omega (arith, place.least k may, own.within)) (place.presence_is k may) in
      let joined : (xs : List ℕ) → (before ++ p ∷ []) ++ xs ≡ before ++ p ∷ xs = λ xs. append_assoc before (p ∷ []) xs in
      let later = goes_from f (before ++ p ∷ []) ks (subst (λ (xs : List ℕ). IsTableEntry table (entry f xs)) (sym (joined ks)) next) in
      let z : length (before ++ p ∷ []) ≡ suc j = length_push before p ∙ (let o : j + 1 ≡ suc j = omega arith in o) in
      place.goes before ks k refl h
      ∙ (ap (λ (xs : List ℕ). table.target (entry f xs)) (sym (joined ks))
      ∙ (later
      ∙ (ap (λ n. table.target (entry f ((before ++ p ∷ []) ++ led_from lead f n ks))) z
      ∙ ap (λ (xs : List ℕ). table.target (entry f xs)) (joined (led_from lead f (suc j) ks)))))

  kids_led : (e : Entry) → led_from lead e.symbol 0 e.kids ≡ (led lead e).kids
  kids_led e =
      ext_get_or 0 (led_from lead e.symbol 0 e.kids) (led lead e).kids (length-led_from lead e.symbol 0 e.kids ∙ sym (length-led lead e))
      (λ i l.
      let m : i < length e.kids = omega (arith, l, length-led_from lead e.symbol 0 e.kids) in
      let z : 0 + i ≡ i = omega arith in
      get_or-led_from lead e.symbol 0 e.kids i m ∙ (ap (λ n. lead e.symbol n (get_or e.kids i 0)) z ∙ sym (get_or-led lead e i m)))

  -- Result: at all places at once
  pub led_by_places : IsLedBy table lead
  led_by_places = record {
    leaders = record {
      least = λ f j q m. (place_of f j q m).least q m;
      itself = λ f j q m. (place_of f j q m).itself q m;
      presence = λ f j q m. (place_of f j q m).presence_is q m;
    };
    goes = λ e h. goes_from e.symbol [] e.kids h ∙ ap (λ (xs : List ℕ). table.target (entry e.symbol xs)) (kids_led e);
  }

-- numbers of views are of 32 bits
numbers_few : (numbers : List ℕ) (views : List (List ℕ)) → AreViews views → ((k : ℕ) → k < length numbers → get_or numbers k 0 < length views) → (k : ℕ) → get_or numbers k 0 < 2 ^ 32
numbers_few numbers views v known k = ⊎_elim
    (λ (l : k < length numbers). omega (arith, known k l, v.few))
    (λ (l : length numbers ≤ k). omega (arith, get_or_past numbers k 0 l))
    (cases_lt k (length numbers))

-- Result: the views of all places
pub table_views : (table : Table) (list : TargetList) (v : PlaceViews) (n : ℕ) → IsTargetListOf table list → IsTrue list.is_made → n ≡ length list.list.listing.starts.items
    → AreLedTo table n v → AreFoundViews table list v.views v.starts.items v.numbers.items
table_views table list v n is made all h =
    let flat = is.list_is made in
    let low : (f : TupleSymbol) (j : ℕ) → IsPlaceUnder table f j → number_of (base_of table) f < n = λ f j under.
    let below = symbol_below table list.list f flat under.symbol in
    let same = ap (λ b. number_of b f) flat.base_is in
    omega (arith, below, flat.starts_all, all, same) in
    record {
      list_is = is;
      none = λ no. absurd (false≢true (sym no ∙ made));
      all = λ _. h.count ∙ all;
      within = λ _ f j under. h.within f j under (low f j under);
      few = numbers_few v.numbers.items v.views h.views h.known;
      led = led_by_places table (lead_in table v.views v.starts.items v.numbers.items) (λ f j under. h.led f j under (low f j under));
    }

-- Result: of a table without entries
pub no_views : (table : Table) (list : TargetList) (v : PlaceViews) → IsTargetListOf table list → IsFalse list.is_made → AreViews v.views → v.numbers.items ≡ []
    → AreFoundViews table list v.views v.starts.items v.numbers.items
no_views table list v is not_made views none =
    let never : IsTrue list.is_made → ⊥ = λ made. false≢true (sym not_made ∙ made) in
    let low : (k : ℕ) → k < length v.numbers.items → get_or v.numbers.items k 0 < length v.views = λ k l. absurd (omega (arith, l, ap length none)) in
    let own : (f : TupleSymbol) (j : ℕ) → IsPlaceUnder table f j → IsLedPlace table f j (lead_in table v.views v.starts.items v.numbers.items f j) = λ f j under.
    let k = get_or v.starts.items (number_of (base_of table) f) 0 + j in
    let number : get_or v.numbers.items k 0 ≡ 0 = get_or_past v.numbers.items k 0 (omega (arith, ap length none)) in
    let view : get_or v.views (get_or v.numbers.items k 0) [] ≡ [] = ap (λ n. get_or v.views n []) number ∙ views.first in
    subst (λ xs. IsLedPlace table f j (leader_in xs)) (sym view) (led_own table f j) in
    record {
      list_is = is;
      none = λ _. ap length none;
      all = λ made. absurd (never made);
      within = λ made f j under. absurd (never made);
      few = numbers_few v.numbers.items v.views views low;
      led = led_by_places table (lead_in table v.views v.starts.items v.numbers.items) own;
    }
