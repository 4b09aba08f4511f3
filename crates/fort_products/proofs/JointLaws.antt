-- The labels of a product's entries under one tuple symbol: where the first children's states stand in a list, how this place is read, and which words.
use Rattle.std.proofs.Common.{◌≡◌, ℕ, zero, suc, ◌+◌, ◌*◌, ◌^◌, ◌<◌, ◌≤◌, List, [], ◌∷◌, map, take, drop, slice_get, length, get_or, Option, None, Some, false, refl, ap, sym, ◌∙◌, arith, subst, add-one, drop-cons}
use Rattle.std.proofs.Math.Nat.{pow-le-pow_right}
use Rattle.std.proofs.lemmas.List.{length-drop, length-map, get_or-map, drop_all}
use Rattle.fort_theory.specs.Signatures.{Signature}
use Rattle.fort_tables.specs.Tuples.{Tuple, TupleSymbol, AreSymbols, presence, symbol_kids, kid_presence, FitsKid}
use Rattle.fort_tables.specs.Entries.{Entry, entry}
use Rattle.fort_tables.specs.Tables.{Table, IsTableEntry}
use Rattle.fort_tables.specs.Labels.{first_word, IsOverLabels}
use Rattle.fort_tables.specs.LabelRules.{label_of, entry_label}
use Rattle.fort_tables.proofs.PresenceLaws.{presence_bound}
use Rattle.fort_tables.proofs.TupleLaws.{fits_presence}
use Rattle.fort_tuple_symbols.specs.Columns.{column_of, digit_of, symbol_of}
use Rattle.fort_tuple_symbols.proofs.Bounds.{symbol_again}
use Rattle.fort_tuple_symbols.proofs.SymbolNumberLaws.{digit_again}
use Rattle.fort_tables.specs.Selections.{selected, is_present, ArePlaces}
use Rattle.fort_tables.specs.Products.{Operand, OfTable, OfTruth, IsOperand, AreOperands, operand_word, state_at, operand_step, product_rule, signature_of}
use Rattle.fort_tables.proofs.SelectionLaws.{AreSymbols-selected, test_from_present, FitsKid-selected, present_under}
use Rattle.fort_tables.proofs.ProductLabels.{word_there, word_none}
use Rattle.fort_target_lists.specs.LabelLists.{labels_at}
use Rattle.fort_target_lists.specs.Places.{number_of, place_from}
use Rattle.fort_target_lists.specs.Flats.{IsFlatOf, flat_place}
use Rattle.fort_target_lists.specs.declared.flat.FlatTargets.{FlatTargets}
use Rattle.fort_target_lists.proofs.ColumnLaws.{number_turn}
use Rattle.fort_target_lists.proofs.LookUpLaws.{states_in}
use Rattle.fort_target_lists.proofs.PlaceLaws.{rank_below}
use Rattle.fort_products.specs.OperandRows.{IsOverWords, IsOperandEntry}
use Rattle.fort_products.specs.Joints.{IsListUnder, FindsWord, IsUnderOf, IsJointOf, states_behind, states_told, states_under, place_under, IsKnown, AreKnown, AreStatesUnder, IsWordIn, IsWordThere, word_in, word_under}
use Rattle.fort_products.specs.declared.joint.Under.{Under}
use Rattle.fort_products.specs.declared.joint.Joint.{Joint}
use Rattle.fort_products.proofs.OperandEntries.{own_signature, operand_entry, three_long, over_first, over_second}
use Rattle.fort_products.proofs.ListedLaws.{step_present}

-- a tuple symbol by its digits
symbol_read : (f : TupleSymbol) (ds : List ℕ) → ds ≡ map digit_of f → symbol_of ds ≡ f
symbol_read f ds e = ap symbol_of e ∙ symbol_again f

pub operand_read : (sig : Signature) (o : Operand) (f : TupleSymbol) (ds : List ℕ) → ds ≡ map digit_of f → IsOperand sig (length f) o → AreSymbols sig f → (s : Signature) × IsOperand s (length ds) o × AreSymbols s (symbol_of ds)
operand_read sig o f ds e a b =
    let n : length f ≡ length ds = omega (arith, ap length e, length-map f digit_of) in
    (sig, subst (λ k. IsOperand sig k o) n a, subst (AreSymbols sig) (sym (symbol_read f ds e)) b)

pub under_read : (o : Operand) (i : ℕ) (f : TupleSymbol) (ds : List ℕ) (u : Under) → ds ≡ map digit_of f → IsUnderOf o i (symbol_of ds) u → IsUnderOf o i f u
under_read o i f ds u e h = subst (λ g. IsUnderOf o i g u) (symbol_read f ds e) h

-- an operand's columns by the digits of a tuple symbol of its signature
pub columns_in_digits : (sig : Signature) (table : Table) (places : List ℕ) (ds : List ℕ) → IsOperand sig (length ds) (OfTable table places) → AreSymbols sig (symbol_of ds) → AreSymbols table.signature (selected places (symbol_of ds))
columns_in_digits sig table places ds o h = AreSymbols-selected table.signature places (symbol_of ds) (subst (λ (s : Signature). AreSymbols s (symbol_of ds)) (sym o.0) h)

-- one more column in front
pub presence_step : (f : TupleSymbol) (k : ℕ) (x : Option ℕ) → slice_get f k ≡ Some x → presence (drop k f) ≡ presence (x ∷ []) + 2 * presence (drop (suc k) f)
presence_step [] k x h = absurd cc
presence_step (None ∷ f) zero None h = omega arith
presence_step (None ∷ f) zero (Some z) h = absurd cc
presence_step (Some g ∷ f) zero None h = absurd cc
presence_step (Some g ∷ f) zero (Some z) h = omega arith
presence_step (y ∷ f) (suc k) x h = presence_step f k x h

pub presence_small : (f : TupleSymbol) (k : ℕ) → length f ≤ 16 → presence (drop k f) < 2 ^ 16
presence_small f k l =
    let d : length (drop k f) ≤ 16 = omega (arith, l, length-drop k f) in
    omega (arith, presence_bound (drop k f), pow-le-pow_right {n = 2} (omega arith) d)

-- a column of digits
pub column_in : (ds : List ℕ) (p : ℕ) → p < length ds → slice_get (symbol_of ds) p ≡ Some (column_of (get_or ds p 0))
column_in [] p l = absurd (omega arith)
column_in (d ∷ ds) zero l = refl
column_in (d ∷ ds) (suc p) l = column_in ds p (omega arith)

pub number_next : (base : ℕ) (ds places : List ℕ) (k number : ℕ) → ArePlaces (length ds) places → k < length places → number ≡ number_of base (take k (selected places (symbol_of ds)))
    → number * base + get_or ds (get_or places k 0) 0 ≡ number_of base (take (k + 1) (selected places (symbol_of ds)))
number_next base ds places k number w l h =
    let d = get_or ds (get_or places k 0) 0 in
    omega (arith, digit_again d, number_turn base (symbol_of ds) places k number (column_of d) l (column_in ds (get_or places k 0) (w k l)) h)

-- places grow with each child
times_some : (p a : ℕ) → 0 < a → p ≤ p * a
times_some p zero l = absurd (omega arith)
times_some p (suc a) l = omega arith

place_grows : (list : FlatTargets) (p : ℕ) (ks : List ℕ) → AreKnown list ks → p ≤ place_from list.spots.ranks.items list.spots.alike.items p ks
place_grows list p [] h = omega arith
place_grows list p (k ∷ ks) h =
    let a = get_or list.spots.alike.items k 0 in
    omega (arith, times_some p a ((h 0 (omega arith)).some), place_grows list (p * a + get_or list.spots.ranks.items k 0) ks (λ i l. h (suc i) (omega arith)))

known_states : (table : Table) (list : FlatTargets) (e : Entry) → IsFlatOf table list → IsTableEntry table e → AreKnown list e.kids
known_states table list e h is = λ i l.
    let k = get_or e.kids i 0 in
    let b : k < length table.presences = is.within i l in
    record {
      state = states_in table list e h is i l;
      some = omega (arith, h.spots.alike_are.count k b, rank_below (get_or table.presences k 0) table.presences k b refl);
    }

-- the states that labels tell are those of the first labels, where the word is 0 from there on
told_first : (i : ℕ) (ws : List (List ℕ)) (m : ℕ) → m ≤ length ws → ((j : ℕ) → j < m → 0 < get_or (get_or ws j []) i 0) → ((j : ℕ) → m ≤ j → j < length ws → get_or (get_or ws j []) i 0 ≡ 0)
    → states_told i ws ≡ map (state_at i) (take m ws)
told_first i [] zero l a b = refl
told_first i [] (suc m) l a b = absurd (omega arith)
told_first i (w ∷ ws) zero l a b = ap (λ n. states_behind n (states_told i ws)) (b 0 (omega arith) (omega arith))
told_first i (w ∷ ws) (suc m) l a b =
    let n : get_or w i 0 ≡ suc (state_at i w) = omega (arith, a 0 (omega arith)) in
    ap (λ n. states_behind n (states_told i ws)) n ∙ ap (λ qs. state_at i w ∷ qs) (told_first i ws m (omega arith) (λ j z. a (suc j) (omega arith)) (λ j y z. b (suc j) (omega arith) (omega arith)))

-- a child past those of the operand's columns has none of these
absent_past : (sig : Signature) (f : TupleSymbol) (j : ℕ) (t : Tuple) → FitsKid sig f j t → symbol_kids sig f ≤ j → is_present t ≡ false
absent_past sig [] j [] h l = refl
absent_past sig [] j (x ∷ t) h l = absurd h
absent_past sig (x ∷ f) j [] h l = absurd h
absent_past sig (None ∷ f) j (None ∷ t) h l = absent_past sig f j t h l
absent_past sig (None ∷ f) j (Some y ∷ t) h l = absurd h
absent_past sig (Some g ∷ f) j (None ∷ t) h l = absent_past sig f j t h.1 (omega arith)
absent_past sig (Some g ∷ f) j (Some y ∷ t) h l = absurd (omega (arith, h.0))

-- a child's word
record IsKidWord (table : Table) (places : List ℕ) (i j : ℕ) (f : TupleSymbol) (w : List ℕ) (t : Tuple) : Type 0 where
  fits : FitsKid table.signature (selected places f) j (selected places t)
  word : get_or w i 0 ≡ operand_word (OfTable table places) t

module _ (table : Table) (places : List ℕ) (i : ℕ) (labels : List (List ℕ)) (f : TupleSymbol) (kids : List ℕ) (over : IsOverWords table.signature (length f) (OfTable table places) i labels (entry f kids)) where
  kid_label : (j : ℕ) → j < length kids → get_or (labels_at labels kids) j [] ≡ get_or labels (get_or kids j 0) []
  kid_label j l = get_or-map (λ q. get_or labels q []) kids j 0 [] l

  kid_word : (j : ℕ) → j < length kids → (t : Tuple) × IsKidWord table places i j f (get_or (labels_at labels kids) j []) t
  kid_word j l =
      let sig = table.signature in
      let q = get_or kids j 0 in
      let inside : q < length labels = omega (arith, over.entry.within j l, length-map labels first_word) in
      let r = over.words q inside in
      let p : presence r.0 ≡ kid_presence sig f j = sym r.2.first ∙ (sym (get_or-map first_word labels q [] 0 inside) ∙ over.entry.presence j l) in
      let fits = FitsKid-selected sig places f j r.0 (fits_presence sig f j r.0 r.1.width p) in
      (r.0, record { fits = fits; word = ap (λ w. get_or w i 0) (kid_label j l) ∙ r.2.word })

  word_some : (j : ℕ) → j < length kids → j < symbol_kids table.signature (selected places f) → 0 < get_or (get_or (labels_at labels kids) j []) i 0
  word_some j l m =
      let k = kid_word j l in
      omega (arith, k.1.word, word_there table places k.0 (test_from_present (selected places k.0) (present_under table.signature (selected places f) j (selected places k.0) k.1.fits m)))

  word_past : (j : ℕ) → j < length kids → symbol_kids table.signature (selected places f) ≤ j → get_or (get_or (labels_at labels kids) j []) i 0 ≡ 0
  word_past j l m =
      let k = kid_word j l in
      k.1.word ∙ word_none table places k.0 (absent_past table.signature (selected places f) j (selected places k.0) k.1.fits m)

  told_own : symbol_kids table.signature (selected places f) ≤ length kids → states_told i (labels_at labels kids) ≡ map (state_at i) (take (symbol_kids table.signature (selected places f)) (labels_at labels kids))
  told_own m =
      let lw : length (labels_at labels kids) ≡ length kids = length-map kids (λ q. get_or labels q []) in
      told_first i (labels_at labels kids) (symbol_kids table.signature (selected places f)) (omega (arith, m, lw)) (λ j l. word_some j (omega (arith, l, m)) l) (λ j l n. word_past j (omega (arith, n, lw)) l)

-- the children's states
module _ (sig : Signature) (table : Table) (places : List ℕ) (i : ℕ) (f : TupleSymbol) (u : Under) (list : FlatTargets) (labels : List (List ℕ)) (kids : List ℕ) (h : IsListUnder table places i f u list) (over : IsOverWords sig (length f) (OfTable table places) i labels (entry f kids)) where
  own_over : IsOverWords table.signature (length f) (OfTable table places) i labels (entry f kids)
  own_over = own_signature sig (length f) table places i labels (entry f kids) over

  below : IsOperandEntry table places i (entry f kids) (labels_at labels kids)
  below = operand_entry (length f) table places i labels (entry f kids) h.lawful own_over h.there

  abbrev own : Entry
  own = entry (selected places f) (map (state_at i) (take (symbol_kids table.signature (selected places f)) (labels_at labels kids)))

  own_states : states_under u labels kids ≡ own.kids
  own_states = ap (λ n. states_told n (labels_at labels kids)) h.at_is ∙ told_own table places i labels f kids own_over (omega (arith, below.count, length-map kids (λ q. get_or labels q [])))

  own_place : u.start + place_under list (states_under u labels kids) ≡ flat_place list own
  own_place = (λ j. h.start_is j + place_under list (own_states j))

  pub word_listed : get_or list.listing.targets.items (u.start + place_under list (states_under u labels kids)) 0 ≡ table.target own
  word_listed = ap (λ p. get_or list.listing.targets.items p 0) own_place ∙ (h.list_is.entries own below.entry).is

  pub states_listed : ((q : ℕ) → q < length labels → i < length (get_or labels q [])) → AreStatesUnder list u labels kids
  states_listed wide = record {
    words = λ j l.
        let q = get_or kids j 0 in
        let inside : q < length labels = omega (arith, over.entry.within j l, length-map labels first_word) in
        record { label = inside; word = omega (arith, wide q inside, h.at_is) };
    known = subst (AreKnown list) (sym own_states) (known_states table list own h.list_is below.entry);
    within = omega (arith, own_place, (h.list_is.entries own below.entry).within);
  }

-- by a list or without one
there_in : {A : Type 0} (x : Option A) (now : A → FlatTargets) (o : Operand) (sig : Signature) (i : ℕ) (f : TupleSymbol) (u : Under) (labels : List (List ℕ)) (kids : List ℕ) → FindsWord x now o i f u → IsOverWords sig (length f) o i labels (entry f kids)
    → ((q : ℕ) → q < length labels → i < length (get_or labels q [])) → IsWordIn x now u labels kids
there_in None now o sig i f u labels kids h over wide = tt
there_in (Some l) now (OfTable table places) sig i f u labels kids h over wide = states_listed sig table places i f u (now l) labels kids h over wide
there_in (Some l) now (OfTruth b) sig i f u labels kids h over wide = absurd h

read_in : {A : Type 0} (x : Option A) (now : A → FlatTargets) (o : Operand) (sig : Signature) (i : ℕ) (f : TupleSymbol) (u : Under) (labels : List (List ℕ)) (kids : List ℕ) → FindsWord x now o i f u → IsOverWords sig (length f) o i labels (entry f kids)
    → word_in x now u.start (states_under u labels kids) ≡ operand_step i o f (labels_at labels kids)
read_in None now o sig i f u labels kids h over = sym (h (labels_at labels kids))
read_in (Some l) now (OfTable table places) sig i f u labels kids h over =
    ap suc (word_listed sig table places i f u (now l) labels kids h over) ∙ sym (step_present table places i f (labels_at labels kids) h.there)
read_in (Some l) now (OfTruth b) sig i f u labels kids h over = absurd h

-- an entry's word, by the digits and the children that were read of it
module _ (o : Operand) (sig : Signature) (i : ℕ) (labels : List (List ℕ)) (e : Entry) (ds ks : List ℕ) (u : Under) (d : ds ≡ map digit_of e.symbol) (k : ks ≡ e.kids) (is : IsUnderOf o i (symbol_of ds) u)
    (over : IsOverWords sig (length e.symbol) o i labels e) where
  own_is : IsUnderOf o i e.symbol u
  own_is = under_read o i e.symbol ds u d is

  pub entry_there : ((q : ℕ) → q < length labels → i < length (get_or labels q [])) → IsWordThere u labels ks
  entry_there wide = subst (λ qs. IsWordThere u labels qs) (sym k) (there_in u.list (λ l. l.now) o sig i e.symbol u labels e.kids own_is over wide)

  pub entry_word : (word : ℕ) → word ≡ word_under u labels ks → word ≡ operand_step i o e.symbol (labels_at labels e.kids)
  entry_word word w =
      let same : word_under u labels ks ≡ word_under u labels e.kids = ap (word_under u labels) k in
      w ∙ (same ∙ read_in u.list (λ l. l.now) o sig i e.symbol u labels e.kids own_is over)

-- what is read is the label
module _ (first second : Operand) (f : TupleSymbol) (j : Joint) (labels : List (List ℕ)) (kids : List ℕ) (h : IsJointOf first second f j) (o : AreOperands (signature_of first second) (length f) first second)
    (over : IsOverLabels (signature_of first second) (length f) (label_of (product_rule (length f) first second)) labels (entry f kids)) where
  pub first_there : IsWordThere j.first labels kids
  first_there = there_in j.first.list (λ l. l.now) first (signature_of first second) 1 f j.first labels kids h.first_is (over_first (signature_of first second) (length f) first second labels (entry f kids) o over) (λ q l. omega (arith, three_long (signature_of first second) (length f) first second labels (entry f kids) o over q l))

  pub second_there : IsWordThere j.second labels kids
  second_there = there_in j.second.list (λ l. l.now) second (signature_of first second) 2 f j.second labels kids h.second_is (over_second (signature_of first second) (length f) first second labels (entry f kids) o over) (λ q l. omega (arith, three_long (signature_of first second) (length f) first second labels (entry f kids) o over q l))

  pub label_read : j.presence ∷ word_under j.first labels kids ∷ word_under j.second labels kids ∷ [] ≡ entry_label (product_rule (length f) first second) labels (entry f kids)
  label_read =
      let a = read_in j.first.list (λ l. l.now) first (signature_of first second) 1 f j.first labels kids h.first_is (over_first (signature_of first second) (length f) first second labels (entry f kids) o over) in
      let b = read_in j.second.list (λ l. l.now) second (signature_of first second) 2 f j.second labels kids h.second_is (over_second (signature_of first second) (length f) first second labels (entry f kids) o over) in
      λ i. h.presence_is i ∷ a i ∷ b i ∷ []

-- a place read child by child: the states still to come lead from it to the whole place
pub record LeadsTo (list : FlatTargets) (place : ℕ) (states : List ℕ) (whole : ℕ) : Type 0 where
  pub is : place_from list.spots.ranks.items list.spots.alike.items place states ≡ whole
  pub known : AreKnown list states

-- the states from a child on
abbrev pub states_from : ℕ → List (List ℕ) → List ℕ → ℕ → List ℕ
states_from i labels kids j = states_told i (labels_at labels (drop j kids))

states_next : (i : ℕ) (labels : List (List ℕ)) (kids : List ℕ) (j : ℕ) → j < length kids → states_from i labels kids j ≡ states_behind (get_or (get_or labels (get_or kids j 0) []) i 0) (states_from i labels kids (j + 1))
states_next i labels kids j l =
    rw (add-one, drop-cons kids j 0) refl

pub states_none : (i : ℕ) (labels : List (List ℕ)) (kids : List ℕ) (j : ℕ) → length kids ≤ j → states_from i labels kids j ≡ []
states_none i labels kids j l = ap (λ ks. states_told i (labels_at labels ks)) (drop_all j kids l)

pub leads_end : (list : FlatTargets) (place whole : ℕ) (states : List ℕ) → LeadsTo list place states whole → states ≡ [] → place ≡ whole
leads_end list place whole states h e = ap (place_from list.spots.ranks.items list.spots.alike.items place) (sym e) ∙ h.is

module _ (list : FlatTargets) (i : ℕ) (labels : List (List ℕ)) (kids : List ℕ) (j place whole word : ℕ) (h : LeadsTo list place (states_from i labels kids j) whole) (l : j < length kids) (w : word ≡ get_or (get_or labels (get_or kids j 0) []) i 0) where
  leads_word : states_from i labels kids j ≡ states_behind word (states_from i labels kids (j + 1))
  leads_word = states_next i labels kids j l ∙ ap (λ n. states_behind n (states_from i labels kids (j + 1))) (sym w)

  pub leads_zero : word ≡ 0 → place ≡ whole
  leads_zero z = leads_end list place whole (states_from i labels kids j) h (leads_word ∙ ap (λ n. states_behind n (states_from i labels kids (j + 1))) z)

  module _ (state : ℕ) (s : word ≡ suc state) where
    leads_state : states_from i labels kids j ≡ state ∷ states_from i labels kids (j + 1)
    leads_state = leads_word ∙ ap (λ n. states_behind n (states_from i labels kids (j + 1))) s

    leads_here : LeadsTo list place (state ∷ states_from i labels kids (j + 1)) whole
    leads_here = subst (λ qs. LeadsTo list place qs whole) leads_state h

    pub state_known : IsKnown list state
    state_known = leads_here.known 0 (omega arith)

    pub leads_on : LeadsTo list (place * get_or list.spots.alike.items state 0 + get_or list.spots.ranks.items state 0) (states_from i labels kids (j + 1)) whole
    leads_on = record { is = leads_here.is; known = λ k n. leads_here.known (suc k) (omega arith) }

    pub place_small : place * get_or list.spots.alike.items state 0 + get_or list.spots.ranks.items state 0 ≤ whole
    place_small = omega (arith, leads_on.is, place_grows list (place * get_or list.spots.alike.items state 0 + get_or list.spots.ranks.items state 0) (states_from i labels kids (j + 1)) leads_on.known)

words_in_three : (xs : List ℕ) → 3 ≤ length xs → length xs < 4 → xs ≡ get_or xs 0 0 ∷ get_or xs 1 0 ∷ get_or xs 2 0 ∷ []
words_in_three [] l m = absurd (omega arith)
words_in_three (x ∷ []) l m = absurd (omega arith)
words_in_three (x ∷ y ∷ []) l m = absurd (omega arith)
words_in_three (x ∷ y ∷ z ∷ []) l m = refl
words_in_three (x ∷ y ∷ z ∷ w ∷ xs) l m = absurd (omega arith)

-- Result: three words that are what is read are the entry's label
pub label_found : (first second : Operand) (f : TupleSymbol) (j : Joint) (labels : List (List ℕ)) (kids : List ℕ) → IsJointOf first second f j → AreOperands (signature_of first second) (length f) first second → IsOverLabels (signature_of first second) (length f) (label_of (product_rule (length f) first second)) labels (entry f kids)
    → (label : List ℕ) → 3 ≤ length label → length label < 4 → get_or label 0 0 ≡ j.presence → get_or label 1 0 ≡ word_under j.first labels kids → get_or label 2 0 ≡ word_under j.second labels kids
    → label ≡ entry_label (product_rule (length f) first second) labels (entry f kids)
label_found first second f j labels kids h o over label l m a b d =
    words_in_three label l m ∙ ((λ i. a i ∷ b i ∷ d i ∷ []) ∙ label_read first second f j labels kids h o over)
