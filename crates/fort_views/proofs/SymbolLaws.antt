-- Views of tuple symbols stay right where views are made and where states are taken up.
use Rattle.std.proofs.Common.{◌≡◌, ℕ, zero, suc, ◌+◌, ◌-◌, ◌<◌, ◌≤◌, List, [], ◌∷◌, ◌++◌, map, filter, set, drop, length, get_or, refl, ap, sym, ◌∙◌, arith, subst, ⊎_elim, length-append}
use Rattle.std.proofs.lemmas.Bool.{cases_lt, cases_eq}
use Rattle.std.proofs.lemmas.List.{length-map, get_or-map, get_or_append_left, get_or-append_right, get_or-set_same, get_or-set_other, length-set, map-set}
use Rattle.std.proofs.Math.Seq.{map-set_same}
use Rattle.fort_tables.specs.Tuples.{TupleSymbol}
use Rattle.fort_tables.specs.Labels.{first_word}
use Rattle.fort_classes.specs.Keys.{leaders_by}
use Rattle.fort_entry_walk.specs.Walks.{states_with}
use Rattle.fort_leading_walk.specs.LeaderStates.{leader_states, opens_class}
use Rattle.fort_label_keys.specs.ViewKeys.{keys_by}
use Rattle.fort_views.specs.Views.{IsViewOf, HasSameSight, AreClasses, HaveClasses, leader_in, view_states, view_leaders}
use Rattle.fort_views.specs.SymbolViews.{sight, view_leaders_of, view_classes_of, IsTurnedTo, AreSights, IsViewUpTo, AreViewsUpTo, AreFresh, IsFresh, HaveTaken, HasSameSights, leaders_at}
use Rattle.fort_views.specs.ViewsStay.{AreViewsUpTo-stay}
use Rattle.fort_views.specs.declared.view.View.{View}
use Rattle.fort_views.specs.declared.views.Views.{Views}

-- Views stay right up to a later state
pub AreViewsUpTo-later : (view : TupleSymbol → ℕ → List ℕ) (key : List ℕ → List ℕ → List ℕ) (labels : List (List ℕ)) (until later : ℕ) (vs : List View) → until ≤ later → AreViewsUpTo view key labels until vs → AreViewsUpTo view key labels later vs
AreViewsUpTo-later view key labels until later vs l h = λ q v m e.
    let r = h q v m e in
    record { asked = r.asked; is = r.is; taken = omega (arith, r.taken) }

-- a view that has taken up no state
fresh_is : (view : TupleSymbol → ℕ → List ℕ) (key : List ℕ → List ℕ → List ℕ) (labels : List (List ℕ)) (until : ℕ) (v : View) → IsFresh view v → IsViewUpTo view key labels until v
fresh_is view key labels until v f =
    let P : ℕ → List (List ℕ) → List ℕ → List ℕ → Type 0 = λ n ks ls cs. AreClasses key v.words.items labels v.presence n ks ls cs in
    let none : P 0 [] [] [] = record { within = omega arith; leaders_are = refl; keys_are = refl; have = record { count = refl; each = λ i l. absurd (omega arith) } } in
    record {
      asked = f.asked;
      is = subst (λ n. P n v.keys v.leaders.items v.classes.items) (sym f.until) (subst (λ ks. P 0 ks v.leaders.items v.classes.items) (sym f.keys)
          (subst (λ ls. P 0 [] ls v.classes.items) (sym f.leaders) (subst (λ cs. P 0 [] [] cs) (sym f.classes) none)));
      taken = omega (arith, f.until);
    }

-- Result: and where views are made
pub AreViewsUpTo-more : (view : TupleSymbol → ℕ → List ℕ) (key : List ℕ → List ℕ → List ℕ) (labels : List (List ℕ)) (until : ℕ) (vs more : List View) → AreViewsUpTo view key labels until vs → AreFresh view more → AreViewsUpTo view key labels until (vs ++ more)
AreViewsUpTo-more view key labels until vs more h fresh = λ q v l e. ⊎_elim
    (λ b. h q v b (e ∙ get_or_append_left vs more v q b))
    (λ b.
    let low : q - length vs < length more = omega (arith, length-append vs more) in
    fresh_is view key labels until v (fresh (q - length vs) v low (e ∙ get_or-append_right vs more (length vs) q v refl b)))
    (cases_lt q (length vs))

-- Result: and where one of them takes up states
pub AreViewsUpTo-set : (view : TupleSymbol → ℕ → List ℕ) (key : List ℕ → List ℕ → List ℕ) (labels : List (List ℕ)) (until : ℕ) (vs : List View) (n : ℕ) (w : View) → AreViewsUpTo view key labels until vs → IsViewUpTo view key labels until w → AreViewsUpTo view key labels until (set vs n w)
AreViewsUpTo-set view key labels until vs n w h is = λ q v l e.
    let low : q < length vs = omega (arith, length-set vs n w) in
    ⊎_elim
    (λ s.
    let P : View → Type 0 = IsViewUpTo view key labels until in
    let there : w ≡ v = sym (e ∙ (ap (λ k. get_or (set vs n w) k v) s ∙ get_or-set_same vs n w v (omega arith))) in
    subst P there is)
    (λ ne. h q v low (e ∙ get_or-set_other vs n q w v ne))
    (cases_eq q n)

-- a view by its number
view_there : (vs : List View) (n : ℕ) → n < length vs → (v : View) × (v ≡ get_or vs n v)
view_there [] n l = absurd (omega arith)
view_there (v ∷ vs) zero l = (v, refl)
view_there (v ∷ vs) (suc n) l = view_there vs n (omega arith)

-- a view by its number, which has taken up all states of a presence
pub record IsPlaceView (key : List ℕ → List ℕ → List ℕ) (labels : List (List ℕ)) (until : ℕ) (vs : List View) (n want : ℕ) (words : List ℕ) : Type 0 where
  pub v : View
  pub there : v ≡ get_or vs n v
  pub leaders : v.leaders.items ≡ view_leaders key words labels want until
  pub have : HaveClasses v.leaders.items (leader_in key words labels) (view_states labels want until) v.classes.items

-- the view at a place by its sight
place_view : (view : TupleSymbol → ℕ → List ℕ) (key : List ℕ → List ℕ → List ℕ) (labels : List (List ℕ)) (until : ℕ) (vs : List View) (n want : ℕ) (words : List ℕ) → n < length vs → get_or (map sight vs) n [] ≡ want ∷ words → get_or (map (λ (v : View). v.until) vs) n 0 ≡ until → AreViewsUpTo view key labels until vs → IsPlaceView key labels until vs n want words
place_view view key labels until vs n want words low are taken each =
    let there = view_there vs n low in
    let v = there.0 in
    let is : v ≡ get_or vs n v = there.1 in
    let r = (each n v low is).is in
    let until_of : View → ℕ = λ v. v.until in
    let all : v.until ≡ until = ap until_of is ∙ (sym (get_or-map until_of vs n v 0 low) ∙ taken) in
    let seen : sight v ≡ want ∷ words = ap sight is ∙ (sym (get_or-map sight vs n v [] low) ∙ are) in
    let presence : v.presence ≡ want = ap (λ xs. get_or xs 0 0) seen in
    let asked : v.words.items ≡ words = ap (λ xs. drop 1 xs) seen in
    let P : List ℕ → ℕ → ℕ → Type 0 = λ ws p n. v.leaders.items ≡ view_leaders key ws labels p n in
    let Q : List ℕ → ℕ → ℕ → Type 0 = λ ws p n. HaveClasses v.leaders.items (leader_in key ws labels) (view_states labels p n) v.classes.items in
    record {
      v = v;
      there = is;
      leaders = subst (λ n. P words want n) all (subst (λ p. P words p v.until) presence (subst (λ ws. P ws v.presence v.until) asked r.leaders_are));
      have = subst (λ n. Q words want n) all (subst (λ p. Q words p v.until) presence (subst (λ ws. Q ws v.presence v.until) asked r.have));
    }

-- the lists from a place on
lists_from : (view : TupleSymbol → ℕ → List ℕ) (key : List ℕ → List ℕ → List ℕ) (labels : List (List ℕ)) (newest : ℕ) (f : TupleSymbol) (vs : List View) (wanted numbers : List ℕ) (j : ℕ) → length numbers ≡ length wanted → ((i : ℕ) → i < length wanted → get_or numbers i 0 < length vs) → ((i : ℕ) → i < length wanted → get_or (map sight vs) (get_or numbers i 0) [] ≡ get_or wanted i 0 ∷ view f (j + i)) → HaveTaken (newest + 1) vs numbers
    → AreViewsUpTo view key labels (newest + 1) vs → leaders_at vs numbers ≡ leader_states (leaders_by (keys_by view key) labels) f (map first_word labels) newest j wanted
lists_from view key labels newest f vs [] [] j count within are taken each = refl
lists_from view key labels newest f vs [] (n ∷ ns) j count within are taken each = absurd (omega arith)
lists_from view key labels newest f vs (w ∷ ws) [] j count within are taken each = absurd (omega arith)
lists_from view key labels newest f vs (w ∷ ws) (n ∷ ns) j count within are taken each =
    let low : n < length vs = within 0 (omega arith) in
    let here : j + 0 ≡ j = omega arith in
    let p : IsPlaceView key labels (newest + 1) vs n w (view f j) = place_view view key labels (newest + 1) vs n w (view f j) low (are 0 (omega arith) ∙ ap (λ k. w ∷ view f k) here) (taken 0 (omega arith)) each in
    let first : get_or (map view_leaders_of vs) n [] ≡ filter (opens_class (leaders_by (keys_by view key) labels) f j) (states_with (map first_word labels) w 0 (newest + 1)) =
    get_or-map view_leaders_of vs n p.v [] low ∙ (ap view_leaders_of (sym p.there) ∙ p.leaders) in
    let rest = lists_from view key labels newest f vs ws ns (suc j) (omega arith) (λ i l. within (suc i) (omega arith))
    (λ i l. let e : j + suc i ≡ suc j + i = omega arith in are (suc i) (omega arith) ∙ ap (λ k. get_or ws i 0 ∷ view f k) e)
    (λ i l. taken (suc i) (omega arith)) each in
    ap (λ x. x ∷ leaders_at vs ns) first ∙ ap (λ xs. filter (opens_class (leaders_by (keys_by view key) labels) f j) (states_with (map first_word labels) w 0 (newest + 1)) ∷ xs) rest

module _ (view : TupleSymbol → ℕ → List ℕ) (key : List ℕ → List ℕ → List ℕ) (labels : List (List ℕ)) (newest : ℕ) (f : TupleSymbol) (wanted : List ℕ) (vs : List View) (numbers : List ℕ) (is : IsTurnedTo view key labels newest f wanted vs numbers) where
  -- the numbers are those of views
  pub number_low : (j : ℕ) → j < length wanted → get_or numbers j 0 < length vs
  number_low j l = omega (arith, is.are.within j l, length-map vs sight)

  -- Result: the lists of what is turned to a tuple symbol
  pub lists_turned : leaders_at vs numbers ≡ leader_states (leaders_by (keys_by view key) labels) f (map first_word labels) newest 0 wanted
  lists_turned = lists_from view key labels newest f vs wanted numbers 0 is.are.count number_low
      (λ i l. let s : i ≡ 0 + i = omega arith in is.are.is i l ∙ ap (λ k. get_or wanted i 0 ∷ view f k) s)
      is.taken is.each

  -- Result: the classes at a place
  pub classes_turned : (j : ℕ) → j < length wanted → HaveClasses (get_or (leaders_at vs numbers) j []) (leaders_by (keys_by view key) labels f j) (states_with (map first_word labels) (get_or wanted j 0) 0 (newest + 1)) (get_or (map view_classes_of vs) (get_or numbers j 0) [])
  classes_turned j l =
      let n = get_or numbers j 0 in
      let low = number_low j l in
      let p : IsPlaceView key labels (newest + 1) vs n (get_or wanted j 0) (view f j) = place_view view key labels (newest + 1) vs n (get_or wanted j 0) (view f j) low (is.are.is j l) (is.taken j (omega (arith, is.are.count))) is.each in
      let F : List ℕ → List ℕ → Type 0 = λ ls cs. HaveClasses ls (leaders_by (keys_by view key) labels f j) (states_with (map first_word labels) (get_or wanted j 0) 0 (newest + 1)) cs in
      let ls : p.v.leaders.items ≡ get_or (leaders_at vs numbers) j [] = ap view_leaders_of p.there ∙ (sym (get_or-map view_leaders_of vs n p.v [] low) ∙ sym (get_or-map (λ n. get_or (map view_leaders_of vs) n []) numbers j 0 [] (omega (arith, is.are.count)))) in
      let cs : p.v.classes.items ≡ get_or (map view_classes_of vs) n [] = ap view_classes_of p.there ∙ sym (get_or-map view_classes_of vs n p.v [] low) in
      subst (λ ls. F ls (get_or (map view_classes_of vs) n [])) ls (subst (λ cs. F p.v.leaders.items cs) cs p.have)

-- Result: what is turned to a tuple symbol stays so where a label is added
pub IsTurnedTo-stay : (view : TupleSymbol → ℕ → List ℕ) (key : List ℕ → List ℕ → List ℕ) (labels : List (List ℕ)) (w : List ℕ) (newest : ℕ) (f : TupleSymbol) (wanted : List ℕ) (vs : List View) (numbers : List ℕ) → IsTurnedTo view key labels newest f wanted vs numbers → IsTurnedTo view key (labels ++ w ∷ []) newest f wanted vs numbers
IsTurnedTo-stay view key labels w newest f wanted vs numbers is = record { are = is.are; taken = is.taken; each = AreViewsUpTo-stay view key labels w (newest + 1) vs is.each }

-- the view at a number, after it took up states
module _ (view : TupleSymbol → ℕ → List ℕ) (key : List ℕ → List ℕ → List ℕ) (labels : List (List ℕ)) (until : ℕ) (vs : List View) (n : ℕ) (old new : View) (low : n < length vs) (there : old ≡ get_or vs n old) (same : HasSameSight old new) where
  -- it is right, as the others are
  pub known_set : AreViewsUpTo view key labels until vs → IsViewOf key labels new → new.until ≡ until → AreViewsUpTo view key labels until (set vs n new)
  known_set h is taken =
      let asked = (h n old low there).asked in
      AreViewsUpTo-set view key labels until vs n new h (record { asked = (asked.0, asked.1, same.words ∙ asked.2); is = is; taken = omega (arith, taken) })

  -- it is of the same sight
  sight_same : sight new ≡ sight (get_or vs n old)
  sight_same = ap (λ p. p ∷ new.words.items) same.presence ∙ (ap (λ ws. old.presence ∷ ws) same.words ∙ ap sight there)

  -- so all sights stay
  pub sights_set : map sight (set vs n new) ≡ map sight vs
  sights_set = map-set_same sight vs n new old sight_same

  -- one more of the views with these numbers has taken up the states
  pub taken_set : (numbers : List ℕ) (index : ℕ) → new.until ≡ until → n ≡ get_or numbers index 0 → ((j : ℕ) → j < index → get_or (map (λ (v : View). v.until) vs) (get_or numbers j 0) 0 ≡ until) → (j : ℕ) → j < index + 1 → get_or (map (λ (v : View). v.until) (set vs n new)) (get_or numbers j 0) 0 ≡ until
  taken_set numbers index taken here before j l =
      let of : View → ℕ = λ v. v.until in
      let k = get_or numbers j 0 in
      ap (λ xs. get_or xs k 0) (map-set of vs n new)
      ∙ ⊎_elim
      (λ e. ap (λ i. get_or (set (map of vs) n new.until) i 0) e ∙ (get_or-set_same (map of vs) n new.until 0 (omega (arith, length-map vs of)) ∙ taken))
      (λ ne. get_or-set_other (map of vs) n k new.until 0 ne ∙ ⊎_elim
      (λ b. before j b)
      (λ b. let e : j ≡ index = omega arith in absurd (ne (ap (λ i. get_or numbers i 0) e ∙ sym here)))
      (cases_lt j index))
      (cases_eq k n)

-- Result: turned to a tuple symbol, where the views of its places have taken up all states
pub is_turned : (view : TupleSymbol → ℕ → List ℕ) (key : List ℕ → List ℕ → List ℕ) (labels : List (List ℕ)) (newest : ℕ) (f : TupleSymbol) (mid new : Views) (wanted numbers given : List ℕ) → AreSights view f wanted mid.sights numbers → mid.sights ≡ map sight mid.views.items → map sight new.views.items ≡ map sight mid.views.items
    → given ≡ numbers → HaveTaken (newest + 1) new.views.items given → AreViewsUpTo view key labels (newest + 1) new.views.items → IsTurnedTo view key labels newest f wanted new.views.items numbers
is_turned view key labels newest f mid new wanted numbers given are sights same e taken each = record {
  are = subst (λ ss. AreSights view f wanted ss numbers) (sights ∙ sym same) are;
  taken = subst (λ (ns : List ℕ). HaveTaken (newest + 1) new.views.items ns) e taken;
  each = each;
}

-- a number of a view stays one
pub sights_bound : (old new : Views) (n : ℕ) → HasSameSights old new → n < length old.views.items → n < length new.views.items
sights_bound old new n h l = omega (arith, ap length h.views, length-map old.views.items sight, length-map new.views.items sight)
