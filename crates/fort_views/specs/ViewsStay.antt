-- Inside: what views have taken up stays where a label is added.
use Rattle.std.proofs.Common.{◌≡◌, ℕ, zero, suc, ◌+◌, ◌<◌, if◌then◌else◌, List, [], ◌∷◌, ◌++◌, map, filter, cond, length, get_or, Bool, ◌==◌, refl, ap, sym, ◌∙◌, arith, subst}
use Rattle.std.specs.Prelude.{Contains}
use Rattle.std.proofs.lemmas.List.{get_or-map, get_or_append_left, get_or_default, length_push}
use Rattle.fort_theory.specs.Signatures.{Signature}
use Rattle.fort_theory.proofs.Members.{Contains-from_filter}
use Rattle.fort_tables.specs.Tuples.{TupleSymbol}
use Rattle.fort_tables.specs.Labels.{first_word}
use Rattle.fort_classes.proofs.KeyLaws.{KeepsLeaders-push}
use Rattle.fort_entry_walk.specs.Walks.{states_with}
use Rattle.fort_entry_walk.proofs.InLaws.{In-from_Contains, In-at}
use Rattle.fort_entry_walk.proofs.KidMembers.{from_states}
use Rattle.fort_views.specs.Views.{leader_in, leads_in, view_states, HaveClasses, AreClasses}
use Rattle.fort_views.specs.SymbolViews.{AreViewsUpTo, AreViewsOf}
use Rattle.fort_views.specs.declared.view.View.{View}
use Rattle.fort_views.specs.declared.views.Views.{Views}

-- the presence of a state
pub word_at : (labels : List (List ℕ)) (q : ℕ) → q < length labels → get_or (map first_word labels) q 0 ≡ first_word (get_or labels q [])
word_at labels q l = get_or-map first_word labels q [] 0 l

-- states whose presences agree
states_agree : (ps ps' : List ℕ) (want a n : ℕ) → ((k : ℕ) → k < a + n → get_or ps k 0 ≡ get_or ps' k 0) → states_with ps want a n ≡ states_with ps' want a n
states_agree ps ps' want a zero h = refl
states_agree ps ps' want a (suc n) h =
    let later = states_with ps want (a + 1) n in
    let later' = states_with ps' want (a + 1) n in
    let same : later ≡ later' = states_agree ps ps' want (a + 1) n (λ k l. h k (omega arith)) in
    ap (λ p. if p == want then a ∷ later else later) (h a (omega arith)) ∙ ap (λ r. if get_or ps' a 0 == want then a ∷ r else r) same

-- tests that agree at each element
filter_agree : (p p' : ℕ → Bool) (xs : List ℕ) → ((i : ℕ) → i < length xs → p (get_or xs i 0) ≡ p' (get_or xs i 0)) → filter p xs ≡ filter p' xs
filter_agree p p' [] h = refl
filter_agree p p' (x ∷ xs) h =
    ap (λ b. cond b (x ∷ filter p xs) (filter p xs)) (h 0 (omega arith))
    ∙ ap (λ r. cond (p' x) (x ∷ r) r) (filter_agree p p' xs (λ i l. h (suc i) (omega arith)))

-- functions that agree at each element
map_agree : {A : Type 0} (f g : ℕ → A) (xs : List ℕ) → ((i : ℕ) → i < length xs → f (get_or xs i 0) ≡ g (get_or xs i 0)) → map f xs ≡ map g xs
map_agree f g [] h = refl
map_agree f g (x ∷ xs) h = ap (λ y. y ∷ map f xs) (h 0 (omega arith)) ∙ ap (λ r. g x ∷ r) (map_agree f g xs (λ i l. h (suc i) (omega arith)))

-- the classes of a view: no state that it has taken up gets another leader, presence or key
pub classes_stay : (key : List ℕ → List ℕ → List ℕ) (words : List ℕ) (labels : List (List ℕ)) (presence n : ℕ) (keys : List (List ℕ)) (leaders classes : List ℕ) (w : List ℕ) → AreClasses key words labels presence n keys leaders classes → AreClasses key words (labels ++ w ∷ []) presence n keys leaders classes
classes_stay key words labels presence n keys leaders classes w is =
    let labels' = labels ++ w ∷ [] in
    let ps = map first_word labels in
    let ps' = map first_word labels' in
    let lead = leader_in key words labels in
    let lead' = leader_in key words labels' in
    let states = view_states labels presence n in
    let at : (k : ℕ) → k < length labels → get_or labels' k [] ≡ get_or labels k [] = λ k l. get_or_append_left labels (w ∷ []) [] k l in
    let keeps : (q : ℕ) → q < length labels → lead' q ≡ lead q = λ q l. KeepsLeaders-push (λ f j label. key words label) labels w [] 0 q l in
    let words_same : (k : ℕ) → k < 0 + n → get_or ps k 0 ≡ get_or ps' k 0 = λ k l.
    let low : k < length labels = omega (arith, is.within) in
    word_at labels k low ∙ (ap first_word (sym (at k low)) ∙ sym (word_at labels' k (omega (arith, length_push labels w)))) in
    let same : states ≡ view_states labels' presence n = states_agree ps ps' presence 0 n words_same in
    let low_at : (i : ℕ) → i < length states → get_or states i 0 < length labels = λ i l.
    let s = from_states ps presence 0 n (get_or states i 0) (In-at states i 0 l) in omega (arith, s.1, is.within) in
    let leader_low : (i : ℕ) → i < length leaders → get_or leaders i 0 < length labels = λ i l.
    let r = get_or leaders i 0 in
    let there : Contains leaders r = (i, l, get_or_default leaders i r 0 l) in
    let p = Contains-from_filter (leads_in key words labels) states r (subst (λ (xs : List ℕ). Contains xs r) is.leaders_are there) in
    let s = from_states ps presence 0 n r (In-from_Contains r states p.0) in omega (arith, s.1, is.within) in
    record {
      within = omega (arith, is.within, length_push labels w);
      leaders_are = is.leaders_are ∙ (filter_agree (leads_in key words labels) (leads_in key words labels') states (λ i l. ap (λ r. r == get_or states i 0) (sym (keeps (get_or states i 0) (low_at i l)))) ∙ ap (filter (leads_in key words labels')) same);
      keys_are = is.keys_are ∙ map_agree (λ q. key words (get_or labels q [])) (λ q. key words (get_or labels' q [])) leaders (λ i l. ap (key words) (sym (at (get_or leaders i 0) (leader_low i l))));
      have = subst (λ (xs : List ℕ). HaveClasses leaders lead' xs classes) same (record {
        count = is.have.count;
        each = λ i l. let old = is.have.each i l in record { within = old.within; leads = old.leads ∙ sym (keeps (get_or states i 0) (low_at i l)) };
      });
    }

-- the same of each view
pub AreViewsUpTo-stay : (view : TupleSymbol → ℕ → List ℕ) (key : List ℕ → List ℕ → List ℕ) (labels : List (List ℕ)) (w : List ℕ) (until : ℕ) (vs : List View) → AreViewsUpTo view key labels until vs → AreViewsUpTo view key (labels ++ w ∷ []) until vs
AreViewsUpTo-stay view key labels w until vs h q v l e =
    let r = h q v l e in
    record { asked = r.asked; is = classes_stay key v.words.items labels v.presence v.until v.keys v.leaders.items v.classes.items w r.is; taken = r.taken }

-- Result: what is known of views stays
pub AreViewsOf-stay : (view : TupleSymbol → ℕ → List ℕ) (key : List ℕ → List ℕ → List ℕ) (sig : Signature) (columns : ℕ) (labels : List (List ℕ)) (w : List ℕ) (until : ℕ) (s : Views) → AreViewsOf view key sig columns labels until s → AreViewsOf view key sig columns (labels ++ w ∷ []) until s
AreViewsOf-stay view key sig columns labels w until s h = record { rows = h.rows; each = AreViewsUpTo-stay view key labels w until s.views.items h.each }
