-- The views of the places under a tuple symbol, by its number; the entries over their leaders lead.
use Rattle.std.proofs.Common.{◌≡◌, ℕ, zero, suc, ◌+◌, ◌<◌, ◌≤◌, ◌^◌, List, [], ◌∷◌, map, drop, length, get_or, refl, ap, sym, ◌∙◌, arith, subst, ⊎_elim}
use Rattle.std.proofs.lemmas.Bool.{cases_lt}
use Rattle.std.proofs.lemmas.List.{length-map, get_or-map, length-take-le, length-drop, get_or-take, get_or-drop, get_or_past}
use Rattle.fort_theory.specs.Signatures.{Signature, IsSignature}
use Rattle.fort_tables.specs.Tuples.{TupleSymbol, IsPresent, symbol_kids, kid_presence}
use Rattle.fort_tables.specs.Entries.{Entry, entry}
use Rattle.fort_tables.specs.Labels.{first_word}
use Rattle.fort_tables.proofs.TupleLaws.{length-tabulate, get_or-tabulate}
use Rattle.fort_classes.specs.Leaders.{IsLeading}
use Rattle.fort_classes.specs.Firsts.{HasAllLeading}
use Rattle.fort_classes.specs.Keys.{leaders_by}
use Rattle.fort_label_keys.specs.ViewKeys.{keys_by}
use Rattle.fort_tuple_symbols.proofs.SymbolNumberLaws.{length-columns_at}
use Rattle.fort_entry_walk.specs.WalkPlaces.{wants}
use Rattle.fort_class_blocks.specs.Blocks.{AreClasses as AreCombined}
use Rattle.fort_target_lists.specs.ClassLists.{leaders_in, classes_in}
use Rattle.fort_target_lists.specs.declared.class_list.ClassView.{ClassView}
use Rattle.fort_target_lists.proofs.SymbolNumbers.{symbols_at}
use Rattle.fort_views.specs.Views.{AreClasses}
use Rattle.fort_views.specs.SymbolViews.{sight}
use Rattle.fort_views.specs.declared.views.Views.{Views}
use Rattle.fort_views.proofs.ClassLaws.{few_leaders}
use Rattle.fort_leading_tables.specs.EntryNumbers.{AreTargetsOf}
use Rattle.fort_leading_tables.specs.declared.leading_targets.LeadingTargets.{LeadingTargets}
use Rattle.fort_class_targets.specs.FilledBlocks.{leaders_over, ArePlaces}
use Rattle.fort_class_targets.specs.NumberedViews.{HasPlaces}
use Rattle.fort_class_targets.specs.TakenViews.{IsClassView, AreClassViews}
use Rattle.fort_class_targets.specs.SymbolBlocks.{symbol_at, numbers_at, leaders_under, AreTold}
use Rattle.fort_class_targets.proofs.ListLaws.{length-wants, get_or-wants, few_kids}
use Rattle.fort_class_blocks.proofs.CombinationLaws.{class_low}
use Rattle.fort_class_targets.proofs.ClassFacts.{IsLeader, leader_at}

-- the number of a place's view
abbrev pub number_at : List ℕ → List ℕ → ℕ → ℕ → ℕ
number_at starts numbers m j = get_or numbers (get_or starts m 0 + j) 0

-- the leaders and the classes of the view of a number
abbrev pub leaders_with : List ClassView → ℕ → List ℕ
leaders_with vs n = get_or (map leaders_in vs) n []

abbrev pub classes_with : List ClassView → ℕ → List ℕ
classes_with vs n = get_or (map classes_in vs) n []

-- the view of a place, which has taken up all states
pub record IsPlaceView (view : TupleSymbol → ℕ → List ℕ) (key : List ℕ → List ℕ → List ℕ) (labels : List (List ℕ)) (sig : Signature) (f : TupleSymbol) (vs : List ClassView) (j n : ℕ) : Type 0 where
  pub low : n < length vs
  pub keys : List (List ℕ)
  pub are : AreClasses key (view f j) labels (kid_presence sig f j) (length labels) keys (leaders_with vs n) (classes_with vs n)

-- a view by its number
view_there : (vs : List ClassView) (n : ℕ) → n < length vs → (v : ClassView) × (v ≡ get_or vs n v)
view_there [] n l = absurd (omega (arith, l))
view_there (v ∷ vs) zero l = (v, refl)
view_there (v ∷ vs) (suc n) l = view_there vs n (omega (arith, l))

-- its lists
view_at_sight : (key : List ℕ → List ℕ → List ℕ) (labels sights : List (List ℕ)) (vs : List ClassView) (n presence : ℕ) (words : List ℕ) → AreClassViews key labels sights vs → n < length vs → get_or sights n [] ≡ presence ∷ words
    → (keys : List (List ℕ)) × AreClasses key words labels presence (length labels) keys (leaders_with vs n) (classes_with vs n)
view_at_sight key labels sights vs n presence words h low seen =
    let there = view_there vs n low in
    let v = there.0 in
    let own : IsClassView key labels (presence ∷ words) v = subst (λ s. IsClassView key labels s v) seen (h.each n v low there.1) in
    let ls : v.leaders.items ≡ leaders_with vs n = ap leaders_in there.1 ∙ sym (get_or-map leaders_in vs n v [] low) in
    let cs : v.classes.items ≡ classes_with vs n = ap classes_in there.1 ∙ sym (get_or-map classes_in vs n v [] low) in
    (own.keys, subst (λ xs. AreClasses key words labels presence (length labels) own.keys xs (classes_with vs n)) ls (subst (λ xs. AreClasses key words labels presence (length labels) own.keys v.leaders.items xs) cs own.are))

-- the leaders of each view can be counted in a word
few_with : (key : List ℕ → List ℕ → List ℕ) (labels sights : List (List ℕ)) (vs : List ClassView) → AreClassViews key labels sights vs → length labels < 2 ^ 32 → (n : ℕ) → length (leaders_with vs n) < 2 ^ 32
few_with key labels sights vs h few n = ⊎_elim
    (λ low.
    let there = view_there vs n low in
    let v = there.0 in
    let own = h.each n v low there.1 in
    let bound = few_leaders key _ labels _ (length labels) own.keys v.leaders.items v.classes.items own.are in
    omega (arith, few, bound, ap length (get_or-map leaders_in vs n v [] low), ap (λ (w : ClassView). length w.leaders.items) there.1))
    (λ past. omega (arith, ap length (get_or_past (map leaders_in vs) n [] (omega (arith, past, length-map vs leaders_in)))))
    (cases_lt n (length vs))

module _ (view : TupleSymbol → ℕ → List ℕ) (key : List ℕ → List ℕ → List ℕ) (labels : List (List ℕ)) (sig : Signature) (columns count : ℕ) (views : Views) (vs : List ClassView) (starts numbers : List ℕ) (p : HasPlaces view sig columns count views starts numbers) (v : AreClassViews key labels (map sight views.views.items) vs) (m : ℕ) (l : m < count) where
  -- the numbers of the places stand there
  pub numbers_there : get_or starts m 0 + symbol_kids sig (symbol_at sig columns m) ≤ length numbers
  numbers_there = omega (arith, (p.places m l).there, length-wants sig (symbol_at sig columns m))

  -- Result: each place has its view
  pub place_view : (j : ℕ) → j < symbol_kids sig (symbol_at sig columns m) → IsPlaceView view key labels sig (symbol_at sig columns m) vs j (number_at starts numbers m j)
  place_view j k =
      let f = symbol_at sig columns m in
      let n = number_at starts numbers m j in
      let place = p.places m l in
      let there : j < length (wants sig f) = omega (arith, k, length-wants sig f) in
      let low : n < length vs = omega (arith, place.within j there, ap length p.rows.sights, v.count) in
      let seen : get_or (map sight views.views.items) n [] ≡ kid_presence sig f j ∷ view f j = ap (λ ss. get_or ss n []) (sym p.rows.sights) ∙ (place.is j there ∙ ap (λ w. w ∷ view f j) (get_or-wants sig f j k)) in
      let own = view_at_sight key labels (map sight views.views.items) vs n (kid_presence sig f j) (view f j) v low seen in
      record { low = low; keys = own.0; are = own.1 }

  pub numbers_count : length (numbers_at sig columns starts numbers m) ≡ symbol_kids sig (symbol_at sig columns m)
  numbers_count =
      let start = get_or starts m 0 in
      length-take-le (symbol_kids sig (symbol_at sig columns m)) (drop start numbers) (omega (arith, numbers_there, length-drop start numbers))

  pub numbers_read : (j : ℕ) → j < symbol_kids sig (symbol_at sig columns m) → get_or (numbers_at sig columns starts numbers m) j 0 ≡ number_at starts numbers m j
  numbers_read j k =
      let start = get_or starts m 0 in
      get_or-take (symbol_kids sig (symbol_at sig columns m)) (drop start numbers) j 0 k ∙ get_or-drop start numbers j 0

  -- the leaders at the places
  pub lists_count : length (leaders_under sig columns vs starts numbers m) ≡ symbol_kids sig (symbol_at sig columns m)
  lists_count = length-map (numbers_at sig columns starts numbers m) (λ n. get_or (map leaders_in vs) n []) ∙ numbers_count

  pub lists_read : (j : ℕ) → j < symbol_kids sig (symbol_at sig columns m) → get_or (leaders_under sig columns vs starts numbers m) j [] ≡ leaders_with vs (number_at starts numbers m j)
  lists_read j k = get_or-map (leaders_with vs) (numbers_at sig columns starts numbers m) j 0 [] (omega (arith, k, numbers_count)) ∙ ap (leaders_with vs) (numbers_read j k)

  -- Result: they are places
  pub places_are : IsSignature sig → length labels < 2 ^ 32 → ArePlaces vs (numbers_at sig columns starts numbers m)
  places_are is few =
      let f = symbol_at sig columns m in
      let base : length sig + 1 ≡ suc (length sig) = omega arith in
      record {
        few = omega (arith, numbers_count, few_kids sig f is (symbols_at sig (length sig + 1) columns m base));
        views = λ j low. let k : j < symbol_kids sig f = omega (arith, low, numbers_count) in omega (arith, numbers_read j k, (place_view j k).low);
        leaders = few_with key labels (map sight views.views.items) vs v few;
      }

  -- the leader of a class at a place
  pub over_leader : (cs : List ℕ) → AreCombined (map (length {A = ℕ}) (leaders_under sig columns vs starts numbers m)) cs → (j : ℕ) → j < symbol_kids sig (symbol_at sig columns m)
      → IsLeader key (view (symbol_at sig columns m) j) labels (kid_presence sig (symbol_at sig columns m) j) (get_or (get_or (leaders_under sig columns vs starts numbers m) j []) (get_or cs j 0) 0)
  over_leader cs are j k =
      let f = symbol_at sig columns m in
      let lss = leaders_under sig columns vs starts numbers m in
      let at = lists_read j k in
      let place = place_view j k in
      let low : get_or cs j 0 < length (leaders_with vs (number_at starts numbers m j)) =
      omega (
        arith,
        class_low (map (length {A = ℕ}) lss) cs j are (omega (arith, k, lists_count, length-map lss (length {A = ℕ}))),
        get_or-map (length {A = ℕ}) lss j [] 0 (omega (arith, k, lists_count)),
        ap length at,
      ) in
      subst (λ (xs : List ℕ). IsLeader key (view f j) labels (kid_presence sig f j) (get_or xs (get_or cs j 0) 0)) (sym at)
      (leader_at key (view f j) labels (kid_presence sig f j) place.keys (leaders_with vs (number_at starts numbers m j)) (classes_with vs (number_at starts numbers m j)) place.are (get_or cs j 0) low)

  -- Result: the entry over leaders leads
  pub over_leads : IsPresent (symbol_at sig columns m) → (cs : List ℕ) → AreCombined (map (length {A = ℕ}) (leaders_under sig columns vs starts numbers m)) cs
      → IsLeading sig columns (map first_word labels) (leaders_by (keys_by view key) labels) (entry (symbol_at sig columns m) (leaders_over (leaders_under sig columns vs starts numbers m) cs))
  over_leads present cs are =
      let f = symbol_at sig columns m in
      let base : length sig + 1 ≡ suc (length sig) = omega arith in
      let lss = leaders_under sig columns vs starts numbers m in
      let of : ℕ → ℕ = λ j. get_or (get_or lss j []) (get_or cs j 0) 0 in
      let ks : List ℕ = leaders_over lss cs in
      let long : length ks ≡ symbol_kids sig f = length-tabulate (length lss) of ∙ lists_count in
      let read : (j : ℕ) → j < length ks → get_or ks j 0 ≡ of j = λ j k. get_or-tabulate (length lss) of j 0 (omega (arith, k, long, lists_count)) in
      let leader : (j : ℕ) → j < length ks → IsLeader key (view f j) labels (kid_presence sig f j) (of j) = λ j k. over_leader cs are j (omega (arith, k, long)) in
      record {
        entry = record {
          symbol = record { width = length-columns_at (length sig + 1) columns m; present = present; symbols = symbols_at sig (length sig + 1) columns m base };
          count = long;
          within = λ j k. omega (arith, read j k, (leader j k).within, length-map labels first_word);
          presence = λ j k. ap (λ q. get_or (map first_word labels) q 0) (read j k) ∙ (leader j k).presence_is;
        };
        leads = λ j k. ap (leaders_by (keys_by view key) labels f j) (read j k) ∙ ((leader j k).leads ∙ sym (read j k));
      }

-- Result: what is told of all tuple symbols
pub told_of : (view : TupleSymbol → ℕ → List ℕ) (key : List ℕ → List ℕ → List ℕ) (labels : List (List ℕ)) (sig : Signature) (columns : ℕ) (views : Views) (vs : List ClassView) (starts numbers : List ℕ) (es : List Entry) (qs : List ℕ) (targets : LeadingTargets)
    → HasPlaces view sig columns (length starts) views starts numbers → AreClassViews key labels (map sight views.views.items) vs → IsSignature sig → length labels < 2 ^ 32 → AreTargetsOf columns es qs targets → HasAllLeading sig columns (map first_word labels) (leaders_by (keys_by view key) labels) es
    → AreTold sig columns es qs targets vs starts numbers
told_of view key labels sig columns views vs starts numbers es qs targets p v is few are all = record {
  within = λ m l. numbers_there view key labels sig columns (length starts) views vs starts numbers p v m l;
  places = λ m l. places_are view key labels sig columns (length starts) views vs starts numbers p v m l is few;
  listed = λ m l present. record {
    targets_are = are;
    width = length-columns_at (length sig + 1) columns m;
    listed = λ cs c. all (entry (symbol_at sig columns m) (leaders_over (leaders_under sig columns vs starts numbers m) cs)) (over_leads view key labels sig columns (length starts) views vs starts numbers p v m l present cs c);
  };
}
