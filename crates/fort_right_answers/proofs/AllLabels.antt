-- The labels of a rule whose labels have bounded words can all be listed, each once.
use Rattle.std.proofs.Common.{◌≡◌, ℕ, zero, suc, ◌<◌, List, [], ◌∷◌, map, length, get_or, Bool, true, false, true≢false, ◌&&◌, not, nat_lt, refl, ap, sym, ◌∙◌, arith, subst, inl, inr, ⊎_elim}
use Rattle.std.specs.Prelude.{Contains}
use Rattle.std.specs.List.{list_any, position_or_len}
use Rattle.std.proofs.lemmas.Bool.{cases_lt, cases_Bool, or_cases, lt-ltb, ltb-true}
use Rattle.std.proofs.lemmas.List.{get_or-map, length-map}
use Rattle.std.proofs.lemmas.List.Elements.{Contains-get_or}
use Rattle.std.proofs.lemmas.List.Folds.{list_any_at}
use Rattle.std.proofs.lemmas.List.Sums.{passes_at_first, fails_before_first}
use Rattle.fort_theory.proofs.Lists.{Contains-map}
use Rattle.fort_theory.proofs.Members.{Contains-head, Contains-behind}
use Rattle.fort_tables.specs.Tuples.{Tuple, presence, rebuilt, IsTuple}
use Rattle.fort_tables.specs.Entries.{Entry, IsEntry, AreTuples, picked}
use Rattle.fort_tables.specs.Tables.{same_states}
use Rattle.fort_tables.specs.Labels.{first_word, HasWidth}
use Rattle.fort_tables.specs.LabelRules.{LabelRule, IsLabelRule, label_of, entry_label}
use Rattle.fort_tables.proofs.EntryLaws.{same_states-itself, states_from_same, entry_kids, IsTuple-entry}
use Rattle.fort_tables.proofs.FoldLaws.{GivesLabel-rebuilt}
use Rattle.fort_tables.proofs.LabelRuleLaws.{GivesLabel-rule, TellsPresence-rule}
use Rattle.fort_tables.specs.Laid.{joined_below, by_symbol}
use Rattle.fort_tables.proofs.JoinedLists.{joined_has}
use Rattle.fort_tables.proofs.BySymbol.{by_symbol_are, by_symbol_has}
use Rattle.fort_tables.proofs.SearchLaws.{both, left, right}
use Rattle.fort_right_answers.proofs.Saturation.{saturation_exists}

-- ---- lists of words

-- each word is below the bound
abbrev pub AreBelow : ℕ → List ℕ → Type 0
AreBelow bound [] = Unit {0}
AreBelow bound (x ∷ xs) = (x < bound) × AreBelow bound xs

-- all lists of so many words below the bound
abbrev word_lists : ℕ → ℕ → List (List ℕ)
word_lists bound zero = [] ∷ []
word_lists bound (suc n) = joined_below bound (λ x. map (λ w. x ∷ w) (word_lists bound n))

word_list_there : (bound : ℕ) (w : List ℕ) → AreBelow bound w → Contains (word_lists bound (length w)) w
word_list_there bound [] h = Contains-head [] []
word_list_there bound (x ∷ w) h =
    joined_has bound (λ y. map (λ v. y ∷ v) (word_lists bound (length w))) x (x ∷ w) h.0
    (Contains-map (λ v. x ∷ v) (word_lists bound (length w)) w (word_list_there bound w h.1))

-- the first place of a label in a list, or the list's length
abbrev pub place : List (List ℕ) → List ℕ → ℕ
place ws w = position_or_len (λ v. same_states v w) ws

pub place_value : (ws : List (List ℕ)) (w : List ℕ) → place ws w < length ws → get_or ws (place ws w) [] ≡ w
place_value ws w l = states_from_same (get_or ws (place ws w) []) w (passes_at_first (λ v. same_states v w) ws [] l)

pub place_within : (ws : List (List ℕ)) (w : List ℕ) → Contains ws w → place ws w < length ws
place_within ws w c =
    ⊎_elim
    (λ l. l)
    (λ m.
    let here : same_states (get_or ws c.0 w) w ≡ true = subst (λ v. same_states v w ≡ true) (sym c.2) (same_states-itself w) in
    absurd (true≢false (sym here ∙ fails_before_first (λ v. same_states v w) ws c.0 w (omega (arith, c.1)))))
    (cases_lt (place ws w) (length ws))

found_by_any : {X : Type 0} (test : X → Bool) (xs : List X) → list_any test xs ≡ true → (x : X) × Contains xs x × (test x ≡ true)
found_by_any test [] h = absurd cc
found_by_any test (x ∷ xs) h = elim (or_cases (test x) (list_any test xs) h) [
  | inl here ↦ (x, Contains-head x xs, here)
  | inr there ↦ let w = found_by_any test xs there in (w.0, Contains-behind x xs w.0 w.1, w.2)
]

-- no two are equal
abbrev pub AreOnce : List (List ℕ) → Type 0
AreOnce ws = (i j : ℕ) → i < length ws → j < length ws → get_or ws i [] ≡ get_or ws j [] → i ≡ j

AreOnce-more : (w : List ℕ) (ws : List (List ℕ)) → AreOnce ws → (Contains ws w → ⊥) → AreOnce (w ∷ ws)
AreOnce-more w ws once new zero zero l m e = refl
AreOnce-more w ws once new zero (suc j) l m e = absurd (new (subst (Contains ws) (sym e) (Contains-get_or ws j [] (omega arith))))
AreOnce-more w ws once new (suc i) zero l m e = absurd (new (subst (Contains ws) e (Contains-get_or ws i [] (omega arith))))
AreOnce-more w ws once new (suc i) (suc j) l m e = ap suc (once i j (omega arith) (omega arith) e)

-- ---- labels of a rule

-- each label has this many words, each below the bound
pub record IsBounded (r : LabelRule) : Type 0 where
  pub width : ℕ
  pub bound : ℕ
  pub wide : HasWidth r.signature r.columns (label_of r) width
  pub below : (t : Tuple) → IsTuple r.signature r.columns t → AreBelow bound (label_of r t)

-- different labels, each with a tuple
pub record AreDistinctLabels (r : LabelRule) (ws : List (List ℕ)) : Type 0 where
  pub tuples : List Tuple
  pub are : AreTuples r.signature r.columns tuples
  pub labels : map (label_of r) tuples ≡ ws
  pub once : AreOnce ws

-- the label of each entry over the list is in it
pub record AreAllLabels (r : LabelRule) : Type 0 where
  pub list : List (List ℕ)
  pub are : AreDistinctLabels r list
  pub closed : (e : Entry) → IsEntry r.signature r.columns (map first_word list) e → Contains list (entry_label r list e)

module _ (r : LabelRule) (law : IsLabelRule r) where
  -- the labels of tuples at some places are the labels at these places
  kid_labels : (ts : List Tuple) (ks : List ℕ) → ((j : ℕ) → j < length ks → get_or ks j 0 < length ts)
      → map (label_of r) (picked ts ks) ≡ map (λ q. get_or (map (label_of r) ts) q []) ks
  kid_labels ts [] h = refl
  kid_labels ts (k ∷ ks) h =
      let a = get_or-map (label_of r) ts k [] [] (h 0 (omega arith)) in
      let b = kid_labels ts ks (λ j l. h (suc j) (omega arith)) in
      λ i. sym a i ∷ b i

  presences_are : (ts : List Tuple) → AreTuples r.signature r.columns ts → map first_word (map (label_of r) ts) ≡ map presence ts
  presences_are [] are = refl
  presences_are (t ∷ ts) are =
      let a = TellsPresence-rule r.signature r law.tells t (are 0 (omega arith)) in
      let b = presences_are ts (λ k l. are (suc k) (omega arith)) in
      λ i. a i ∷ b i

  -- some tuple has the label
  abbrev HasLabel : List ℕ → Type 0
  HasLabel w = (u : Tuple) × IsTuple r.signature r.columns u × (label_of r u ≡ w)

  entry_tuple : (ts : List Tuple) (e : Entry) → AreTuples r.signature r.columns ts → IsEntry r.signature r.columns (map first_word (map (label_of r) ts)) e
      → HasLabel (entry_label r (map (label_of r) ts) e)
  entry_tuple ts e are h =
      let sig = r.signature in
      let n = r.columns in
      let ws = map (label_of r) ts in
      let k : IsEntry sig n (map presence ts) e = subst (λ (ps : List ℕ). IsEntry sig n ps e) (presences_are ts are) h in
      let within : (j : ℕ) → j < length e.kids → get_or e.kids j 0 < length ts = λ j l. omega (arith, k.within j l, length-map ts presence) in (
        rebuilt e.symbol (picked ts e.kids),
        IsTuple-entry sig n ts e are k,
        GivesLabel-rebuilt sig n (label_of r) ws e (entry_label r ws e) (GivesLabel-rule sig n r ws e (entry_label r ws e) refl) k.symbol (picked ts e.kids)
            (entry_kids sig n ts e are k) (kid_labels ts e.kids within),
      )

  listed_tuple : (ws : List (List ℕ)) (e : Entry) → AreDistinctLabels r ws → IsEntry r.signature r.columns (map first_word ws) e → HasLabel (entry_label r ws e)
  listed_tuple ws e kept =
      subst (λ vs. IsEntry r.signature r.columns (map first_word vs) e → HasLabel (entry_label r vs e)) kept.labels (entry_tuple kept.tuples e kept.are)

  -- whether an entry over the list gives the label
  abbrev gives : List (List ℕ) → List ℕ → Bool
  gives ws w = list_any (λ (e : Entry). same_states (entry_label r ws e) w) (by_symbol r.signature r.columns (map first_word ws))

  -- and it is a new one
  abbrev gives_new : List (List ℕ) → List ℕ → Bool
  gives_new ws w = gives ws w && not (nat_lt (place ws w) (length ws))

  not_there : (ws : List (List ℕ)) (w : List ℕ) → not (nat_lt (place ws w) (length ws)) ≡ true → Contains ws w → ⊥
  not_there ws w e c = let l = lt-ltb (place ws w) (length ws) (place_within ws w c) in true≢false (sym e ∙ ap not l)

  there : (ws : List (List ℕ)) (w : List ℕ) → gives ws w ≡ true → gives_new ws w ≡ false → Contains ws w
  there ws w g e =
      ⊎_elim
      (λ t.
      let l = ltb-true (place ws w) (length ws) t in
      subst (Contains ws) (place_value ws w l) (Contains-get_or ws (place ws w) [] l))
      (λ f. absurd (true≢false (sym (both (gives ws w) (not (nat_lt (place ws w) (length ws))) g (ap not f)) ∙ e)))
      (cases_Bool (nat_lt (place ws w) (length ws)))

  label_more : (ws : List (List ℕ)) (w : List ℕ) → AreDistinctLabels r ws → gives_new ws w ≡ true → AreDistinctLabels r (w ∷ ws)
  label_more ws w kept h =
      let sig = r.signature in
      let n = r.columns in
      let test : Entry → Bool = λ e. same_states (entry_label r ws e) w in
      let given = found_by_any test (by_symbol sig n (map first_word ws)) (left (gives ws w) (not (nat_lt (place ws w) (length ws))) h) in
      let u = listed_tuple ws given.0 kept (by_symbol_are sig n (map first_word ws) given.0 given.1) in
      let label : label_of r u.0 ≡ w = u.2 ∙ states_from_same (entry_label r ws given.0) w given.2 in
      record {
        tuples = u.0 ∷ kept.tuples;
        are = λ k. elim k as (λ k. k < length (u.0 ∷ kept.tuples) → IsTuple sig n (get_or (u.0 ∷ kept.tuples) k [])) [ zero ↦ (λ l. u.1) | suc i ↦ (λ l. kept.are i (omega arith)) ];
        labels = λ i. label i ∷ kept.labels i;
        once = AreOnce-more w ws kept.once (not_there ws w (right (gives ws w) (not (nat_lt (place ws w) (length ws))) h));
      }

  no_labels : AreDistinctLabels r []
  no_labels = record { tuples = []; are = λ k l. absurd (omega arith); labels = refl; once = λ i j l. absurd (omega arith) }

  -- Result: all labels can be listed
  pub all_labels : IsBounded r → AreAllLabels r
  all_labels bounded =
      let sig = r.signature in
      let n = r.columns in
      let w = saturation_exists (List ℕ) gives_new (AreDistinctLabels r) (word_lists bounded.bound bounded.width) label_more no_labels in
      let ws = w.found in
      record {
        list = ws;
        are = w.kept;
        closed = λ e h.
            let v = entry_label r ws e in
            let u = listed_tuple ws e w.kept h in
            let wide : length v ≡ bounded.width = ap length (sym u.2) ∙ bounded.wide u.0 u.1 in
            let below : AreBelow bounded.bound v = subst (AreBelow bounded.bound) u.2 (bounded.below u.0 u.1) in
            let among = subst (λ k. Contains (word_lists bounded.bound k) v) wide (word_list_there bounded.bound v below) in
            let m = by_symbol_has sig n (map first_word ws) e h in
            let test : Entry → Bool = λ x. same_states (entry_label r ws x) v in
            let passes : test (get_or (by_symbol sig n (map first_word ws)) m.0 e) ≡ true = subst (λ x. test x ≡ true) (sym m.2) (same_states-itself v) in
            let given : gives ws v ≡ true = list_any_at test (by_symbol sig n (map first_word ws)) m.0 e m.1 passes in
            ⊎_elim (λ none. there ws v given none) (λ c. c) (w.saturated v among);
      }
