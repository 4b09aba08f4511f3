-- The lists of leaders up to a state stay where a state is added.
use Rattle.std.proofs.Common.{◌≡◌, ℕ, zero, suc, ◌+◌, ◌<◌, ◌≤◌, if◌then◌else◌, List, [], ◌∷◌, ◌++◌, map, filter, cond, length, get_or, Bool, true, false, ◌==◌, refl, ap, sym, ◌∙◌, arith, subst}
use Rattle.std.proofs.lemmas.List.{get_or_append_left, map-append, length-map}
use Rattle.fort_tables.specs.Tuples.{TupleSymbol}
use Rattle.fort_tables.specs.Labels.{first_word}
use Rattle.fort_classes.specs.Leaders.{Leaders, KeepsLeaders}
use Rattle.fort_classes.specs.Keys.{Keys, leaders_by}
use Rattle.fort_classes.proofs.KeyLaws.{KeepsLeaders-push}
use Rattle.fort_entry_walk.specs.Walks.{states_with}
use Rattle.fort_leading_walk.specs.LeaderStates.{opens_class, leader_states}

states_stay : (lead lead' : Leaders) (f : TupleSymbol) (ps : List ℕ) (p j want a n : ℕ) → KeepsLeaders (length ps) lead lead' → a + n ≤ length ps → filter (opens_class lead' f j) (states_with (ps ++ p ∷ []) want a n) ≡ filter (opens_class lead f j) (states_with ps want a n)
states_stay lead lead' f ps p j want a zero keeps l = refl
states_stay lead lead' f ps p j want a (suc n) keeps l =
    let more = states_with (ps ++ p ∷ []) want (a + 1) n in
    let rest = states_with ps want (a + 1) n in
    let same : get_or (ps ++ p ∷ []) a 0 ≡ get_or ps a 0 = get_or_append_left ps (p ∷ []) 0 a (omega arith) in
    let others : filter (opens_class lead' f j) more ≡ filter (opens_class lead f j) rest = states_stay lead lead' f ps p j want (a + 1) n keeps (omega arith) in
    let F : Bool → Type 0 = λ b. filter (opens_class lead' f j) (if b then a ∷ more else more) ≡ filter (opens_class lead f j) (if b then a ∷ rest else rest) in
    let both : (b : Bool) → F b = λ b. elim b as F [
      | true ↦ ap (λ q. cond (q == a) (a ∷ filter (opens_class lead' f j) more) (filter (opens_class lead' f j) more)) (keeps f j a (omega arith)) ∙ ap (λ qs. cond (lead f j a == a) (a ∷ qs) qs) others
      | false ↦ others
    ] in
    ap (λ w. filter (opens_class lead' f j) (if w == want then a ∷ more else more)) same ∙ both (get_or ps a 0 == want)

-- Result: for any leaders that stay
pub lists_stay : (lead lead' : Leaders) (f : TupleSymbol) (ps : List ℕ) (p m j : ℕ) (ws : List ℕ) → KeepsLeaders (length ps) lead lead' → m < length ps → leader_states lead' f (ps ++ p ∷ []) m j ws ≡ leader_states lead f ps m j ws
lists_stay lead lead' f ps p m j [] keeps l = refl
lists_stay lead lead' f ps p m j (w ∷ ws) keeps l =
    λ i. states_stay lead lead' f ps p j w 0 (m + 1) keeps (omega arith) i ∷ lists_stay lead lead' f ps p m (suc j) ws keeps l i

-- Result: and for those by keys, where a label is added
pub lists_stay_by : (key : Keys) (f : TupleSymbol) (labels : List (List ℕ)) (v : List ℕ) (m j : ℕ) (ws : List ℕ) → m < length labels
    → leader_states (leaders_by key (labels ++ v ∷ [])) f (map first_word (labels ++ v ∷ [])) m j ws ≡ leader_states (leaders_by key labels) f (map first_word labels) m j ws
lists_stay_by key f labels v m j ws l =
    let ps = map first_word labels in
    let count : length ps ≡ length labels = length-map labels first_word in
    let keeps : KeepsLeaders (length ps) (leaders_by key labels) (leaders_by key (labels ++ v ∷ [])) = subst (λ (n : ℕ). KeepsLeaders n (leaders_by key labels) (leaders_by key (labels ++ v ∷ []))) (sym count) (KeepsLeaders-push key labels v) in
    ap (λ qs. leader_states (leaders_by key (labels ++ v ∷ [])) f qs m j ws) (map-append first_word labels (v ∷ []))
    ∙ lists_stay (leaders_by key labels) (leaders_by key (labels ++ v ∷ [])) f ps (first_word v) m j ws keeps (omega arith)
