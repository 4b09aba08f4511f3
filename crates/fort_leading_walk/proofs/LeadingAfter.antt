-- The choices of leaders after one are those lists of child states after it whose states all lead.
use Rattle.std.proofs.Common.{◌≡◌, ℕ, zero, suc, ◌+◌, ◌-◌, ◌<◌, if◌then◌else◌, List, [], ◌∷◌, ◌++◌, map, filter, cond, length, drop, get_or, Bool, true, false, ◌||◌, ◌==◌, refl, ap, sym, ◌∙◌, arith, subst}
use Rattle.std.proofs.lemmas.List.Elements.{filter-append}
use Rattle.fort_tables.specs.Tuples.{TupleSymbol}
use Rattle.fort_tables.proofs.EqualTests.{equal_from_test, if_equal}
use Rattle.fort_classes.specs.Leaders.{Leaders}
use Rattle.fort_entry_walk.specs.Walks.{states_with, kid_lists_from, kids_after}
use Rattle.fort_leading_walk.specs.Choices.{choices_from, choices_after, chosen, AreIn}
use Rattle.fort_leading_walk.specs.LeaderStates.{opens_class, all_lead, leader_states}
use Rattle.fort_leading_walk.proofs.LeadingChoices.{front_leads, by_first, choices_lead}

-- a state that passes the test, and what comes after it
record StateAt (p : ℕ → Bool) (ps : List ℕ) (want end : ℕ) (qs : List ℕ) (i : ℕ) : Type 0 where
  passes : p (get_or qs i 0) ≡ true
  has : get_or ps (get_or qs i 0) 0 ≡ want
  others : drop (i + 1) qs ≡ filter p (states_with ps want (get_or qs i 0 + 1) (end - (get_or qs i 0 + 1)))

front_state : (p : ℕ → Bool) (ps : List ℕ) (want end a : ℕ) (qs : List ℕ) (i : ℕ) → p a ≡ true → get_or ps a 0 ≡ want → qs ≡ filter p (states_with ps want (a + 1) (end - (a + 1))) → ((k : ℕ) → k < length qs → StateAt p ps want end qs k) → i < length (a ∷ qs) → StateAt p ps want end (a ∷ qs) i
front_state p ps want end a qs zero passes has e later l = record { passes = passes; has = has; others = e }
front_state p ps want end a qs (suc i) passes has e later l =
    let r = later i (omega arith) in
    let s : suc i + 1 ≡ suc (i + 1) = omega arith in
    record { passes = r.passes; has = r.has; others = ap (λ n. drop n (a ∷ qs)) s ∙ r.others }

state_at : (p : ℕ → Bool) (ps : List ℕ) (want a n i : ℕ) → i < length (filter p (states_with ps want a n)) → StateAt p ps want (a + n) (filter p (states_with ps want a n)) i
state_at p ps want a zero i l = absurd (omega arith)
state_at p ps want a (suc n) i l =
    let end = a + suc n in
    let states = states_with ps want (a + 1) n in
    let rest = filter p states in
    let e : a + 1 + n ≡ a + suc n = omega arith in
    let left : n ≡ a + suc n - (a + 1) = omega arith in
    let later : (k : ℕ) → k < length rest → StateAt p ps want end rest k = λ k h. subst (λ (x : ℕ). StateAt p ps want x rest k) e (state_at p ps want (a + 1) n k h) in
    let F : Bool → Type 0 = λ b. (get_or ps a 0 == want) ≡ b → i < length (filter p (if b then a ∷ states else states)) → StateAt p ps want end (filter p (if b then a ∷ states else states)) i in
    let G : Bool → Type 0 = λ b. p a ≡ b → i < length (cond b (a ∷ rest) rest) → StateAt p ps want end (cond b (a ∷ rest) rest) i in
    let here : get_or ps a 0 ≡ want → (b : Bool) → G b = λ has b. elim b as G [
      | true ↦ (λ passes h. front_state p ps want end a rest i passes has (ap (λ k. filter p (states_with ps want (a + 1) k)) left) later h)
      | false ↦ (λ fails h. later i h)
    ] in
    let both : (b : Bool) → F b = λ b. elim b as F [
      | true ↦ (λ t h. here (equal_from_test (get_or ps a 0) want t) (p a) refl h)
      | false ↦ (λ t h. later i h)
    ] in
    both (get_or ps a 0 == want) refl l

-- Result: in the same order
pub choices_after_lead : (lead : Leaders) (f : TupleSymbol) (ps : List ℕ) (m j : ℕ) (wants is : List ℕ) (has_newest : Bool) → AreIn (leader_states lead f ps m j wants) is → choices_after m (leader_states lead f ps m j wants) has_newest is ≡ filter (all_lead lead f j) (kids_after ps m wants has_newest (chosen (leader_states lead f ps m j wants) is))
choices_after_lead lead f ps m j [] is has_newest h = refl
choices_after_lead lead f ps m j (want ∷ wants) [] has_newest h = absurd h
choices_after_lead lead f ps m j (want ∷ wants) (i ∷ is) has_newest h =
    let rest = leader_states lead f ps m (suc j) wants in
    let qs = filter (opens_class lead f j) (states_with ps want 0 (m + 1)) in
    let k = get_or qs i 0 in
    let test = all_lead lead f j in
    let seen = has_newest || (k == m) in
    let later = kids_after ps m wants seen (chosen rest is) in
    let front = map (λ r. k ∷ r) later in
    let behind = kid_lists_from ps m wants has_newest (states_with ps want (k + 1) (m + 1 - (k + 1))) in
    let end : 0 + (m + 1) ≡ m + 1 = omega arith in
    let s : StateAt (opens_class lead f j) ps want (m + 1) qs i = subst (λ (x : ℕ). StateAt (opens_class lead f j) ps want x qs i) end (state_at (opens_class lead f j) ps want 0 (m + 1) i h.0) in
    let same : map (λ r. k ∷ r) (choices_after m rest seen is) ≡ filter test front =
    ap (λ cs. map (λ r. k ∷ r) cs) (choices_after_lead lead f ps m (suc j) wants is seen h.1) ∙ sym (front_leads lead f j k later s.passes) in
    let others : choices_from m rest has_newest (drop (i + 1) qs) ≡ filter test behind =
    ap (choices_from m rest has_newest) s.others ∙ by_first lead f ps m j wants has_newest (λ b. choices_lead lead f ps m (suc j) wants b) (states_with ps want (k + 1) (m + 1 - (k + 1))) in
    ap (λ cs. cs ++ choices_from m rest has_newest (drop (i + 1) qs)) same
    ∙ (ap (λ cs. filter test front ++ cs) others
    ∙ (sym (filter-append test front behind) ∙ ap (λ cs. filter test (cs ++ behind)) (sym (if_equal (get_or ps k 0) want front [] s.has))))
