-- A view that has taken up all states: each state's class, and each class's leader.
use Rattle.std.proofs.Common.{◌≡◌, ℕ, zero, suc, ◌+◌, ◌<◌, ◌≤◌, if◌then◌else◌, cond, List, [], ◌∷◌, map, filter, length, get_or, Bool, true, false, ◌==◌, refl, ap, sym, ◌∙◌, arith, subst}
use Rattle.std.specs.Prelude.{Contains}
use Rattle.std.proofs.lemmas.List.{length-map, get_or_default}
use Rattle.fort_theory.proofs.Members.{Contains-from_filter}
use Rattle.fort_tables.specs.Labels.{first_word}
use Rattle.fort_tables.proofs.EqualTests.{equal_from_test}
use Rattle.fort_entry_walk.specs.Walks.{states_with}
use Rattle.fort_entry_walk.proofs.InLaws.{In-from_Contains}
use Rattle.fort_entry_walk.proofs.KidMembers.{from_states}
use Rattle.fort_views.specs.Ranks.{AreRanks}
use Rattle.fort_views.specs.Views.{leader_in, leads_in, view_states, AreClasses}
use Rattle.fort_views.proofs.RankLaws.{rank_there}

-- ascending numbers, none below this one
abbrev Ascend : ℕ → List ℕ → Type 0
Ascend a [] = Unit {0}
Ascend a (x ∷ xs) = (a ≤ x) × Ascend (suc x) xs

ascend_from : (a b : ℕ) (xs : List ℕ) → b ≤ a → Ascend a xs → Ascend b xs
ascend_from a b [] l h = tt
ascend_from a b (x ∷ xs) l h = (omega (arith, l, h.0), h.1)

ascend_filter : (p : ℕ → Bool) (a : ℕ) (xs : List ℕ) → Ascend a xs → Ascend a (filter p xs)
ascend_filter p a [] h = tt
ascend_filter p a (x ∷ xs) h =
    let later : Ascend (suc x) (filter p xs) = ascend_filter p (suc x) xs h.1 in
    let F : Bool → Type 0 = λ b. Ascend a (cond b (x ∷ filter p xs) (filter p xs)) in
    let both : (b : Bool) → F b = λ b. elim b as F [ true ↦ (h.0, later) | false ↦ ascend_from (suc x) a (filter p xs) (omega (arith, h.0)) later ] in
    both (p x)

ascend_states : (ps : List ℕ) (want a n : ℕ) → Ascend a (states_with ps want a n)
ascend_states ps want a zero = tt
ascend_states ps want a (suc n) =
    let later = states_with ps want (a + 1) n in
    let step : a + 1 ≡ suc a = omega arith in
    let above : Ascend (suc a) later = subst (λ (k : ℕ). Ascend k later) step (ascend_states ps want (a + 1) n) in
    let F : Bool → Type 0 = λ b. Ascend a (if b then a ∷ later else later) in
    let both : (b : Bool) → F b = λ b. elim b as F [ true ↦ (omega arith, above) | false ↦ ascend_from (suc a) a later (omega arith) above ] in
    both (get_or ps a 0 == want)

ascend_low : (a : ℕ) (xs : List ℕ) (i : ℕ) → Ascend a xs → i < length xs → a ≤ get_or xs i 0
ascend_low a [] i h l = absurd (omega (arith, l))
ascend_low a (x ∷ xs) zero h l = h.0
ascend_low a (x ∷ xs) (suc i) h l = omega (arith, h.0, ascend_low (suc x) xs i h.1 (omega (arith, l)))

ascend_apart : (a : ℕ) (xs : List ℕ) (i j : ℕ) → Ascend a xs → i < length xs → j < length xs → get_or xs i 0 ≡ get_or xs j 0 → i ≡ j
ascend_apart a [] i j h l m e = absurd (omega (arith, l))
ascend_apart a (x ∷ xs) zero zero h l m e = refl
ascend_apart a (x ∷ xs) zero (suc j) h l m e = absurd (omega (arith, e, ascend_low (suc x) xs j h.1 (omega (arith, m))))
ascend_apart a (x ∷ xs) (suc i) zero h l m e = absurd (omega (arith, e, ascend_low (suc x) xs i h.1 (omega (arith, l))))
ascend_apart a (x ∷ xs) (suc i) (suc j) h l m e = ap suc (ascend_apart (suc x) xs i j h.1 (omega (arith, l)) (omega (arith, m)) e)

ascend_rises : (a : ℕ) (xs : List ℕ) (i j : ℕ) → Ascend a xs → i < j → j < length xs → get_or xs i 0 < get_or xs j 0
ascend_rises a [] i j h l m = absurd (omega (arith, m))
ascend_rises a (x ∷ xs) i zero h l m = absurd (omega (arith, l))
ascend_rises a (x ∷ xs) zero (suc j) h l m = omega (arith, ascend_low (suc x) xs j h.1 (omega (arith, m)))
ascend_rises a (x ∷ xs) (suc i) (suc j) h l m = ascend_rises (suc x) xs i j h.1 (omega (arith, l)) (omega (arith, m))

-- a state that leads a class of this presence
pub record IsLeader (key : List ℕ → List ℕ → List ℕ) (words : List ℕ) (labels : List (List ℕ)) (presence r : ℕ) : Type 0 where
  pub within : r < length labels
  pub presence_is : get_or (map first_word labels) r 0 ≡ presence
  pub leads : leader_in key words labels r ≡ r

-- a state's class, by its rank, and the class's leader
pub record HasClass (key : List ℕ → List ℕ → List ℕ) (words : List ℕ) (labels : List (List ℕ)) (leaders classes : List ℕ) (rank q : ℕ) : Type 0 where
  pub rank_low : rank < length classes
  pub class_low : get_or classes rank 0 < length leaders
  pub leader : get_or leaders (get_or classes rank 0) 0 ≡ leader_in key words labels q

module _ (key : List ℕ → List ℕ → List ℕ) (words : List ℕ) (labels : List (List ℕ)) (presence : ℕ) (keys : List (List ℕ)) (leaders classes : List ℕ) (h : AreClasses key words labels presence (length labels) keys leaders classes) where
  -- Result: each leader leads
  pub leader_at : (c : ℕ) → c < length leaders → IsLeader key words labels presence (get_or leaders c 0)
  leader_at c l =
      let r = get_or leaders c 0 in
      let states = view_states labels presence (length labels) in
      let there : Contains leaders r = (c, l, get_or_default leaders c r 0 l) in
      let p = Contains-from_filter (leads_in key words labels) states r (subst (λ (xs : List ℕ). Contains xs r) h.leaders_are there) in
      let s = from_states (map first_word labels) presence 0 (length labels) r (In-from_Contains r states p.0) in
      record { within = omega (arith, s.1); presence_is = s.2; leads = equal_from_test (leader_in key words labels r) r p.1 }

  leaders_ascend : Ascend 0 leaders
  leaders_ascend = subst (Ascend 0) (sym h.leaders_are) (ascend_filter (leads_in key words labels) 0 (view_states labels presence (length labels)) (ascend_states (map first_word labels) presence 0 (length labels)))

  -- Result: no state leads two classes
  pub leaders_apart : (c d : ℕ) → c < length leaders → d < length leaders → get_or leaders c 0 ≡ get_or leaders d 0 → c ≡ d
  leaders_apart c d l m e = ascend_apart 0 leaders c d leaders_ascend l m e

  -- Result: classes are numbered by their leaders
  pub leaders_rise : (c d : ℕ) → c < d → d < length leaders → get_or leaders c 0 < get_or leaders d 0
  leaders_rise c d l m = ascend_rises 0 leaders c d leaders_ascend l m

  -- Result: each state of the presence has its leader's class
  pub class_of : (ranks : List ℕ) (q : ℕ) → AreRanks (map first_word labels) ranks → q < length labels → get_or (map first_word labels) q 0 ≡ presence → HasClass key words labels leaders classes (get_or ranks q 0) q
  class_of ranks q rs l e =
      let ps = map first_word labels in
      let at = rank_there ps ranks presence q (length labels) rs (omega (arith, l, length-map labels first_word)) l e in
      let class = h.have.each (get_or ranks q 0) at.within in
      record {
        rank_low = omega (arith, at.within, h.have.count);
        class_low = class.within;
        leader = class.leads ∙ ap (leader_in key words labels) at.is;
      }
