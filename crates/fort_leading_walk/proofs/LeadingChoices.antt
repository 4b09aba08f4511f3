-- The choices of leaders are those lists of child states at the newest state's stage whose states all lead.
use Rattle.std.proofs.Common.{◌≡◌, ℕ, zero, suc, ◌+◌, ◌<◌, ◌≤◌, if◌then◌else◌, List, [], ◌∷◌, ◌++◌, map, filter, cond, length, get_or, Bool, true, false, ◌&&◌, ◌||◌, ◌==◌, refl, ap, sym, ◌∙◌, arith}
use Rattle.std.proofs.lemmas.List.Elements.{filter-append}
use Rattle.fort_tables.specs.Tuples.{TupleSymbol}
use Rattle.fort_classes.specs.Leaders.{Leaders}
use Rattle.fort_entry_walk.specs.Walks.{states_with, kid_lists, kid_lists_from}
use Rattle.fort_leading_walk.specs.Choices.{choices, choices_from, IsLastIn, IsLastInEach}
use Rattle.fort_leading_walk.specs.LeaderStates.{opens_class, all_lead, leader_states}

over_cond : (b : Bool) (q : ℕ) (ks : List ℕ) (rest : List (List ℕ)) → cond b ((q ∷ ks) ∷ map (λ r. q ∷ r) rest) (map (λ r. q ∷ r) rest) ≡ map (λ r. q ∷ r) (cond b (ks ∷ rest) rest)
over_cond true q ks rest = refl
over_cond false q ks rest = refl

-- of the lists that begin with a leader those are left whose other states lead
pub front_leads : (lead : Leaders) (f : TupleSymbol) (j q : ℕ) (xs : List (List ℕ)) → opens_class lead f j q ≡ true → filter (all_lead lead f j) (map (λ ks. q ∷ ks) xs) ≡ map (λ ks. q ∷ ks) (filter (all_lead lead f (suc j)) xs)
front_leads lead f j q [] e = refl
front_leads lead f j q (ks ∷ xs) e =
    let others = all_lead lead f (suc j) ks in
    let rest = filter (all_lead lead f j) (map (λ r. q ∷ r) xs) in
    ap (λ b. cond (b && others) ((q ∷ ks) ∷ rest) rest) e
    ∙ (ap (λ r. cond others ((q ∷ ks) ∷ r) r) (front_leads lead f j q xs e) ∙ over_cond others q ks (filter (all_lead lead f (suc j)) xs))

front_none : (lead : Leaders) (f : TupleSymbol) (j q : ℕ) (xs : List (List ℕ)) → opens_class lead f j q ≡ false → filter (all_lead lead f j) (map (λ ks. q ∷ ks) xs) ≡ []
front_none lead f j q [] e = refl
front_none lead f j q (ks ∷ xs) e =
    let rest = filter (all_lead lead f j) (map (λ r. q ∷ r) xs) in
    ap (λ b. cond (b && all_lead lead f (suc j) ks) ((q ∷ ks) ∷ rest) rest) e ∙ front_none lead f j q xs e

-- by the states for the first place
pub by_first : (lead : Leaders) (f : TupleSymbol) (ps : List ℕ) (m j : ℕ) (wants : List ℕ) (has_newest : Bool) → ((b : Bool) → choices m (leader_states lead f ps m (suc j) wants) b ≡ filter (all_lead lead f (suc j)) (kid_lists ps m wants b)) → (qs : List ℕ) → choices_from m (leader_states lead f ps m (suc j) wants) has_newest (filter (opens_class lead f j) qs) ≡ filter (all_lead lead f j) (kid_lists_from ps m wants has_newest qs)
by_first lead f ps m j wants has_newest h [] = refl
by_first lead f ps m j wants has_newest h (q ∷ qs) =
    let rest = leader_states lead f ps m (suc j) wants in
    let lists = kid_lists ps m wants (has_newest || (q == m)) in
    let front = map (λ ks. q ∷ ks) lists in
    let later = kid_lists_from ps m wants has_newest qs in
    let leaders = filter (opens_class lead f j) qs in
    let behind = choices_from m rest has_newest leaders in
    let test = all_lead lead f j in
    let same = by_first lead f ps m j wants has_newest h qs in
    let F : Bool → Type 0 = λ b. opens_class lead f j q ≡ b → choices_from m rest has_newest (cond b (q ∷ leaders) leaders) ≡ filter test front ++ filter test later in
    let both : (b : Bool) → F b = λ b. elim b as F [
      | true ↦ (λ e. ap (λ cs. map (λ ks. q ∷ ks) cs ++ behind) (h (has_newest || (q == m))) ∙ (ap (λ cs. cs ++ behind) (sym (front_leads lead f j q lists e)) ∙ ap (λ cs. filter test front ++ cs) same))
      | false ↦ (λ e. same ∙ sym (ap (λ cs. cs ++ filter test later) (front_none lead f j q lists e)))
    ] in
    both (opens_class lead f j q) refl ∙ sym (filter-append test front later)

-- Result: in the same order
pub choices_lead : (lead : Leaders) (f : TupleSymbol) (ps : List ℕ) (m j : ℕ) (wants : List ℕ) (has_newest : Bool) → choices m (leader_states lead f ps m j wants) has_newest ≡ filter (all_lead lead f j) (kid_lists ps m wants has_newest)
choices_lead lead f ps m j [] true = refl
choices_lead lead f ps m j [] false = refl
choices_lead lead f ps m j (want ∷ wants) has_newest = by_first lead f ps m j wants has_newest (λ b. choices_lead lead f ps m (suc j) wants b) (states_with ps want 0 (m + 1))

-- the newest state comes last
last_before : (m a : ℕ) (qs : List ℕ) (k : ℕ) → (0 < length qs → a < m) → IsLastIn m qs → k + 1 < length (a ∷ qs) → get_or (a ∷ qs) k 0 ≡ m → ⊥
last_before m a qs zero low h l e = omega (arith, low (omega arith))
last_before m a qs (suc k) low h l e = h k (omega arith) e

last_in_either : (m a : ℕ) (qs : List ℕ) (b : Bool) → (0 < length qs → a < m) → IsLastIn m qs → IsLastIn m (cond b (a ∷ qs) qs)
last_in_either m a qs true low h = λ k. last_before m a qs k low h
last_in_either m a qs false low h = h

some_left : (p : ℕ → Bool) (ps : List ℕ) (want a n : ℕ) → 0 < length (filter p (states_with ps want a n)) → 0 < n
some_left p ps want a zero l = absurd (omega arith)
some_left p ps want a (suc n) l = omega arith

last_of_states : (p : ℕ → Bool) (ps : List ℕ) (want m a n : ℕ) → a + n ≤ m + 1 → IsLastIn m (filter p (states_with ps want a n))
last_of_states p ps want m a zero h = λ k l e. absurd (omega arith)
last_of_states p ps want m a (suc n) h =
    let later = states_with ps want (a + 1) n in
    let last = last_of_states p ps want m (a + 1) n (omega arith) in
    let low : 0 < length (filter p later) → a < m = λ l. omega (arith, some_left p ps want (a + 1) n l) in
    let F : Bool → Type 0 = λ b. IsLastIn m (filter p (if b then a ∷ later else later)) in
    let both : (b : Bool) → F b = λ b. elim b as F [ true ↦ last_in_either m a (filter p later) (p a) low last | false ↦ last ] in
    both (get_or ps a 0 == want)

last_at : (lead : Leaders) (f : TupleSymbol) (ps : List ℕ) (m j : ℕ) (wants : List ℕ) (i : ℕ) → i < length (leader_states lead f ps m j wants) → IsLastIn m (get_or (leader_states lead f ps m j wants) i [])
last_at lead f ps m j [] i l = absurd (omega arith)
last_at lead f ps m j (want ∷ wants) zero l = last_of_states (opens_class lead f j) ps want m 0 (m + 1) (omega arith)
last_at lead f ps m j (want ∷ wants) (suc i) l = last_at lead f ps m (suc j) wants i (omega arith)

-- Result: as the choices of leaders ask of their lists
pub last_in_each : (lead : Leaders) (f : TupleSymbol) (ps : List ℕ) (m j : ℕ) (wants : List ℕ) → IsLastInEach m (leader_states lead f ps m j wants)
last_in_each lead f ps m j wants = λ i l. last_at lead f ps m j wants i l
