-- One step through the states of a presence.
use Rattle.std.proofs.Common.{◌≡◌, ℕ, zero, suc, ◌+◌, ◌-◌, ◌<◌, ◌≤◌, max, if◌then◌else◌, List, [], ◌∷◌, ◌++◌, map, length, get_or, Bool, true, false, ◌||◌, ◌==◌, refl, ap, sym, ◌∙◌, arith, ⊎_elim}
use Rattle.std.proofs.lemmas.Bool.{cases_lt, cases_eq, eq-eqb}
use Rattle.fort_tables.specs.Entries.{stage}
use Rattle.fort_tables.proofs.EqualTests.{if_equal, if_apart, test_from_apart, equal_from_test, apart_from_test}
use Rattle.fort_entry_walk.specs.Walks.{states_with, kid_lists, kid_lists_from, kids_after, stage_kids_after, is_wanted, first_tried}

left_is : (q m : ℕ) → q ≤ m → m + 1 - q ≡ suc (m + 1 - (q + 1))
left_is q m h = omega arith

pub states_here : (ps : List ℕ) (want q m : ℕ) → q ≤ m → get_or ps q 0 ≡ want → states_with ps want q (m + 1 - q) ≡ q ∷ states_with ps want (q + 1) (m + 1 - (q + 1))
states_here ps want q m h e = rw (left_is q m h) (if_equal (get_or ps q 0) want _ _ e)

pub states_past : (ps : List ℕ) (want q m : ℕ) → q ≤ m → (get_or ps q 0 ≡ want → ⊥) → states_with ps want q (m + 1 - q) ≡ states_with ps want (q + 1) (m + 1 - (q + 1))
states_past ps want q m h e = rw (left_is q m h) (if_apart (get_or ps q 0) want _ _ e)

pub lists_past : (ps : List ℕ) (want q m : ℕ) (wants : List ℕ) (has_greatest : Bool) (all : List (List ℕ)) → q ≤ m → (get_or ps q 0 ≡ want → ⊥) → kid_lists_from ps m wants has_greatest (states_with ps want q (m + 1 - q)) ≡ all → kid_lists_from ps m wants has_greatest (states_with ps want (q + 1) (m + 1 - (q + 1))) ≡ all
lists_past ps want q m wants has_greatest all h e r = ap (kid_lists_from ps m wants has_greatest) (sym (states_past ps want q m h e)) ∙ r

pub lists_none : (ps : List ℕ) (want q m : ℕ) (wants : List ℕ) (has_greatest : Bool) (all : List (List ℕ)) → q ≤ m → get_or ps q 0 ≡ want → kid_lists ps m wants (has_greatest || (q == m)) ≡ [] → kid_lists_from ps m wants has_greatest (states_with ps want q (m + 1 - q)) ≡ all → kid_lists_from ps m wants has_greatest (states_with ps want (q + 1) (m + 1 - (q + 1))) ≡ all
lists_none ps want q m wants has_greatest all h e n r =
    let tail = kid_lists_from ps m wants has_greatest (states_with ps want (q + 1) (m + 1 - (q + 1))) in
    sym (ap (kid_lists_from ps m wants has_greatest) (states_here ps want q m h e) ∙ ap (λ ks. map (λ k. q ∷ k) ks ++ tail) n) ∙ r

-- where the state m can be none of the children, there is no list with it
none_from : (ps : List ℕ) (m p : ℕ) (ws : List ℕ) → (p == get_or ps m 0) ≡ false → kid_lists ps m ws false ≡ [] → (n a : ℕ) → kid_lists_from ps m ws false (states_with ps p a n) ≡ []
none_from ps m p ws h e zero a = refl
none_from ps m p ws h e (suc n) a =
    let later = none_from ps m p ws h e n (a + 1) in
    let rest = states_with ps p (a + 1) n in
    let F : Bool → Type 0 = λ b. (get_or ps a 0 == p) ≡ b → kid_lists_from ps m ws false (if b then a ∷ rest else rest) ≡ [] in
    let both : (b : Bool) → F b = λ b. elim b as F [
      | true ↦ (λ t.
          let other : (a == m) ≡ false =
          test_from_apart a m (λ s. apart_from_test p (get_or ps m 0) h (sym (equal_from_test (get_or ps a 0) p t) ∙ ap (λ i. get_or ps i 0) s)) in
          ap (λ b. map (λ k. a ∷ k) (kid_lists ps m ws b) ++ kid_lists_from ps m ws false rest) other
          ∙ (ap (λ ks. map (λ k. a ∷ k) ks ++ kid_lists_from ps m ws false rest) e ∙ later))
      | false ↦ (λ t. later)
    ] in
    both (get_or ps a 0 == p) refl

neither : (a b : Bool) → (a || b) ≡ false → (a ≡ false) × (b ≡ false)
neither true b h = absurd cc
neither false b h = (refl, h)

pub nothing_left : (ps : List ℕ) (m : ℕ) (ws : List ℕ) → is_wanted (get_or ps m 0) ws ≡ false → kid_lists ps m ws false ≡ []
nothing_left ps m [] h = refl
nothing_left ps m (p ∷ ws) h =
    let r = neither (p == get_or ps m 0) (is_wanted (get_or ps m 0) ws) h in
    none_from ps m p ws r.0 (nothing_left ps m ws r.1) (m + 1) 0

skipped_one : (ps : List ℕ) (want q m : ℕ) (ws : List ℕ) → is_wanted (get_or ps m 0) ws ≡ false → q < m → kid_lists_from ps m ws false (states_with ps want (q + 1) (m + 1 - (q + 1))) ≡ kid_lists_from ps m ws false (states_with ps want q (m + 1 - q))
skipped_one ps want q m ws o h =
    ⊎_elim
    (λ e. lists_none ps want q m ws false _ (omega arith) e (ap (kid_lists ps m ws) (test_from_apart q m (λ s. omega arith)) ∙ nothing_left ps m ws o) refl)
    (λ ne. lists_past ps want q m ws false _ (omega arith) ne refl)
    (cases_eq (get_or ps q 0) want)

skipped : (ps : List ℕ) (want m : ℕ) (ws : List ℕ) → is_wanted (get_or ps m 0) ws ≡ false → (n from : ℕ) → from + n ≡ m → kid_lists_from ps m ws false (states_with ps want m (m + 1 - m)) ≡ kid_lists_from ps m ws false (states_with ps want from (m + 1 - from))
skipped ps want m ws o zero from e = let s : m ≡ from = omega arith in ap (λ q. kid_lists_from ps m ws false (states_with ps want q (m + 1 - q))) s
skipped ps want m ws o (suc n) from e = skipped ps want m ws o n (from + 1) (omega arith) ∙ skipped_one ps want from m ws o (omega arith)

-- what isn't tried is no list
pub first_tried-same : (ps : List ℕ) (want from m : ℕ) (ws : List ℕ) (has_greatest : Bool) → from ≤ m + 1 → kid_lists_from ps m ws has_greatest (states_with ps want (first_tried ps has_greatest ws from m) (m + 1 - first_tried ps has_greatest ws from m)) ≡ kid_lists_from ps m ws has_greatest (states_with ps want from (m + 1 - from))
first_tried-same ps want from m ws true h = refl
first_tried-same ps want from m ws false h =
    let at : ℕ → List (List ℕ) = λ q. kid_lists_from ps m ws false (states_with ps want q (m + 1 - q)) in
    let F : Bool → Type 0 = λ b. is_wanted (get_or ps m 0) ws ≡ b → at (if b then from else max from m) ≡ at from in
    let both : (b : Bool) → F b = λ b. elim b as F [
      | true ↦ (λ t. refl)
      | false ↦ (λ t. ⊎_elim
          (λ l. let e : max from m ≡ from = omega arith in ap at e)
          (λ l. let e : max from m ≡ m = omega arith in ap at e ∙ skipped ps want m ws t (m - from) from (omega arith))
          (cases_lt m from))
    ] in
    both (is_wanted (get_or ps m 0) ws) refl

if_same : {X : Type 0} (b : Bool) (x : X) → (if b then x else x) ≡ x
if_same true x = refl
if_same false x = refl

none_past : (ps : List ℕ) (want m : ℕ) → states_with ps want (m + 1) (m + 1 - (m + 1)) ≡ []
none_past ps want m = let e : m + 1 - (m + 1) ≡ 0 = omega arith in ap (states_with ps want (m + 1)) e

-- behind the greatest state alone there is no list
pub none_behind : (ps : List ℕ) (m : ℕ) (ws : List ℕ) → kids_after ps m ws false (m ∷ []) ≡ []
none_behind ps m [] = refl
none_behind ps m (p ∷ []) =
    ap (λ ks. ks ++ kid_lists_from ps m [] false (states_with ps p (m + 1) (m + 1 - (m + 1)))) (if_same (get_or ps m 0 == p) [])
    ∙ ap (kid_lists_from ps m [] false) (none_past ps p m)
none_behind ps m (p ∷ w ∷ ws) =
    ap (λ ks. ks ++ kid_lists_from ps m (w ∷ ws) false (states_with ps p (m + 1) (m + 1 - (m + 1)))) (if_same (get_or ps m 0 == p) [])
    ∙ ap (kid_lists_from ps m (w ∷ ws) false) (none_past ps p m)

-- an entry with at most one child is the only one of its symbol at its stage
pub none_for_one : (ps : List ℕ) (s : ℕ) (ws ks : List ℕ) → stage ks ≡ s → length ks < 2 → stage_kids_after ps s ws ks ≡ []
none_for_one ps s ws [] e l = ap (λ k. stage_kids_after ps k ws []) (sym e)
none_for_one ps s ws (k ∷ []) e l =
    let at : suc k ≡ s = omega (arith, e) in
    ap (λ i. stage_kids_after ps i ws (k ∷ [])) (sym at) ∙ none_behind ps k ws
none_for_one ps s ws (k ∷ q ∷ ks) e l = absurd (omega arith)

-- the one list of a single child
pub one_list : (ps : List ℕ) (want m : ℕ) → get_or ps m 0 ≡ want → kid_lists ps m (want ∷ []) false ≡ (m ∷ []) ∷ kids_after ps m (want ∷ []) false (m ∷ [])
one_list ps want m e =
    let all : ℕ → List (List ℕ) = λ n. kid_lists_from ps m [] false (states_with ps want 0 n) in
    let start : m + 1 ≡ m + 1 - 0 = omega arith in
    let here = ap (kid_lists_from ps m [] false) (states_here ps want m m (omega arith) e) in
    let last = ap (λ b. map (λ ks. m ∷ ks) (kid_lists ps m [] b) ++ kid_lists_from ps m [] false (states_with ps want (m + 1) (m + 1 - (m + 1)))) (eq-eqb m m refl) in
    let none = ap (λ qs. (m ∷ []) ∷ kid_lists_from ps m [] false qs) (none_past ps want m) in
    ap all start ∙ (sym (skipped ps want m [] refl m 0 (omega arith)) ∙ (here ∙ (last ∙ (none ∙ ap (λ ls. (m ∷ []) ∷ ls) (sym (none_behind ps m (want ∷ [])))))))

pub no_list : (ps : List ℕ) (want m : ℕ) → (get_or ps m 0 ≡ want → ⊥) → kid_lists ps m (want ∷ []) false ≡ []
no_list ps want m ne =
    let apart : (want == get_or ps m 0) ≡ false = test_from_apart want (get_or ps m 0) (λ e. ne (sym e)) in
    nothing_left ps m (want ∷ []) (ap (λ b. b || false) apart)

-- behind one state there is the next one alone
pub after_one : (ps : List ℕ) (want q m : ℕ) (has_greatest : Bool) → kids_after ps m (want ∷ []) has_greatest (q ∷ []) ≡ kid_lists_from ps m [] has_greatest (states_with ps want (q + 1) (m + 1 - (q + 1)))
after_one ps want q m has_greatest = ap (λ ks. ks ++ kid_lists_from ps m [] has_greatest (states_with ps want (q + 1) (m + 1 - (q + 1)))) (if_same (get_or ps q 0 == want) [])

tried : (ps : List ℕ) (q from m : ℕ) (has_greatest : Bool) → q ≤ m → first_tried ps has_greatest [] from m ≤ q → (has_greatest || (q == m)) ≡ true
tried ps q from m true h l = refl
tried ps q from m false h l = eq-eqb q m (omega arith)

-- the first state of a last child
pub last_here : (ps : List ℕ) (want q from m : ℕ) (has_greatest : Bool) (all : List (List ℕ)) → q ≤ m → get_or ps q 0 ≡ want → first_tried ps has_greatest [] from m ≤ q → kid_lists_from ps m [] has_greatest (states_with ps want q (m + 1 - q)) ≡ all → all ≡ (q ∷ []) ∷ kids_after ps m (want ∷ []) has_greatest (q ∷ [])
last_here ps want q from m has_greatest all h e l r =
    let tail = kid_lists_from ps m [] has_greatest (states_with ps want (q + 1) (m + 1 - (q + 1))) in
    let here = ap (kid_lists_from ps m [] has_greatest) (states_here ps want q m h e) in
    let there = ap (λ b. map (λ ks. q ∷ ks) (kid_lists ps m [] b) ++ tail) (tried ps q from m has_greatest h l) in
    sym r ∙ (here ∙ (there ∙ ap (λ ls. (q ∷ []) ∷ ls) (sym (after_one ps want q m has_greatest))))

-- the lists of two after a list of two whose first state may stand there
two_behind : (ps : List ℕ) (want last q other m : ℕ) → get_or ps q 0 ≡ want → kids_after ps m (want ∷ last ∷ []) false (q ∷ other ∷ []) ≡ map (λ ks. q ∷ ks) (kids_after ps m (last ∷ []) (q == m) (other ∷ [])) ++ kid_lists_from ps m (last ∷ []) false (states_with ps want (q + 1) (m + 1 - (q + 1)))
two_behind ps want last q other m e =
    let tail = kid_lists_from ps m (last ∷ []) false (states_with ps want (q + 1) (m + 1 - (q + 1))) in
    ap (λ ks. ks ++ tail) (if_equal (get_or ps q 0) want (map (λ ks. q ∷ ks) (kids_after ps m (last ∷ []) (q == m) (other ∷ []))) [] e)

-- the first list of two with this first state
pub pair_here : (ps : List ℕ) (want last q other m : ℕ) (all : List (List ℕ)) → q ≤ m → get_or ps q 0 ≡ want → kid_lists_from ps m [] (q == m) (states_with ps last 0 (m + 1 - 0)) ≡ (other ∷ []) ∷ kids_after ps m (last ∷ []) (q == m) (other ∷ []) → kid_lists_from ps m (last ∷ []) false (states_with ps want q (m + 1 - q)) ≡ all → all ≡ (q ∷ other ∷ []) ∷ kids_after ps m (want ∷ last ∷ []) false (q ∷ other ∷ [])
pair_here ps want last q other m all h e first r =
    let tail = kid_lists_from ps m (last ∷ []) false (states_with ps want (q + 1) (m + 1 - (q + 1))) in
    let front : List (List ℕ) → List (List ℕ) = λ ls. map (λ ks. q ∷ ks) ls ++ tail in
    let start : m + 1 ≡ m + 1 - 0 = omega arith in
    let lasts : ℕ → List (List ℕ) = λ n. kid_lists_from ps m [] (q == m) (states_with ps last 0 n) in
    let here = ap (kid_lists_from ps m (last ∷ []) false) (states_here ps want q m h e) in
    sym r ∙ (here ∙ (ap front (ap lasts start ∙ first) ∙ ap (λ ls. (q ∷ other ∷ []) ∷ ls) (sym (two_behind ps want last q other m e))))

pub pair_none : (ps : List ℕ) (want last q m : ℕ) (all : List (List ℕ)) → q ≤ m → get_or ps q 0 ≡ want → kid_lists_from ps m [] (q == m) (states_with ps last 0 (m + 1 - 0)) ≡ [] → kid_lists_from ps m (last ∷ []) false (states_with ps want q (m + 1 - q)) ≡ all → kid_lists_from ps m (last ∷ []) false (states_with ps want (q + 1) (m + 1 - (q + 1))) ≡ all
pair_none ps want last q m all h e none r =
    let start : m + 1 ≡ m + 1 - 0 = omega arith in
    let lasts : ℕ → List (List ℕ) = λ n. kid_lists_from ps m [] (q == m) (states_with ps last 0 n) in
    lists_none ps want q m (last ∷ []) false all h e (ap lasts start ∙ none) r

-- states of which none has the presence may be left out
pub states_none : (ps : List ℕ) (want m n q : ℕ) → states_with ps want q n ≡ [] → q + n ≤ m + 1 → states_with ps want (q + n) (m + 1 - (q + n)) ≡ states_with ps want q (m + 1 - q)
states_none ps want m zero q e h = let s : q + 0 ≡ q = omega arith in ap (λ i. states_with ps want i (m + 1 - i)) s
states_none ps want m (suc n) q e h =
    ⊎_elim
    (λ s. let here = if_equal (get_or ps q 0) want (q ∷ states_with ps want (q + 1) n) (states_with ps want (q + 1) n) s in let no : q ∷ states_with ps want (q + 1) n ≡ [] = sym here ∙ e in absurd (cc no))
    (λ s.
    let past = if_apart (get_or ps q 0) want (q ∷ states_with ps want (q + 1) n) (states_with ps want (q + 1) n) s in
    let there : q + suc n ≡ q + 1 + n = omega arith in
    ap (λ i. states_with ps want i (m + 1 - i)) there ∙ (states_none ps want m n (q + 1) (sym past ∙ e) (omega arith) ∙ sym (states_past ps want q m (omega arith) s)))
    (cases_eq (get_or ps q 0) want)
