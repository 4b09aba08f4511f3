-- What is found among the choices of one leader for each place.
use Rattle.std.proofs.Common.{◌≡◌, ℕ, zero, suc, ◌+◌, ◌-◌, ◌<◌, ◌≤◌, List, [], ◌∷◌, ◌++◌, map, length, drop, get_or, Bool, true, false, ◌||◌, ◌==◌, nat_lt, refl, ap, sym, ◌∙◌, arith, subst, ⊎_elim}
use Rattle.std.proofs.Math.ListN.{drop_of_length-le}
use Rattle.std.proofs.lemmas.Bool.{cases_lt, lt-ltb}
use Rattle.std.proofs.lemmas.List.{length-drop}
use Rattle.fort_tables.proofs.EqualTests.{test_from_apart}
use Rattle.fort_leading_walk.specs.Choices.{choices, choices_from, choices_after, AreIn, IsLastIn, is_among, is_in_some, IsUntil, AreLeaderLists, first_tried, IsFirstPicked}
use Rattle.fort_leading_walk.proofs.NewestLaws.{at_place, neither, last_among}

count_in : (lists : List (List ℕ)) (is : List ℕ) → AreIn lists is → length is ≡ length lists
count_in [] [] h = refl
count_in [] (i ∷ is) h = absurd h
count_in (qs ∷ rest) [] h = absurd h
count_in (qs ∷ rest) (i ∷ is) h = ap suc (count_in rest is h.1)

pub room_before : (lists : List (List ℕ)) (place : ℕ) (is : List ℕ) → place < length lists → length lists ≤ 8 → AreIn (drop (place + 1) lists) is → length is < 8
room_before lists place is l few h = omega (arith, count_in (drop (place + 1) lists) is h, length-drop (place + 1) lists)

pub has_in : (lists : List (List ℕ)) (is : List ℕ) (j : ℕ) → AreIn lists is → j < length lists → 0 < length (get_or lists j [])
has_in [] is j h l = absurd (omega arith)
has_in (qs ∷ rest) [] j h l = absurd h
has_in (qs ∷ rest) (i ∷ is) zero h l = omega (arith, h.0)
has_in (qs ∷ rest) (i ∷ is) (suc j) h l = has_in rest is j h.1 (omega arith)

-- an index within each list from this place on
pub record StandsAt (lists : List (List ℕ)) (place index : ℕ) (later : List ℕ) : Type 0 where
  pub low : place < length lists
  pub inside : index < length (get_or lists place [])
  pub others : AreIn (drop (place + 1) lists) later

pub stands_at : (lists : List (List ℕ)) (place index : ℕ) (later : List ℕ) → AreIn (drop place lists) (index ∷ later) → StandsAt lists place index later
stands_at lists place index later h =
    let F : List (List ℕ) → Type 0 = λ rs. AreIn rs (index ∷ later) in
    ⊎_elim (λ l. let r : F (get_or lists place [] ∷ drop (place + 1) lists) = subst F (at_place lists place [] l) h in record { low = l; inside = r.0; others = r.1 })
    (λ l. let no : ⊥ = subst F (drop_of_length-le lists l) h in absurd no)
    (cases_lt place (length lists))

-- without a leader at some place
none_with : (newest : ℕ) (rest : List (List ℕ)) → ((b : Bool) → choices newest rest b ≡ []) → (has_newest : Bool) (qs : List ℕ) → choices_from newest rest has_newest qs ≡ []
none_with newest rest h b [] = refl
none_with newest rest h b (q ∷ qs) = ap (λ cs. map (λ ks. q ∷ ks) cs ++ choices_from newest rest b qs) (h (b || (q == newest))) ∙ none_with newest rest h b qs

pub none_at : (newest : ℕ) (lists : List (List ℕ)) (j : ℕ) → j < length lists → get_or lists j [] ≡ [] → (has_newest : Bool) → choices newest lists has_newest ≡ []
none_at newest [] j l e b = absurd (omega arith)
none_at newest (qs ∷ rest) zero l e b = ap (choices_from newest rest b) e
none_at newest (qs ∷ rest) (suc j) l e b = none_with newest rest (none_at newest rest j (omega arith) e) b qs

-- without the newest state
none_from : (newest : ℕ) (rest : List (List ℕ)) (qs : List ℕ) → is_among newest qs ≡ false → choices newest rest false ≡ [] → choices_from newest rest false qs ≡ []
none_from newest rest [] h e = refl
none_from newest rest (q ∷ qs) h e =
    let r = neither (q == newest) (is_among newest qs) h in
    let tail = choices_from newest rest false qs in
    ap (λ b. map (λ ks. q ∷ ks) (choices newest rest b) ++ tail) r.0 ∙ (ap (λ cs. map (λ ks. q ∷ ks) cs ++ tail) e ∙ none_from newest rest qs r.1 e)

pub nothing_left : (newest : ℕ) (lists : List (List ℕ)) → is_in_some newest lists ≡ false → choices newest lists false ≡ []
nothing_left newest [] h = refl
nothing_left newest (qs ∷ rest) h =
    let r = neither (is_among newest qs) (is_in_some newest rest) h in
    none_from newest rest qs r.0 (nothing_left newest rest r.1)

-- the choices from an index on begin with those of its leader
from_here : (newest : ℕ) (rest : List (List ℕ)) (qs : List ℕ) (i : ℕ) (has_newest : Bool) → i < length qs → choices_from newest rest has_newest (drop i qs) ≡ map (λ ks. get_or qs i 0 ∷ ks) (choices newest rest (has_newest || (get_or qs i 0 == newest))) ++ choices_from newest rest has_newest (drop (i + 1) qs)
from_here newest rest qs i has_newest l = ap (choices_from newest rest has_newest) (at_place qs i 0 l)

-- a leader that leaves the newest state to places without it has no choice
past_one : (newest : ℕ) (rest : List (List ℕ)) (qs : List ℕ) (i : ℕ) → is_in_some newest rest ≡ false → i < length qs → (get_or qs i 0 == newest) ≡ false → choices_from newest rest false (drop i qs) ≡ choices_from newest rest false (drop (i + 1) qs)
past_one newest rest qs i none l other =
    let q = get_or qs i 0 in
    let tail = choices_from newest rest false (drop (i + 1) qs) in
    from_here newest rest qs i false l
    ∙ (ap (λ b. map (λ ks. q ∷ ks) (choices newest rest b) ++ tail) other ∙ ap (λ cs. map (λ ks. q ∷ ks) cs ++ tail) (nothing_left newest rest none))

past : (newest : ℕ) (rest : List (List ℕ)) (qs : List ℕ) (n from : ℕ) → is_in_some newest rest ≡ false → IsLastIn newest qs → from + n < length qs → choices_from newest rest false (drop from qs) ≡ choices_from newest rest false (drop (from + n) qs)
past newest rest qs zero from none last l = let e : from ≡ from + 0 = omega arith in ap (λ i. choices_from newest rest false (drop i qs)) e
past newest rest qs (suc n) from none last l =
    let e : from + 1 + n ≡ from + suc n = omega arith in
    past_one newest rest qs from none (omega arith) (test_from_apart (get_or qs from 0) newest (last from (omega arith)))
    ∙ (past newest rest qs n (from + 1) none last (omega arith) ∙ ap (λ i. choices_from newest rest false (drop i qs)) e)

pub tried_within : (may : Bool) (from count : ℕ) → from < count → first_tried may from count < count
tried_within true from count l = l
tried_within false from count l = omega arith

-- what isn't tried is no choice
tried_same : (may : Bool) (newest : ℕ) (rest : List (List ℕ)) (qs : List ℕ) (from : ℕ) (has_newest : Bool) → may ≡ (has_newest || is_in_some newest rest) → IsLastIn newest qs → from < length qs → choices_from newest rest has_newest (drop (first_tried may from (length qs)) qs) ≡ choices_from newest rest has_newest (drop from qs)
tried_same true newest rest qs from has_newest e last l = refl
tried_same false newest rest qs from has_newest e last l =
    let r = neither has_newest (is_in_some newest rest) (sym e) in
    let n = length qs - 1 - from in
    let there : from + n ≡ length qs - 1 = omega arith in
    let F : Bool → Type 0 = λ b. choices_from newest rest b (drop (length qs - 1) qs) ≡ choices_from newest rest b (drop from qs) in
    subst F (sym r.0) (sym (past newest rest qs n from r.1 last (omega arith) ∙ ap (λ i. choices_from newest rest false (drop i qs)) there))

-- these leaders stand at the place, with the others behind it
pub record AreHere (newest : ℕ) (lists : List (List ℕ)) (until place : ℕ) (qs : List ℕ) : Type 0 where
  pub front : drop place lists ≡ qs ∷ drop (place + 1) lists
  pub are : qs ≡ get_or lists place []
  pub last : IsLastIn newest qs
  pub some : 0 < length qs
  pub later : (has_newest : Bool) → (has_newest || nat_lt (place + 1) until) ≡ (has_newest || is_in_some newest (drop (place + 1) lists))

pub are_here : (newest : ℕ) (lists : List (List ℕ)) (until place : ℕ) (qs : List ℕ) → AreLeaderLists newest lists until → place < length lists → qs ≡ get_or lists place [] → AreHere newest lists until place qs
are_here newest lists until place qs h l e = record {
  front = at_place lists place [] l ∙ ap (λ xs. xs ∷ drop (place + 1) lists) (sym e);
  are = e;
  last = subst (IsLastIn newest) (sym e) (h.last place l);
  some = omega (arith, h.some place l, ap length e);
  later = λ has_newest. ap (λ b. has_newest || b) (sym (h.ends (place + 1)));
}

-- this index is tried first, and whether the newest state is there or has been
pub record IsTried (newest : ℕ) (until place from : ℕ) (qs : List ℕ) (has_newest : Bool) (index : ℕ) (here : Bool) : Type 0 where
  pub may : Bool
  pub may_come : may ≡ (has_newest || nat_lt (place + 1) until)
  pub index_is : index ≡ first_tried may from (length qs)
  pub here_is : here ≡ (has_newest || (get_or qs index 0 == newest))

index_within : (newest until place from : ℕ) (qs : List ℕ) (has_newest : Bool) (index : ℕ) (here : Bool) → from < length qs → IsTried newest until place from qs has_newest index here → index < length qs
index_within newest until place from qs has_newest index here l t = subst (λ i. i < length qs) (sym t.index_is) (tried_within t.may from (length qs) l)

index_same : (newest : ℕ) (lists : List (List ℕ)) (until place from : ℕ) (qs : List ℕ) (has_newest : Bool) (index : ℕ) (here : Bool) → AreHere newest lists until place qs → from < length qs → IsTried newest until place from qs has_newest index here → choices_from newest (drop (place + 1) lists) has_newest (drop index qs) ≡ choices_from newest (drop (place + 1) lists) has_newest (drop from qs)
index_same newest lists until place from qs has_newest index here a l t =
    let rest = drop (place + 1) lists in
    ap (λ i. choices_from newest rest has_newest (drop i qs)) t.index_is ∙ tried_same t.may newest rest qs from has_newest (t.may_come ∙ a.later has_newest) a.last l

-- the first choice of the others after a leader
picked_here : (newest : ℕ) (rest : List (List ℕ)) (qs : List ℕ) (has_newest here : Bool) (index : ℕ) (is ks : List ℕ) (among : List (List ℕ)) → index < length qs → here ≡ (has_newest || (get_or qs index 0 == newest)) → choices_from newest rest has_newest (drop index qs) ≡ among → IsFirstPicked newest rest here (choices newest rest here) is ks → IsFirstPicked newest (qs ∷ rest) has_newest among (index ∷ is) (get_or qs index 0 ∷ ks)
picked_here newest rest qs has_newest here index is ks among l e same h =
    let q = get_or qs index 0 in
    let front : List (List ℕ) → List (List ℕ) = λ cs. map (λ r. q ∷ r) cs ++ choices_from newest rest has_newest (drop (index + 1) qs) in
    record {
      within = (l, h.within);
      leaders = ap (λ r. q ∷ r) h.leaders;
      first = sym same ∙ (from_here newest rest qs index has_newest l
          ∙ (ap (λ b. front (choices newest rest b)) (sym e) ∙ (ap front h.first ∙ ap (λ b. front (ks ∷ choices_after newest rest b is)) e)));
    }

pub first_of_rest : (newest : ℕ) (lists : List (List ℕ)) (until place : ℕ) (qs : List ℕ) (has_newest : Bool) (index : ℕ) (here : Bool) (is ks : List ℕ) → AreHere newest lists until place qs → IsTried newest until place 0 qs has_newest index here → IsFirstPicked newest (drop (place + 1) lists) here (choices newest (drop (place + 1) lists) here) is ks → IsFirstPicked newest (drop place lists) has_newest (choices newest (drop place lists) has_newest) (index ∷ is) (get_or qs index 0 ∷ ks)
first_of_rest newest lists until place qs has_newest index here is ks a t h =
    let rest = drop (place + 1) lists in
    let F : List (List ℕ) → Type 0 = λ rs. IsFirstPicked newest rs has_newest (choices newest rs has_newest) (index ∷ is) (get_or qs index 0 ∷ ks) in
    subst F (sym a.front)
    (picked_here newest rest qs has_newest here index is ks (choices_from newest rest has_newest qs) (index_within newest until place 0 qs has_newest index here a.some t) t.here_is
    (index_same newest lists until place 0 qs has_newest index here a a.some t) h)

pub first_from : (newest : ℕ) (lists : List (List ℕ)) (until place from : ℕ) (qs : List ℕ) (has_newest : Bool) (index : ℕ) (here : Bool) (is ks : List ℕ) → AreHere newest lists until place qs → from < length qs → IsTried newest until place from qs has_newest index here → IsFirstPicked newest (drop (place + 1) lists) here (choices newest (drop (place + 1) lists) here) is ks → IsFirstPicked newest (drop place lists) has_newest (choices_from newest (drop (place + 1) lists) has_newest (drop from (get_or lists place []))) (index ∷ is) (get_or qs index 0 ∷ ks)
first_from newest lists until place from qs has_newest index here is ks a l t h =
    let rest = drop (place + 1) lists in
    let among = choices_from newest rest has_newest (drop from (get_or lists place [])) in
    let F : List (List ℕ) → Type 0 = λ rs. IsFirstPicked newest rs has_newest among (index ∷ is) (get_or qs index 0 ∷ ks) in
    let same = index_same newest lists until place from qs has_newest index here a l t ∙ ap (λ xs. choices_from newest rest has_newest (drop from xs)) a.are in
    subst F (sym a.front) (picked_here newest rest qs has_newest here index is ks among (index_within newest until place from qs has_newest index here l t) t.here_is same h)

last_none : (newest : ℕ) (rest : List (List ℕ)) (qs : List ℕ) (index : ℕ) (has_newest : Bool) → has_newest ≡ false → is_in_some newest rest ≡ false → (get_or qs index 0 == newest) ≡ false → index < length qs → length qs ≤ index + 1 → choices_from newest rest has_newest (drop index qs) ≡ []
last_none newest rest qs index has_newest old none other l end =
    ap (λ b. choices_from newest rest b (drop index qs)) old
    ∙ (past_one newest rest qs index none l other ∙ ap (choices_from newest rest false) (drop_of_length-le qs end))

pub none_from_last : (newest : ℕ) (lists : List (List ℕ)) (until place from : ℕ) (qs : List ℕ) (has_newest : Bool) (index : ℕ) (here : Bool) → AreHere newest lists until place qs → from < length qs → IsTried newest until place from qs has_newest index here → (here || nat_lt (place + 1) until) ≡ false → choices_from newest (drop (place + 1) lists) has_newest (drop from (get_or lists place [])) ≡ []
none_from_last newest lists until place from qs has_newest index here a l t none =
    let rest = drop (place + 1) lists in
    let r = neither here (nat_lt (place + 1) until) none in
    let s = neither has_newest (get_or qs index 0 == newest) (sym t.here_is ∙ r.0) in
    let may : t.may ≡ false = t.may_come ∙ (ap (λ b. b || nat_lt (place + 1) until) s.0 ∙ r.1) in
    let last : index ≡ length qs - 1 = t.index_is ∙ ap (λ b. first_tried b from (length qs)) may in
    sym (index_same newest lists until place from qs has_newest index here a l t ∙ ap (λ xs. choices_from newest rest has_newest (drop from xs)) a.are)
    ∙ last_none newest rest qs index has_newest s.0 (sym (a.later false) ∙ r.1) s.1 (omega arith) (omega arith)

-- where the newest state has been or may come, it still may behind the index that is tried first
keeps : (a b c : Bool) → (a || c) ≡ true → ((a || b) || c) ≡ true
keeps true b c h = refl
keeps false true c h = refl
keeps false false c h = h

regroup : (a b c : Bool) → (a || (b || c)) ≡ true → ((a || b) || c) ≡ true
regroup true b c h = refl
regroup false b c h = h

comes_behind : (may : Bool) (newest : ℕ) (rest : List (List ℕ)) (qs : List ℕ) (has_newest : Bool) → may ≡ (has_newest || is_in_some newest rest) → IsLastIn newest qs → 0 < length qs → (has_newest || is_in_some newest (qs ∷ rest)) ≡ true → ((has_newest || (get_or qs (first_tried may 0 (length qs)) 0 == newest)) || is_in_some newest rest) ≡ true
comes_behind true newest rest qs has_newest e last l h = keeps has_newest (get_or qs 0 0 == newest) (is_in_some newest rest) (sym e)
comes_behind false newest rest qs has_newest e last l h =
    ap (λ b. (has_newest || b) || is_in_some newest rest) (last_among newest qs last l) ∙ regroup has_newest (is_among newest qs) (is_in_some newest rest) h

pub comes_later : (newest : ℕ) (lists : List (List ℕ)) (until place : ℕ) (qs : List ℕ) (has_newest : Bool) (index : ℕ) (here : Bool) → AreHere newest lists until place qs → IsTried newest until place 0 qs has_newest index here → (has_newest || is_in_some newest (drop place lists)) ≡ true → (here || is_in_some newest (drop (place + 1) lists)) ≡ true
comes_later newest lists until place qs has_newest index here a t h =
    let rest = drop (place + 1) lists in
    let there : (has_newest || is_in_some newest (qs ∷ rest)) ≡ true = ap (λ rs. has_newest || is_in_some newest rs) (sym a.front) ∙ h in
    ap (λ b. b || is_in_some newest rest) t.here_is
    ∙ (ap (λ i. (has_newest || (get_or qs i 0 == newest)) || is_in_some newest rest) t.index_is
    ∙ comes_behind t.may newest rest qs has_newest (t.may_come ∙ a.later has_newest) a.last a.some there)

-- after a choice
pub none_after_none : (newest : ℕ) (lists : List (List ℕ)) (has_newest : Bool) (is : List ℕ) → length is ≡ 0 → choices_after newest lists has_newest is ≡ []
none_after_none newest [] has_newest is e = refl
none_after_none newest (qs ∷ rest) has_newest [] e = refl
none_after_none newest (qs ∷ rest) has_newest (i ∷ is) e = absurd (omega arith)

-- from the first place on
pub comes_at_all : (newest : ℕ) (lists : List (List ℕ)) (until : ℕ) → IsUntil newest lists until → 0 < until → (false || is_in_some newest (drop 0 lists)) ≡ true
comes_at_all newest lists until h l = h 0 ∙ lt-ltb 0 until l

pub none_at_all : (newest : ℕ) (lists : List (List ℕ)) (until : ℕ) → IsUntil newest lists until → until ≡ 0 → choices newest lists false ≡ []
none_at_all newest lists until h e = nothing_left newest lists (h 0 ∙ ap (nat_lt 0) e)
