-- The first moves that meet, found among the places of the moves to p and to q.
use Rattle.std.proofs.Common.{◌≡◌, ℕ, suc, ◌+◌, ◌<◌, List, [], ◌∷◌, ◌++◌, Bool, true, false, cond, ltb, length, ap, sym, ◌∙◌, refl, subst, arith, Option, Some, None, inl, inr, nat_eq, get_or, drop, add-one}
use Rattle.std.specs.Prelude.{Contains, slice_get, position, filter, ◌&&◌, not}
use Rattle.std.specs.List.{position_or_len}
use Rattle.std.proofs.Math.Seq.{drop-cons}
use Rattle.std.proofs.lemmas.Bool.Decides.{nat_tests}
use Rattle.std.proofs.lemmas.Option.{slice_get-get_or}
use Rattle.fort_theory.proofs.Members.{Contains-none, Contains-cons_cases, Contains-from_filter}
use Rattle.fort_tree_automata.specs.declared.nta.Move.{Move}
use Rattle.fort_gtt_closure.specs.declared.entry.Entry.{Entry}
use Rattle.fort_gtt_closure.specs.declared.groups.Groups.{Groups}
use Rattle.fort_gtt_closure.specs.Groups.{group, AreByFirst}
use Rattle.fort_gtt_closure.specs.Links.{AreWithin}
use Rattle.fort_gtt_closure.specs.Scans.{all_listed, moves_meet, by_left_move, kids_at, if_met, by_kids, targets, if_first, first_of, meets, by_left_place, if_move, by_places}

pub targets-push : (n : ℕ) (ms : List Move) (m : Move) → targets n (ms ++ m ∷ []) ≡ targets n ms ++ (m.target, n + length ms) ∷ []
targets-push n [] m = (let e : n ≡ n + 0 = omega arith in ap (λ (k : ℕ). (m.target, k) ∷ []) e)
targets-push n (x ∷ ms) m =
    let e : n + 1 + length ms ≡ n + suc (length ms) = omega arith in
    ap (λ zs. (x.target, n) ∷ zs) (targets-push (n + 1) ms m ∙ ap (λ (k : ℕ). targets (n + 1) ms ++ (m.target, k) ∷ []) e)

targets-within : (n : ℕ) (ms : List Move) (x : ℕ × ℕ) → Contains (targets n ms) x → x.1 < n + length ms
targets-within n [] x c = absurd (Contains-none x c)
targets-within n (m ∷ ms) x c = elim (Contains-cons_cases (m.target, n) (targets (n + 1) ms) x c) [
  | inl e ↦ (let h : n ≡ x.1 = ap (λ (z : ℕ × ℕ). z.1) e in omega arith)
  | inr there ↦ (let h = targets-within (n + 1) ms x there in omega arith)
]

pub group-within : (count : ℕ) (ms : List Move) (g : Groups) (s : ℕ) → AreByFirst count (targets 0 ms) g → s < count → AreWithin (length ms) (group g s)
group-within count ms g s by low x c =
    let test : ℕ × ℕ → Bool = λ pair. nat_eq pair.0 s in
    let there = (Contains-from_filter test (targets 0 ms) x (subst (λ zs. Contains zs x) (by.each s low) c)).0 in
    let h = targets-within 0 ms x there in
    omega arith

abbrev first_from : (Move → Bool) → ℕ → List Move → Option ℕ
first_from p n [] = None
first_from p n (m ∷ ms) = if_first (p m) n (first_from p (n + 1) ms)

abbrev test_at : ℕ → ℕ × ℕ → Bool
test_at s pair = nat_eq pair.0 s

-- the moves are those of the whole list from n on
record IsFrom (all : List Move) (n : ℕ) (ms : List Move) : Type 0 where
  each : (k : ℕ) (m : Move) → slice_get ms k ≡ Some m → slice_get all (n + k) ≡ Some m

from-all : (ms : List Move) → IsFrom ms 0 ms
from-all ms = record { each = λ k m at. (let e : k ≡ 0 + k = omega arith in subst (λ i. slice_get ms i ≡ Some m) e at) }

from-head : (all : List Move) (n : ℕ) (m : Move) (ms : List Move) → IsFrom all n (m ∷ ms) → slice_get all n ≡ Some m
from-head all n m ms h = (let e : n + 0 ≡ n = omega arith in subst (λ i. slice_get all i ≡ Some m) e (h.each 0 m refl))

from-tail : (all : List Move) (n : ℕ) (m : Move) (ms : List Move) → IsFrom all n (m ∷ ms) → IsFrom all (n + 1) ms
from-tail all n m ms h = record {
  each = λ k x at. (let e : n + suc k ≡ n + 1 + k = omega arith in subst (λ i. slice_get all i ≡ Some x) e (h.each (suc k) x at));
}

lt-suc : (x y : ℕ) → ltb (1 + x) (suc y) ≡ ltb x y
lt-suc x y = grind (arith, nat_tests)

lt-zero : (y : ℕ) → ltb 0 (suc y) ≡ true
lt-zero y = grind (arith, nat_tests)

found-from : (p : Move → Bool) (n : ℕ) (ms : List Move)
    → first_from p n ms ≡ cond (ltb (position_or_len p ms) (length ms)) (Some (n + position_or_len p ms)) None
found-from p n [] = refl
found-from p n (m ∷ ms) = by (found-from p (n + 1) ms) (p m)
  where
    later : (b : Bool) → cond b (Some (n + 1 + position_or_len p ms)) None ≡ cond b (Some (n + (1 + position_or_len p ms))) None
    later true = (let e : n + 1 + position_or_len p ms ≡ n + (1 + position_or_len p ms) = omega arith in ap Some e)
    later false = refl

    by : first_from p (n + 1) ms ≡ cond (ltb (position_or_len p ms) (length ms)) (Some (n + 1 + position_or_len p ms)) None → (b : Bool) → if_first b n (first_from p (n + 1) ms)
        ≡ cond (ltb (cond (not b) (1 + position_or_len p ms) 0) (suc (length ms))) (Some (n + cond (not b) (1 + position_or_len p ms) 0)) None
    by rest true = (let e : n ≡ n + 0 = omega arith in ap Some e ∙ sym (ap (λ v. cond v (Some (n + 0)) None) (lt-zero (length ms))))
    by rest false =
        rest
        ∙ (later (ltb (position_or_len p ms) (length ms)) ∙ sym (ap (λ v. cond v (Some (n + (1 + position_or_len p ms))) None) (lt-suc (position_or_len p ms) (length ms))))

position-from : (p : Move → Bool) (ms : List Move) → first_from p 0 ms ≡ position p ms
position-from p ms =
    let e : 0 + position_or_len p ms ≡ position_or_len p ms = omega arith in
    found-from p 0 ms ∙ ap (λ k. cond (ltb (position_or_len p ms) (length ms)) (Some k) None) e

module _ (es : List Entry) where
  module _ (right : Move) (q : ℕ) (all : List Move) where
    abbrev test : ℕ → Bool
    test j = meets es right (slice_get all j)

    left-step : (n : ℕ) (m : Move) (rest : List (ℕ × ℕ)) (later : Option ℕ) (b : Bool) → nat_eq m.target q ≡ b → slice_get all n ≡ Some m → first_of test rest ≡ later
        → first_of test (cond b ((m.target, n) ∷ rest) rest) ≡ if_first (moves_meet es right q m) n later
    left-step n m rest later false e at ih =
        ih ∙ ap (λ v. if_first (v && nat_eq m.sym.0 right.sym.0 && all_listed es right.kids.items m.kids.items) n later) (sym e)
    left-step n m rest later true e at ih =
        ap (λ o. if_first (meets es right o) n (first_of test rest)) at
        ∙ (ap (λ o. if_first (nat_eq m.sym.0 right.sym.0 && all_listed es right.kids.items m.kids.items) n o) ih
        ∙ ap (λ v. if_first (v && nat_eq m.sym.0 right.sym.0 && all_listed es right.kids.items m.kids.items) n later) (sym e))

    first_of-targets : (n : ℕ) (ms : List Move) → IsFrom all n ms → first_of test (filter (test_at q) (targets n ms)) ≡ first_from (moves_meet es right q) n ms
    first_of-targets n [] h = refl
    first_of-targets n (m ∷ ms) h =
        left-step n m (filter (test_at q) (targets (n + 1) ms)) (first_from (moves_meet es right q) (n + 1) ms) (nat_eq m.target q) refl (from-head all n m ms h)
        (first_of-targets (n + 1) ms (from-tail all n m ms h))

  by_left_place-is : (q : ℕ) (lefts : List Move) (places : List (ℕ × ℕ)) → places ≡ filter (test_at q) (targets 0 lefts)
      → (right : Move) → by_left_place es lefts places right ≡ by_left_move es right q lefts
  by_left_place-is q lefts places e right =
      ap (first_of (λ j. meets es right (slice_get lefts j))) e ∙ (first_of-targets right q lefts 0 lefts (from-all lefts) ∙ position-from (moves_meet es right q) lefts)

  module _ (p q : ℕ) (lefts all : List Move) (f : Move → Option ℕ) (same : (m : Move) → f m ≡ by_left_move es m q lefts) where
    kids-step : (n : ℕ) (m : Move) (rest : List (ℕ × ℕ)) (later : Option (ℕ × ℕ)) (b : Bool) → nat_eq m.target p ≡ b → slice_get all n ≡ Some m → by_places f all rest ≡ later
        → by_places f all (cond b ((m.target, n) ∷ rest) rest) ≡ kids_at n (if_met (nat_eq m.target p) (by_left_move es m q lefts)) later
    kids-step n m rest later false e at ih = ih ∙ ap (λ v. kids_at n (if_met v (by_left_move es m q lefts)) later) (sym e)
    kids-step n m rest later true e at ih =
        ap (λ o. kids_at n (if_move f o) (by_places f all rest)) at
        ∙ (ap (λ o. kids_at n o (by_places f all rest)) (same m)
        ∙ (ap (λ l. kids_at n (by_left_move es m q lefts) l) ih ∙ ap (λ v. kids_at n (if_met v (by_left_move es m q lefts)) later) (sym e)))

    by_places-targets : (n : ℕ) (ms : List Move) → IsFrom all n ms → by_places f all (filter (test_at p) (targets n ms)) ≡ by_kids es p q lefts n ms
    by_places-targets n [] h = refl
    by_places-targets n (m ∷ ms) h =
        kids-step n m (filter (test_at p) (targets (n + 1) ms)) (by_kids es p q lefts (n + 1) ms) (nat_eq m.target p) refl (from-head all n m ms h)
        (by_places-targets (n + 1) ms (from-tail all n m ms h))

  pub by_places-is : (p q : ℕ) (rights lefts : List Move) (right_places left_places : List (ℕ × ℕ)) → right_places ≡ filter (test_at p) (targets 0 rights)
      → left_places ≡ filter (test_at q) (targets 0 lefts) → by_places (by_left_place es lefts left_places) rights right_places ≡ by_kids es p q lefts 0 rights
  by_places-is p q rights lefts right_places left_places er el =
      ap (by_places (by_left_place es lefts left_places) rights) er
      ∙ by_places-targets p q lefts rights (by_left_place es lefts left_places) (by_left_place-is q lefts left_places el) 0 rights (from-all rights)

-- ---- the steps of the loops

drop-step : (xs : List (ℕ × ℕ)) (i : ℕ) → i < length xs → drop i xs ≡ get_or xs i (0, 0) ∷ drop (i + 1) xs
drop-step xs i lt = drop-cons xs i (0, 0) lt ∙ ap (λ k. get_or xs i (0, 0) ∷ drop k xs) (sym (add-one i))

pub first_of-step : (test : ℕ → Bool) (xs : List (ℕ × ℕ)) (i : ℕ) (b : Bool) → i < length xs → test (get_or xs i (0, 0)).1 ≡ b
    → first_of test (drop i xs) ≡ if_first b (get_or xs i (0, 0)).1 (first_of test (drop (i + 1) xs))
first_of-step test xs i b lt e =
    ap (first_of test) (drop-step xs i lt) ∙ ap (λ v. if_first v (get_or xs i (0, 0)).1 (first_of test (drop (i + 1) xs))) e

pub by_places-step : (f : Move → Option ℕ) (ms : List Move) (xs : List (ℕ × ℕ)) (i : ℕ) (o : Option ℕ) → i < length xs → if_move f (slice_get ms (get_or xs i (0, 0)).1) ≡ o
    → by_places f ms (drop i xs) ≡ kids_at (get_or xs i (0, 0)).1 o (by_places f ms (drop (i + 1) xs))
by_places-step f ms xs i o lt e =
    ap (by_places f ms) (drop-step xs i lt) ∙ ap (λ v. kids_at (get_or xs i (0, 0)).1 v (by_places f ms (drop (i + 1) xs))) e

-- the move that was read at a place
pub move-at : (ms : List Move) (k : ℕ) (m : Move) → k < length ms → m ≡ get_or ms k m → slice_get ms k ≡ Some m
move-at ms k m lt e = slice_get-get_or ms k m lt ∙ ap Some (sym e)
