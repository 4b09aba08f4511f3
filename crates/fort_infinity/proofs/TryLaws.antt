-- The states tried in a round, one after another, and those that are woken.
use Rattle.std.proofs.Common.{◌≡◌, ℕ, zero, suc, ◌+◌, ◌<◌, List, [], ◌∷◌, ◌++◌, length, get_or, take, drop, ⊎_elim, refl, sym, ◌∙◌, arith, subst, Result, Ok, Err, OnErr}
use Rattle.std.specs.Prelude.{Contains}
use Rattle.std.proofs.lemmas.List.{drop_more, take_more, get_or_default}
use Rattle.std.proofs.lemmas.List.Elements.{Contains-append_left, Contains-append_right, Contains-append_cases, Contains-push, Contains-push_cases}
use Rattle.fort_theory.proofs.Members.{Contains-head}
use Rattle.fort_tables.specs.Tables.{Table}
use Rattle.fort_tables.proofs.PureStateLaws.{pure_child}
use Rattle.fort_infinity.specs.Children.{AreChildren}
use Rattle.fort_infinity.specs.Rankings.{rank_of, waiting_of, HasRoom, IsAdvanced, AreTried, AreReady, AreWoken, HasUnranked}
use Rattle.fort_infinity.specs.declared.ranks.Ranking.{Ranking}
use Rattle.fort_infinity.proofs.RankingLaws.{child_there, tried_skipped, tried_advanced}

-- a fact that holds anyway holds at an error
pub OnErr-always : {T E : Type 0} (r : Result T E) (P : Type 0) → P → OnErr r P
OnErr-always (Ok x) P p = tt
OnErr-always (Err e) P p = p

pub children_within : (body : Table) (c : ℕ) (children : List (List ℕ)) → c < body.columns → AreChildren body c children → (k i : ℕ) → i < length (get_or children k []) → get_or (get_or children k []) i 0 < length children
children_within body c children low are k i l =
    let p = pure_child body c k _ low (child_there body c children k i are l) in omega (arith, p.within, are.count)

pub room_for : (body : Table) (c : ℕ) (children : List (List ℕ)) (r : ℕ) (old s : Ranking) (left ranked : List ℕ) → AreTried body c children r old s left ranked → HasRoom s (length children)
room_for body c children r old s left ranked h = record {
  ranks = h.room.ranks ∙ sym h.are_children.count;
  passed = h.room.passed ∙ sym h.are_children.count;
  waiting = h.room.waiting ∙ sym h.are_children.count;
}

-- a state that is ranked now has its places
pub ranked_within : (body : Table) (c : ℕ) (children : List (List ℕ)) (r : ℕ) (old s : Ranking) (left ranked : List ℕ) → AreTried body c children r old s left ranked → (i : ℕ) → i < length ranked → get_or ranked i 0 < length s.waiting
ranked_within body c children r old s left ranked h i l =
    let p = (h.are_ranked (get_or ranked i 0) (i, l, get_or_default ranked i (get_or ranked i 0) 0 l)).0 in omega (arith, p.within, h.room.waiting)

module _ (body : Table) (c : ℕ) (children : List (List ℕ)) (r : ℕ) (old s : Ranking) (tried : List ℕ) (i : ℕ) (ranked : List ℕ) (ready : AreReady body c children r old tried) (l : i < length tried) (h : AreTried body c children r old s (drop i tried) ranked) where
  -- the next state and those behind it
  next_tried : AreTried body c children r old s (get_or tried i 0 ∷ drop (i + 1) tried) ranked
  next_tried = subst (λ (xs : List ℕ). AreTried body c children r old s xs ranked) (drop_more tried i 0 l) h

  pub tried_within : get_or tried i 0 < length children
  tried_within =
      let p = next_tried.pure_left (get_or tried i 0) (Contains-head (get_or tried i 0) (drop (i + 1) tried)) in
      omega (arith, p.within, h.are_children.count)

  pub skipped : (n : ℕ) → rank_of s (get_or tried i 0) ≡ n → (n ≡ 0 → ⊥) → AreTried body c children r old s (drop (i + 1) tried) ranked
  skipped zero e some = absurd (some refl)
  skipped (suc n) e some = tried_skipped body c children r old s (drop (i + 1) tried) ranked ready.ranks (get_or tried i 0) n next_tried e

  pub advanced : (new : Ranking) (again : List ℕ) → rank_of s (get_or tried i 0) ≡ 0 → IsAdvanced children r (get_or tried i 0) s new ranked again → AreTried body c children r old new (drop (i + 1) tried) again
  advanced new again none a = tried_advanced body c children r old s (drop (i + 1) tried) ranked ready.ranks (get_or tried i 0) next_tried none new again a

  -- a state that memory is wanted for has no rank
  pub tried_unranked : (new : Ranking) → rank_of s (get_or tried i 0) ≡ 0 → rank_of new (get_or tried i 0) ≡ rank_of s (get_or tried i 0) → HasUnranked body c new
  tried_unranked new none same = (get_or tried i 0, next_tried.pure_left (get_or tried i 0) (Contains-head (get_or tried i 0) (drop (i + 1) tried)), same ∙ none)

-- a list of states that wait, which has some
pub woken_some : (s : Ranking) (ranked : List ℕ) (i : ℕ) (list : List ℕ) → i < length ranked → list ≡ waiting_of s (get_or ranked i 0) → 0 < length list → (k : ℕ) × (q : ℕ) × Contains ranked k × Contains (waiting_of s k) q
woken_some s ranked i list l at some =
    let k = get_or ranked i 0 in
    let q = get_or list 0 0 in
    let there : Contains list q = (0, some, get_or_default list 0 q 0 some) in
    (k, q, (i, l, get_or_default ranked i k 0 l), subst (λ (xs : List ℕ). Contains xs q) at there)

-- the states that wait for one more
pub woken_more : (s : Ranking) (ranked : List ℕ) (i : ℕ) (woken list new : List ℕ) → i < length ranked → AreWoken s (take i ranked) woken → list ≡ waiting_of s (get_or ranked i 0) → new ≡ woken ++ list → AreWoken s (take (i + 1) ranked) new
woken_more s ranked i woken list new l h at is q =
    let k = get_or ranked i 0 in
    let more = take_more ranked i 0 l in (
      (λ d. ⊎_elim
          (λ a. let y = (h q).0 a in (y.0, subst (λ (xs : List ℕ). Contains xs y.0) (sym more) (Contains-append_left (take i ranked) (k ∷ []) y.0 y.1), y.2))
          (λ b. (k, subst (λ (xs : List ℕ). Contains xs k) (sym more) (Contains-push (take i ranked) k), subst (λ (xs : List ℕ). Contains xs q) at b))
          (Contains-append_cases woken list q (subst (λ (xs : List ℕ). Contains xs q) is d))),
      (λ y. subst (λ (xs : List ℕ). Contains xs q) (sym is) (⊎_elim
          (λ a. Contains-append_left woken list q ((h q).1 (y.0, a, y.2)))
          (λ (e : k ≡ y.0). Contains-append_right woken list q (subst (λ (xs : List ℕ). Contains xs q) (sym at) (subst (λ (z : ℕ). Contains (waiting_of s z) q) (sym e) y.2)))
          (Contains-push_cases (take i ranked) k y.0 (subst (λ (xs : List ℕ). Contains xs y.0) more y.1)))),
    )

pub woken_all : (s : Ranking) (ranked : List ℕ) (i : ℕ) (woken : List ℕ) → take i ranked ≡ ranked → AreWoken s (take i ranked) woken → AreWoken s ranked woken
woken_all s ranked i woken e h = subst (λ (xs : List ℕ). AreWoken s xs woken) e h
