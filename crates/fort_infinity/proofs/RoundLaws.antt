-- From round to round, until the ranks are settled.
use Rattle.std.proofs.Common.{◌≡◌, ℕ, zero, suc, ◌<◌, ◌≤◌, List, [], length, get_or, inl, inr, ⊎_elim, refl, ap, ◌∙◌, arith, subst}
use Rattle.std.specs.Prelude.{Contains, ◌⊎◌}
use Rattle.std.proofs.lemmas.List.{get_or_default}
use Rattle.fort_theory.proofs.Members.{Contains-none}
use Rattle.fort_tables.specs.Tables.{Table}
use Rattle.fort_tables.specs.Projections.{ArePure}
use Rattle.fort_tables.specs.PureStates.{IsPureState}
use Rattle.fort_tables.specs.Ranks.{AreRanks, IsTurned, IsRound, AreSettled}
use Rattle.fort_tables.proofs.PureStateLaws.{pure_child}
use Rattle.fort_tables.proofs.PureSearchLaws.{pure_from_test}
use Rattle.fort_tables.proofs.CountLaws.{pure_listed}
use Rattle.fort_tables.proofs.RankLaws.{ranks_at_start, ranks_after, settled_by_round, settled_by_count}
use Rattle.fort_infinity.specs.Children.{AreChildren}
use Rattle.fort_infinity.specs.Rankings.{rank_of, passed_of, waiting_of, child_at, HasRoom, IsWaiting, AreTried, AreReady, AreWoken, HasUnranked}
use Rattle.fort_infinity.specs.declared.ranks.Ranking.{Ranking}
use Rattle.fort_infinity.proofs.RankingLaws.{child_there}

module _ (body : Table) (c : ℕ) (children : List (List ℕ)) (r : ℕ) (old s : Ranking) (ranked : List ℕ) (ranks : AreRanks body c r (rank_of old)) (h : AreTried body c children r old s [] ranked) where
  -- a state that is left without a rank waits for a child that had none
  waits_for : (q : ℕ) → IsPureState body c q → rank_of s q ≡ 0 → IsWaiting children s q (λ k. rank_of old k ≡ 0)
  waits_for q pure e = ⊎_elim (λ d. absurd (Contains-none q d)) (λ w. w) (h.waits q pure e)

  -- the states tried make a round
  pub round_done : IsRound body c r (rank_of old) (rank_of s)
  round_done = record { kept = λ q i pure e. h.kept q i e; turned = λ q pure e. by q pure e (rank_of s q) refl }
    where
      by : (q : ℕ) → IsPureState body c q → rank_of old q ≡ 0 → (n : ℕ) → rank_of s q ≡ n → IsTurned body c r (rank_of old) q (rank_of s q)
      by q pure e (suc i) now = let z = h.fresh q i e now in inl (now ∙ ap suc z.0, z.1)
      by q pure e zero now =
          let w = waits_for q pure now in
          inr (now, record { state = child_at children q (passed_of s q); child = child_there body c children q (passed_of s q) h.are_children w.within; holds = w.holds })

  -- a state with a rank of this round is ranked now
  newly : (q i : ℕ) → IsPureState body c q → rank_of old q ≡ 0 → rank_of s q ≡ suc i → Contains ranked q
  newly q i pure e now = h.all_ranked q pure e (now ∙ ap suc (h.fresh q i e now).0)

  -- Result: a state that waits for one of those ranked has no rank itself
  pub waiting_unranked : (k q : ℕ) → Contains ranked k → Contains (waiting_of s k) q → HasUnranked body c s
  waiting_unranked k q d w = (q, h.pure_waiting k q w, by (rank_of s q) refl)
    where
      before : (n : ℕ) → rank_of old q ≡ n → (i : ℕ) → rank_of s q ≡ suc i → ⊥
      before zero e i now = let z = (h.fresh q i e now).1 k (h.child_waited k q w) in omega (arith, z.1, (h.are_ranked k d).1)
      before (suc n) e i now = let z = ranks.children q n (h.pure_waiting k q w) e k (h.child_waited k q w) in omega (arith, z.1, (h.are_ranked k d).1)

      by : (n : ℕ) → rank_of s q ≡ n → rank_of s q ≡ 0
      by zero now = now
      by (suc i) now = absurd (before (rank_of old q) refl i now)

  -- Result: no state was ranked
  pub settled_now : ranked ≡ [] → AreSettled body c (rank_of s)
  settled_now none = settled_by_round body c r (rank_of old) (rank_of s) h.column ranks round_done (λ q pure e. by q pure e (rank_of s q) refl)
    where
      by : (q : ℕ) → IsPureState body c q → rank_of old q ≡ 0 → (n : ℕ) → rank_of s q ≡ n → rank_of s q ≡ 0
      by q pure e zero now = now
      by q pure e (suc i) now = absurd (Contains-none q (subst (λ (xs : List ℕ). Contains xs q) none (newly q i pure e now)))

  module _ (woken : List ℕ) (are : AreWoken s ranked woken) where
    next_waits : (q : ℕ) → IsPureState body c q → rank_of s q ≡ 0 → Contains woken q ⊎ IsWaiting children s q (λ k. rank_of s k ≡ 0)
    next_waits q pure e =
        let w = waits_for q pure e in
        let k = child_at children q (passed_of s q) in
        let pure_k = pure_child body c q k h.column (child_there body c children q (passed_of s q) h.are_children w.within) in
        by w k pure_k w.waits w.holds (λ z. record { within = w.within; waits = w.waits; holds = z }) (rank_of s k) refl
      where
        by : IsWaiting children s q (λ k. rank_of old k ≡ 0) → (k : ℕ) → IsPureState body c k → Contains (waiting_of s k) q → rank_of old k ≡ 0 → (rank_of s k ≡ 0 → IsWaiting children s q (λ k. rank_of s k ≡ 0)) → (n : ℕ) → rank_of s k ≡ n → Contains woken q ⊎ IsWaiting children s q (λ k. rank_of s k ≡ 0)
        by w k pure_k waits none make zero now = inr (make now)
        by w k pure_k waits none make (suc i) now = inl ((are q).1 (k, newly k i pure_k none now, waits))

    -- Result: the next round can begin
    pub next_ready : (q : ℕ) → Contains ranked q → AreReady body c children (suc r) s woken
    next_ready q d =
        let z = h.are_ranked q d in
        record {
          ranks = ranks_after body c r (rank_of old) (rank_of s) h.column ranks round_done q z.0 z.1 z.2;
          start = record {
            column = h.column;
            are_children = h.are_children;
            room = h.room;
            kept = λ x i e. e;
            fresh = λ x i a b. absurd (omega (arith, a, b));
            passed_by = λ x i l. let y = h.passed_by x i l in (y.0, h.kept (child_at children x i) y.0 y.1);
            waits = next_waits;
            pure_waiting = h.pure_waiting;
            child_waited = h.child_waited;
            pure_left = λ x e. let y = (are x).0 e in h.pure_waiting y.0 x y.2;
            are_ranked = λ x e. absurd (Contains-none x e);
            all_ranked = λ x pure a b. absurd (omega (arith, a, b));
          };
        }

-- Result: before the first round
pub ready_at_start : (body : Table) (c : ℕ) (children : List (List ℕ)) (s : Ranking) (alone : List ℕ) → c < body.columns → AreChildren body c children → ArePure body c alone → HasRoom s (length body.presences)
    → ((q : ℕ) → rank_of s q ≡ 0) → ((q : ℕ) → passed_of s q ≡ 0) → ((q : ℕ) → waiting_of s q ≡ []) → AreReady body c children 0 s alone
ready_at_start body c children s alone low are pure room ranks passed waiting = record {
  ranks = ranks_at_start body c (rank_of s) (λ q p. ranks q);
  start = record {
    column = low;
    are_children = are;
    room = room;
    kept = λ q i e. e;
    fresh = λ q i a b. absurd (omega (arith, a, b));
    passed_by = λ q i l. absurd (omega (arith, passed q));
    waits = λ q p e. inl (pure_listed body c alone pure q p);
    pure_waiting = λ k q d. absurd (Contains-none q (subst (λ (xs : List ℕ). Contains xs q) (waiting k) d));
    child_waited = λ k q d. absurd (Contains-none q (subst (λ (xs : List ℕ). Contains xs q) (waiting k) d));
    pure_left = λ q d. listed q d;
    are_ranked = λ q d. absurd (Contains-none q d);
    all_ranked = λ q p a b. absurd (omega (arith, a, b));
  };
}
  where
    listed : (q : ℕ) → Contains alone q → IsPureState body c q
    listed q (i, l, at) =
        let e = pure.each i l in
        let is : get_or alone i 0 ≡ q = get_or_default alone i 0 q l ∙ at in
        subst (IsPureState body c) is (pure_from_test body c (get_or alone i 0) e.0 e.1)

-- Result: as many rounds as states
pub settled_at_end : (body : Table) (c : ℕ) (children : List (List ℕ)) (r : ℕ) (s : Ranking) (tried : List ℕ) → AreReady body c children r s tried → length body.presences ≤ r → AreSettled body c (rank_of s)
settled_at_end body c children r s tried h l = settled_by_count body c r (rank_of s) h.ranks l
