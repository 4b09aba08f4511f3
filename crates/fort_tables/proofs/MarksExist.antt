-- Each table has marks whose rules hold.
use Rattle.std.proofs.Common.{◌≡◌, ℕ, zero, suc, ◌+◌, ◌-◌, ◌<◌, ◌≤◌, length, Bool, true, false, ◌&&◌, ◌==◌, inl, inr, ⊎_elim, refl, ap, sym, ◌∙◌, arith}
use Rattle.std.specs.Prelude.{◌⊎◌, not}
use Rattle.std.proofs.lemmas.Bool.{cases_Bool, cases_lt, eqb-true, eq-eqb}
use Rattle.fort_tables.specs.Tables.{Table}
use Rattle.fort_tables.proofs.EqualTests.{test_from_apart}
use Rattle.fort_tables.specs.Projections.{is_pure, some_below}
use Rattle.fort_tables.proofs.SearchLaws.{found_below, below_found, both, left, right}
use Rattle.fort_tables.specs.PureStates.{IsPureState, IsPureChild}
use Rattle.fort_tables.specs.PureSearch.{is_child}
use Rattle.fort_tables.specs.Counts.{Count, Finite, Infinite, KeepsRule, KeepRules}
use Rattle.fort_tables.specs.Ranks.{HasChild, HasOnlyChildren, AreRanks, IsTurned, IsRound, AreSettled}
use Rattle.fort_tables.proofs.PureStateLaws.{pure_child}
use Rattle.fort_tables.proofs.PureSearchLaws.{pure_from_test, test_from_pure, is_child_exactly}
use Rattle.fort_tables.proofs.RankLaws.{ranks_at_start, ranks_after, settled_by_round, settled_by_count}

false_from_not : (b : Bool) → not b ≡ true → b ≡ false
false_from_not true h = absurd cc
false_from_not false h = refl

not_from_suc : (m r : ℕ) → m ≡ suc r → not (m == 0) ≡ true
not_from_suc m r e = ap not (test_from_apart m 0 (λ z. absurd (omega arith)))

-- some child has no rank, or all have one
abbrev Waits : Table → ℕ → (ℕ → ℕ) → ℕ → Type 0
Waits body c rank q = HasChild body c q (λ k. rank k ≡ 0) ⊎ HasOnlyChildren body c q (λ k. (i : ℕ) × (rank k ≡ suc i))

waits : (body : Table) (c : ℕ) (rank : ℕ → ℕ) (q : ℕ) → c < body.columns → Waits body c rank q
waits body c rank q low = elim (cases_Bool (some_below (length body.presences) (λ k. is_child body c q k && (rank k == 0)))) [
  | inl y ↦
      let r = found_below (length body.presences) (λ k. is_child body c q k && (rank k == 0)) y in
      inl (record {
        state = r.0;
        child = (is_child_exactly body c q r.0 low).0 (left (is_child body c q r.0) (rank r.0 == 0) r.2);
        holds = eqb-true (rank r.0) 0 (right (is_child body c q r.0) (rank r.0 == 0) r.2);
      })
  | inr z ↦ inr (λ k d. by k d (rank k) refl z)
]
  where
    by : (k : ℕ) → IsPureChild body c q k → (n : ℕ) → rank k ≡ n → some_below (length body.presences) (λ k. is_child body c q k && (rank k == 0)) ≡ false → (i : ℕ) × (rank k ≡ suc i)
    by k d (suc i) e z = (i, e)
    by k d zero e z =
        let found = below_found (length body.presences) (λ k. is_child body c q k && (rank k == 0)) k (pure_child body c q k low d).within
        (both (is_child body c q k) (rank k == 0) ((is_child_exactly body c q k low).1 d) (eq-eqb (rank k) 0 e)) in
        let x : true ≡ false = sym found ∙ z in absurd cc

-- the rank after one more round
abbrev next_rank : {A B : Type 0} → ℕ → ℕ → A ⊎ B → ℕ
next_rank r (suc s) z = suc s
next_rank r zero (inl a) = 0
next_rank r zero (inr b) = suc r

module _ (body : Table) (c : ℕ) (low : c < body.columns) where
  next_ranks : ℕ → (ℕ → ℕ) → ℕ → ℕ
  next_ranks r rank q = next_rank r (rank q) (waits body c rank q low)

  is_round : (r : ℕ) (rank : ℕ → ℕ) → IsRound body c r rank (next_ranks r rank)
  unfolding next_ranks
  is_round r rank = record {
    kept = λ q s pure e. ap (λ n. next_rank r n (waits body c rank q low)) e;
    turned = λ q pure e. by q e (waits body c rank q low) (ap (λ n. next_rank r n (waits body c rank q low)) e);
  }
    where
      by : (q : ℕ) → rank q ≡ 0 → (z : Waits body c rank q) → next_rank r (rank q) (waits body c rank q low) ≡ next_rank r 0 z → IsTurned body c r rank q (next_rank r (rank q) (waits body c rank q low))
      by q e (inl y) is = inr (is, y)
      by q e (inr y) is = inl (is, y)

  -- whether the round ranks q
  abbrev gains : ℕ → (ℕ → ℕ) → ℕ → Bool
  gains r rank q = is_pure body c q && ((rank q == 0) && not (next_ranks r rank q == 0))

  turned_to : (r : ℕ) (rank : ℕ → ℕ) (q : ℕ) → IsPureState body c q → rank q ≡ 0 → (next_ranks r rank q == 0) ≡ false → next_ranks r rank q ≡ suc r
  turned_to r rank q pure e h = ⊎_elim (λ y. y.0) (λ z. let x : true ≡ false = sym (eq-eqb (next_ranks r rank q) 0 z.0) ∙ h in absurd cc) ((is_round r rank).turned q pure e)

  settled_from : (n r : ℕ) (rank : ℕ → ℕ) → AreRanks body c r rank → length body.presences ≤ n + r → (new : ℕ → ℕ) × AreSettled body c new
  settled_from zero r rank h l = (rank, settled_by_count body c r rank h (omega arith))
  settled_from (suc n) r rank h l = elim (cases_Bool (some_below (length body.presences) (gains r rank))) [
    | inl y ↦
        let x = found_below (length body.presences) (gains r rank) y in
        let q = x.0 in
        let pure = pure_from_test body c q x.1 (left (is_pure body c q) ((rank q == 0) && not (next_ranks r rank q == 0)) x.2) in
        let rest = right (is_pure body c q) ((rank q == 0) && not (next_ranks r rank q == 0)) x.2 in
        let none = eqb-true (rank q) 0 (left (rank q == 0) (not (next_ranks r rank q == 0)) rest) in
        let now = turned_to r rank q pure none (false_from_not (next_ranks r rank q == 0) (right (rank q == 0) (not (next_ranks r rank q == 0)) rest)) in
        settled_from n (suc r) (next_ranks r rank) (ranks_after body c r rank (next_ranks r rank) low h (is_round r rank) q pure none now) (omega arith)
    | inr z ↦ (next_ranks r rank, settled_by_round body c r rank (next_ranks r rank) low h (is_round r rank) (λ q pure e. still q pure e z))
  ]
    where
      still : (q : ℕ) → IsPureState body c q → rank q ≡ 0 → some_below (length body.presences) (gains r rank) ≡ false → next_ranks r rank q ≡ 0
      still q pure e z = ⊎_elim
          (λ y.
          let found = below_found (length body.presences) (gains r rank) q pure.within
          (both (is_pure body c q) ((rank q == 0) && not (next_ranks r rank q == 0)) (test_from_pure body c q pure)
          (both (rank q == 0) (not (next_ranks r rank q == 0)) (eq-eqb (rank q) 0 e) (not_from_suc (next_ranks r rank q) r y.0))) in
          let x : true ≡ false = sym found ∙ z in absurd cc)
          (λ y. y.0)
          ((is_round r rank).turned q pure e)

  settled_exist : (rank : ℕ → ℕ) × AreSettled body c rank
  settled_exist = settled_from (length body.presences) 0 (λ _. 0) (ranks_at_start body c (λ _. 0) (λ q p. refl)) (omega arith)

  -- a pure state without a rank, or none
  abbrev IsOpen : (ℕ → ℕ) → ℕ → Type 0
  IsOpen rank q = (IsPureState body c q × (rank q ≡ 0)) ⊎ (IsPureState body c q → rank q ≡ 0 → ⊥)

  is_open : (rank : ℕ → ℕ) (q : ℕ) → IsOpen rank q
  is_open rank q = ⊎_elim
      (λ (l : q < length body.presences). elim (cases_Bool (is_pure body c q && (rank q == 0))) [
        | inl y ↦ inl (pure_from_test body c q l (left (is_pure body c q) (rank q == 0) y), eqb-true (rank q) 0 (right (is_pure body c q) (rank q == 0) y))
        | inr z ↦ inr (λ pure e. let x : true ≡ false = sym (both (is_pure body c q) (rank q == 0) (test_from_pure body c q pure) (eq-eqb (rank q) 0 e)) ∙ z in absurd cc)
      ])
      (λ (l : length body.presences ≤ q). inr (λ pure e. absurd (omega (arith, pure.within))))
      (cases_lt q (length body.presences))

  module _ (rank : ℕ → ℕ) (settled : AreSettled body c rank) where
    mark_by : (q : ℕ) → IsOpen rank q → Count
    mark_by q (inl y) = Infinite (settled.cycles q y.0 y.1).state
    mark_by q (inr n) = Finite (rank q - 1)

    abbrev mark : ℕ → Count
    mark q = mark_by q (is_open rank q)

    ranked_by : (q s : ℕ) → rank q ≡ suc s → (z : IsOpen rank q) → mark_by q z ≡ Finite s
    unfolding mark_by
    ranked_by q s e (inl y) = absurd (omega (arith, y.1))
    ranked_by q s e (inr n) = let x : rank q - 1 ≡ s = omega arith in ap Finite x

    unranked_by : (q : ℕ) → IsPureState body c q → rank q ≡ 0 → (z : IsOpen rank q) → (p : ℕ) × (mark_by q z ≡ Infinite p)
    unfolding mark_by
    unranked_by q pure e (inl y) = ((settled.cycles q y.0 y.1).state, refl)
    unranked_by q pure e (inr n) = absurd (n pure e)

    keeps_by : (q : ℕ) → IsPureState body c q → (z : IsOpen rank q) → (n : ℕ) → rank q ≡ n → KeepsRule body c mark q (mark_by q z)
    unfolding mark_by
    keeps_by q pure (inl y) n e =
        let b = settled.cycles q y.0 y.1 in
        let m = unranked_by b.state (pure_child body c q b.state low b.child) b.holds (is_open rank b.state) in
        record { child = b.child; next = m.0; infinite = m.1 }
    keeps_by q pure (inr n) zero e = absurd (n pure e)
    keeps_by q pure (inr n) (suc s) e = λ k d.
        let b = settled.children q s pure e k d in
        (b.0, ranked_by k b.0 b.1 (is_open rank k), omega (arith, b.2))

    rules_hold : KeepRules body c mark
    rules_hold q pure = keeps_by q pure (is_open rank q) (rank q) refl

  -- Result
  pub marks_exist : (mark : ℕ → Count) × KeepRules body c mark
  marks_exist = let r = settled_exist in (mark r.0 r.1, rules_hold r.0 r.1)
