-- Rounds of ranks: what each keeps, and that they end in ranks to which no round adds.
use Rattle.std.proofs.Common.{◌≡◌, ℕ, zero, suc, ◌<◌, ◌≤◌, length, Bool, true, false, ◌||◌, ◌==◌, inl, inr, ⊎_elim, refl, sym, ◌∙◌, arith}
use Rattle.std.specs.Prelude.{◌⊎◌, not}
use Rattle.fort_tables.specs.Tables.{Table}
use Rattle.fort_tables.proofs.EqualTests.{test_from_apart}
use Rattle.fort_tables.specs.Projections.{is_pure}
use Rattle.fort_tables.specs.PureStates.{IsPureState}
use Rattle.fort_tables.specs.Ranks.{HasChild, HasOnlyChildren, IsRankedBelow, AreRanks, IsRound, AreSettled, is_done}
use Rattle.fort_tables.proofs.CountBelow.{count_below_all, count_below_one_more}
use Rattle.fort_tables.proofs.PureStateLaws.{pure_child}
use Rattle.fort_tables.proofs.PureSearchLaws.{pure_from_test, test_from_pure}

suc_none : (m : ℕ) → (suc m == 0) ≡ false
suc_none m = test_from_apart (suc m) 0 (λ e. absurd (omega arith))

done_still : (b : Bool) (m n : ℕ) → ((s : ℕ) → m ≡ suc s → b ≡ true → n ≡ suc s) → (not b || not (m == 0)) ≡ true → (not b || not (n == 0)) ≡ true
done_still false m n h e = refl
done_still true zero n h e = absurd cc
done_still true (suc m) n h e = rw (h m refl refl, suc_none m) refl

not_done : (b : Bool) (m : ℕ) → b ≡ true → m ≡ 0 → (not b || not (m == 0)) ≡ false
not_done b m h e = rw (h, e) refl

done_now : (b : Bool) (m r : ℕ) → m ≡ suc r → (not b || not (m == 0)) ≡ true
done_now true zero r e = absurd (omega arith)
done_now true (suc m) r e = rw (suc_none m) refl
done_now false m r e = refl

pub ranks_at_start : (body : Table) (c : ℕ) (rank : ℕ → ℕ) → ((q : ℕ) → IsPureState body c q → rank q ≡ 0) → AreRanks body c 0 rank
ranks_at_start body c rank none = record {
  small = λ q s p h. absurd (omega (arith, none q p));
  children = λ q s p h. absurd (omega (arith, none q p));
  tight = λ q s p h. absurd (omega (arith, none q p));
  later = λ q p h. inl refl;
  many = omega arith;
}

-- where a rank comes from
source : (body : Table) (c r : ℕ) (old new : ℕ → ℕ) → IsRound body c r old new → (q s : ℕ) → IsPureState body c q → new q ≡ suc s
    → (old q ≡ suc s) ⊎ ((s ≡ r) × (old q ≡ 0) × HasOnlyChildren body c q (λ k. (i : ℕ) × (old k ≡ suc i)))
source body c r old new round q s pure is = by (old q) refl
  where
    by : (n : ℕ) → old q ≡ n → (old q ≡ suc s) ⊎ ((s ≡ r) × (old q ≡ 0) × HasOnlyChildren body c q (λ k. (i : ℕ) × (old k ≡ suc i)))
    by (suc n) e = inl (omega (arith, e, is, round.kept q n pure e))
    by zero e = ⊎_elim (λ y. inr (omega (arith, is, y.0), e, y.1)) (λ z. absurd (omega (arith, is, z.0))) (round.turned q pure e)

round_children : (body : Table) (c r : ℕ) (old new : ℕ → ℕ) → c < body.columns → AreRanks body c r old → IsRound body c r old new → (q s : ℕ) → IsPureState body c q → new q ≡ suc s → HasOnlyChildren body c q (IsRankedBelow new s)
round_children body c r old new low h round q s pure is k d =
    let pk = pure_child body c q k low d in
    ⊎_elim
    (λ (o : old q ≡ suc s). let b = h.children q s pure o k d in (b.0, round.kept k b.0 pk b.1, b.2))
    (λ y. let b = y.2 k d in (b.0, round.kept k b.0 pk b.1, let l = h.small k b.0 pk b.1 in omega (arith, y.0)))
    (source body c r old new round q s pure is)

round_tight : (body : Table) (c r : ℕ) (old new : ℕ → ℕ) → c < body.columns → AreRanks body c r old → IsRound body c r old new → (q s : ℕ) → IsPureState body c q → new q ≡ suc (suc s) → HasChild body c q (λ k. new k ≡ suc s)
round_tight body c r old new low h round q s pure is =
    ⊎_elim
    (λ (o : old q ≡ suc (suc s)). let b = h.tight q s pure o in record { state = b.state; child = b.child; holds = round.kept b.state s (pure_child body c q b.state low b.child) b.holds })
    (λ y. ⊎_elim
    (λ (z : r ≡ 0). absurd (omega (arith, y.0)))
    (λ b.
    let k = b.state in
    let pk = pure_child body c q k low b.child in
    let x = y.2 k b.child in
    let l = h.small k x.0 pk x.1 in
    let e : old k ≡ suc s = ⊎_elim (λ (z : old k ≡ 0). absurd (omega (arith, x.1))) (λ (m : r ≤ old k). omega (arith, x.1, y.0)) b.holds in
    record { state = k; child = b.child; holds = round.kept k s pk e })
    (h.later q pure y.1))
    (source body c r old new round q (suc s) pure is)

round_later : (body : Table) (c r : ℕ) (old new : ℕ → ℕ) → c < body.columns → IsRound body c r old new → (q : ℕ) → IsPureState body c q → new q ≡ 0 → HasChild body c q (λ k. (new k ≡ 0) ⊎ (suc r ≤ new k))
round_later body c r old new low round q pure is = by (old q) refl
  where
    child_now : (k : ℕ) → IsPureState body c k → old k ≡ 0 → (new k ≡ 0) ⊎ (suc r ≤ new k)
    child_now k pk e = ⊎_elim (λ y. inr (omega (arith, y.0))) (λ z. inl z.0) (round.turned k pk e)

    by : (n : ℕ) → old q ≡ n → HasChild body c q (λ k. (new k ≡ 0) ⊎ (suc r ≤ new k))
    by (suc n) e = absurd (omega (arith, is, round.kept q n pure e))
    by zero e = ⊎_elim
        (λ y. absurd (omega (arith, is, y.0)))
        (λ z. let b = z.1 in record { state = b.state; child = b.child; holds = child_now b.state (pure_child body c q b.state low b.child) b.holds })
        (round.turned q pure e)

-- a round that ranks some state
pub ranks_after : (body : Table) (c r : ℕ) (old new : ℕ → ℕ) → c < body.columns → AreRanks body c r old → IsRound body c r old new → (q : ℕ) → IsPureState body c q → old q ≡ 0 → new q ≡ suc r → AreRanks body c (suc r) new
ranks_after body c r old new low h round x pure none now =
    let more = count_below_one_more (length body.presences) (is_done body c old) (is_done body c new) x pure.within
    (not_done (is_pure body c x) (old x) (test_from_pure body c x pure) none)
    (done_now (is_pure body c x) (new x) r now)
    (λ k l. done_still (is_pure body c k) (old k) (new k) (λ s e p. round.kept k s (pure_from_test body c k l p) e)) in
    record {
      small = λ q s p is. ⊎_elim (λ (o : old q ≡ suc s). let l = h.small q s p o in omega arith) (λ y. omega (arith, y.0)) (source body c r old new round q s p is);
      children = round_children body c r old new low h round;
      tight = round_tight body c r old new low h round;
      later = λ q p is. inr (round_later body c r old new low round q p is);
      many = omega (arith, more, h.many);
    }

-- a round that ranks no state
pub settled_by_round : (body : Table) (c r : ℕ) (old new : ℕ → ℕ) → c < body.columns → AreRanks body c r old → IsRound body c r old new → ((q : ℕ) → IsPureState body c q → old q ≡ 0 → new q ≡ 0) → AreSettled body c new
settled_by_round body c r old new low h round none = record {
  children = λ q s pure is. round_children body c r old new low h round q s pure is;
  tight = λ q s pure is. round_tight body c r old new low h round q s pure is;
  cycles = λ q pure is.
      let b = cycle q pure is (old q) refl in
      record { state = b.state; child = b.child; holds = none b.state (pure_child body c q b.state low b.child) b.holds };
}
  where
    cycle : (q : ℕ) → IsPureState body c q → new q ≡ 0 → (n : ℕ) → old q ≡ n → HasChild body c q (λ k. old k ≡ 0)
    cycle q pure is (suc n) e = absurd (omega (arith, is, round.kept q n pure e))
    cycle q pure is zero e = ⊎_elim (λ y. absurd (omega (arith, is, y.0))) (λ z. z.1) (round.turned q pure e)

-- as many rounds as states
pub settled_by_count : (body : Table) (c r : ℕ) (rank : ℕ → ℕ) → AreRanks body c r rank → length body.presences ≤ r → AreSettled body c rank
settled_by_count body c r rank h all = record {
  children = h.children;
  tight = h.tight;
  cycles = λ q pure is.
      let full = count_below_all (length body.presences) (is_done body c rank) (omega (arith, h.many)) q pure.within in
      let y : true ≡ false = sym full ∙ not_done (is_pure body c q) (rank q) (test_from_pure body c q pure) is in
      absurd cc;
}
