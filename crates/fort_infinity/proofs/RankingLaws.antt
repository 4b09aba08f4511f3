-- What a round of ranks keeps, state by state.
use Rattle.std.proofs.Common.{◌≡◌, ◌≢◌, ℕ, zero, suc, ◌+◌, ◌<◌, ◌≤◌, List, [], ◌∷◌, ◌++◌, length, get_or, inl, inr, ⊎_elim, refl, ap, sym, ◌∙◌, arith, subst, get_or-set_same, get_or-set_other}
use Rattle.std.specs.Prelude.{Contains, ◌⊎◌}
use Rattle.std.proofs.lemmas.Bool.{cases_eq, cases_lt}
use Rattle.std.proofs.lemmas.List.{length-set, get_or_default}
use Rattle.std.proofs.lemmas.List.Elements.{Contains-append_left, Contains-push, Contains-push_cases}
use Rattle.fort_theory.proofs.Members.{Contains-head, Contains-behind, Contains-cons_cases}
use Rattle.fort_tables.specs.Tables.{Table}
use Rattle.fort_tables.proofs.EqualTests.{if_equal, if_apart}
use Rattle.fort_tables.specs.PureStates.{IsPureState, IsPureChild}
use Rattle.fort_tables.specs.Ranks.{HasOnlyChildren, AreRanks}
use Rattle.fort_tables.proofs.PureStateLaws.{pure_child}
use Rattle.fort_infinity.specs.Children.{AreChildren}
use Rattle.fort_infinity.specs.RankTests.{IsEarlier, IsOpen}
use Rattle.fort_infinity.specs.Rankings.{rank_of, passed_of, waiting_of, child_at, IsHeld, IsRaised, IsAdvanced, IsWaiting, AreTried}
use Rattle.fort_infinity.specs.declared.ranks.Ranking.{Ranking}

-- a rank that isn't of this round was there before
earlier_before : (r before now : ℕ) → 0 < now → now ≤ r → ((i : ℕ) → before ≡ 0 → now ≡ suc i → i ≡ r) → (n : ℕ) × (before ≡ suc n)
earlier_before r zero zero l m fresh = absurd (omega arith)
earlier_before r zero (suc i) l m fresh = absurd (omega (arith, fresh i refl refl))
earlier_before r (suc n) now l m fresh = (n, refl)

-- an open one was not
none_before : (r before now : ℕ) → (now ≡ 0) ⊎ (r < now) → ((i : ℕ) → before ≡ suc i → now ≡ suc i) → ((i : ℕ) → before ≡ suc i → i < r) → before ≡ 0
none_before r zero now h kept small = refl
none_before r (suc n) now h kept small = absurd (⊎_elim (λ (e : now ≡ 0). omega (arith, kept n refl)) (λ (l : r < now). omega (arith, kept n refl, small n refl)) h)

-- the child at a place of the list is one
pub child_there : (body : Table) (c : ℕ) (children : List (List ℕ)) (q i : ℕ) → AreChildren body c children → i < length (get_or children q []) → IsPureChild body c q (child_at children q i)
child_there body c children q i are l = (are.each q (child_at children q i)).0 (i, l, get_or_default (get_or children q []) i (child_at children q i) 0 l)

pub waiting_at : (children : List (List ℕ)) (s : Ranking) (q place : ℕ) (P : ℕ → Type 0) → passed_of s q ≡ place → place < length (get_or children q []) → Contains (waiting_of s (child_at children q place)) q → P (child_at children q place) → IsWaiting children s q P
waiting_at children s q place P e l d h =
    let back = sym e in
    record {
      within = subst (λ (i : ℕ). i < length (get_or children q [])) back l;
      waits = subst (λ (i : ℕ). Contains (waiting_of s (child_at children q i)) q) back d;
      holds = subst (λ (i : ℕ). P (child_at children q i)) back h;
    }

module _ (body : Table) (c : ℕ) (children : List (List ℕ)) (r : ℕ) (old s : Ranking) (left ranked : List ℕ) (ranks : AreRanks body c r (rank_of old)) where
  -- a state that has its rank is no more to be tried
  pub tried_skipped : (q i : ℕ) → AreTried body c children r old s (q ∷ left) ranked → rank_of s q ≡ suc i → AreTried body c children r old s left ranked
  tried_skipped q i h e = record {
    column = h.column;
    are_children = h.are_children;
    room = h.room;
    kept = h.kept;
    fresh = h.fresh;
    passed_by = h.passed_by;
    waits = λ x pure none. ⊎_elim
        (λ d. ⊎_elim (λ (a : q ≡ x). absurd (omega (arith, e, none, ap (rank_of s) a))) (λ b. inl b) (Contains-cons_cases q left x d))
        (λ w. inr w) (h.waits x pure none);
    pure_waiting = h.pure_waiting;
    child_waited = h.child_waited;
    pure_left = λ x d. h.pure_left x (Contains-behind q left x d);
    are_ranked = h.are_ranked;
    all_ranked = h.all_ranked;
  }

  module _ (q : ℕ) (h : AreTried body c children r old s (q ∷ left) ranked) (unranked : rank_of s q ≡ 0) where
    abbrev pure_q : IsPureState body c q
    pure_q = h.pure_left q (Contains-head q left)

    -- a child of an earlier round had its rank before
    ranked_before : (k : ℕ) → IsEarlier s.ranks.items r k → (n : ℕ) × (rank_of old k ≡ suc n)
    ranked_before k e = earlier_before r (rank_of old k) (rank_of s k) e.0 e.1 (λ i a b. (h.fresh k i a b).0)

    open_before : (k : ℕ) → IsPureState body c k → IsOpen s.ranks.items r k → rank_of old k ≡ 0
    open_before k pure o = none_before r (rank_of old k) (rank_of s k) o (λ i e. h.kept k i e) (λ i e. ranks.small k i pure e)

    -- the children up to a place had their ranks before
    passed_before : (place : ℕ) → ((i : ℕ) → passed_of s q ≤ i → i < place → IsEarlier s.ranks.items r (child_at children q i)) → (i : ℕ) → i < place → (n : ℕ) × (rank_of old (child_at children q i) ≡ suc n)
    passed_before place before i l = ⊎_elim
        (λ (m : i < passed_of s q). h.passed_by q i m)
        (λ (m : passed_of s q ≤ i). ranked_before (child_at children q i) (before i m l))
        (cases_lt i (passed_of s q))

    waits_still : (x : ℕ) → q ≢ x → Contains (q ∷ left) x ⊎ IsWaiting children s x (λ k. rank_of old k ≡ 0) → Contains left x ⊎ IsWaiting children s x (λ k. rank_of old k ≡ 0)
    waits_still x ne w = ⊎_elim (λ d. ⊎_elim (λ (a : q ≡ x). absurd (ne a)) (λ b. inl b) (Contains-cons_cases q left x d)) (λ y. inr y) w

    module _ (new : Ranking) (again : List ℕ) where
      module _ (y : IsHeld children r q s new ranked again) where
        same_rank : (x : ℕ) → rank_of new x ≡ rank_of s x
        same_rank x = ap (λ xs. get_or xs x 0) y.same_ranks

        passed_here : passed_of new q ≡ y.place
        passed_here = ap (λ xs. get_or xs q 0) y.passed ∙ get_or-set_same s.passed.items q y.place 0 (omega (arith, h.room.passed, pure_q.within))

        passed_other : (x : ℕ) → q ≢ x → passed_of new x ≡ passed_of s x
        passed_other x ne = let turned : x ≢ q = λ e. ne (sym e) in ap (λ xs. get_or xs x 0) y.passed ∙ get_or-set_other s.passed.items q x y.place 0 turned

        waits_more : (k x : ℕ) → Contains (waiting_of s k) x → Contains (waiting_of new k) x
        waits_more k x d = subst (λ (xs : List ℕ). Contains xs x) (sym (y.waits k)) (⊎_elim
            (λ (e : k ≡ child_at children q y.place). subst (λ (xs : List ℕ). Contains xs x) (sym (if_equal k _ (waiting_of s k ++ q ∷ []) (waiting_of s k) e)) (Contains-append_left (waiting_of s k) (q ∷ []) x d))
            (λ (n : k ≡ child_at children q y.place → ⊥). subst (λ (xs : List ℕ). Contains xs x) (sym (if_apart k _ (waiting_of s k ++ q ∷ []) (waiting_of s k) n)) d)
            (cases_eq k (child_at children q y.place)))

        waits_now : Contains (waiting_of new (child_at children q y.place)) q
        waits_now =
            let k = child_at children q y.place in
            subst (λ (xs : List ℕ). Contains xs q) (sym (y.waits k ∙ if_equal k k (waiting_of s k ++ q ∷ []) (waiting_of s k) refl)) (Contains-push (waiting_of s k) q)

        waits_from : (k x : ℕ) → Contains (waiting_of new k) x → Contains (waiting_of s k) x ⊎ (q ≡ x)
        waits_from k x d = ⊎_elim
            (λ (e : k ≡ child_at children q y.place). Contains-push_cases (waiting_of s k) q x (subst (λ (xs : List ℕ). Contains xs x) (y.waits k ∙ if_equal k _ (waiting_of s k ++ q ∷ []) (waiting_of s k) e) d))
            (λ (n : k ≡ child_at children q y.place → ⊥). inl (subst (λ (xs : List ℕ). Contains xs x) (y.waits k ∙ if_apart k _ (waiting_of s k ++ q ∷ []) (waiting_of s k) n) d))
            (cases_eq k (child_at children q y.place))

        held_child : (k x : ℕ) → Contains (waiting_of new k) x → IsPureChild body c x k
        held_child k x d = ⊎_elim
            (λ (e : k ≡ child_at children q y.place). ⊎_elim
            (λ a. h.child_waited k x a)
            (λ (f : q ≡ x). subst (λ (z : ℕ). IsPureChild body c z k) f (subst (λ (i : ℕ). IsPureChild body c q i) (sym e) (child_there body c children q y.place h.are_children y.within)))
            (Contains-push_cases (waiting_of s k) q x (subst (λ (xs : List ℕ). Contains xs x) (y.waits k ∙ if_equal k _ (waiting_of s k ++ q ∷ []) (waiting_of s k) e) d)))
            (λ (n : k ≡ child_at children q y.place → ⊥). h.child_waited k x (subst (λ (xs : List ℕ). Contains xs x) (y.waits k ∙ if_apart k _ (waiting_of s k ++ q ∷ []) (waiting_of s k) n) d))
            (cases_eq k (child_at children q y.place))

        held_passed : (x i : ℕ) → i < passed_of new x → (n : ℕ) × (rank_of old (child_at children x i) ≡ suc n)
        held_passed x i l = ⊎_elim
            (λ (e : q ≡ x). subst (λ (z : ℕ). (n : ℕ) × (rank_of old (child_at children z i) ≡ suc n)) e (passed_before y.place y.before i (omega (arith, passed_here, ap (passed_of new) e))))
            (λ (n : q ≡ x → ⊥). h.passed_by x i (omega (arith, passed_other x n)))
            (cases_eq q x)

        held_waits : (x : ℕ) → IsPureState body c x → rank_of new x ≡ 0 → Contains left x ⊎ IsWaiting children new x (λ k. rank_of old k ≡ 0)
        held_waits x pure none = ⊎_elim
            (λ (e : q ≡ x).
            let child = child_there body c children q y.place h.are_children y.within in
            let o = open_before (child_at children q y.place) (pure_child body c q (child_at children q y.place) h.column child) y.is_open in
            inr (subst (λ (z : ℕ). IsWaiting children new z (λ k. rank_of old k ≡ 0)) e (waiting_at children new q y.place (λ k. rank_of old k ≡ 0) passed_here y.within waits_now o)))
            (λ (n : q ≡ x → ⊥). ⊎_elim
            (λ d. inl d)
            (λ (w : IsWaiting children s x (λ k. rank_of old k ≡ 0)). inr (waiting_at children new x (passed_of s x) (λ k. rank_of old k ≡ 0) (passed_other x n) w.within (waits_more (child_at children x (passed_of s x)) x w.waits) w.holds))
            (waits_still x n (h.waits x pure (sym (same_rank x) ∙ none))))
            (cases_eq q x)

        tried_held : AreTried body c children r old new left again
        tried_held = record {
          column = h.column;
          are_children = h.are_children;
          room = record {
            ranks = ap length y.same_ranks ∙ h.room.ranks;
            passed = ap length y.passed ∙ (length-set s.passed.items q y.place ∙ h.room.passed);
            waiting = y.count ∙ h.room.waiting;
          };
          kept = λ x i e. same_rank x ∙ h.kept x i e;
          fresh = λ x i a b. h.fresh x i a (sym (same_rank x) ∙ b);
          passed_by = held_passed;
          waits = held_waits;
          pure_waiting = λ k x d. ⊎_elim (λ e. h.pure_waiting k x e) (λ (e : q ≡ x). subst (IsPureState body c) e pure_q) (waits_from k x d);
          child_waited = held_child;
          pure_left = λ x d. h.pure_left x (Contains-behind q left x d);
          are_ranked = λ x d. let z = h.are_ranked x (subst (λ (xs : List ℕ). Contains xs x) y.same_ranked d) in (z.0, z.1, same_rank x ∙ z.2);
          all_ranked = λ x pure a b. subst (λ (xs : List ℕ). Contains xs x) (sym y.same_ranked) (h.all_ranked x pure a (sym (same_rank x) ∙ b));
        }

      module _ (y : IsRaised children r q s new ranked again) where
        rank_here : rank_of new q ≡ suc r
        rank_here = let e : r + 1 ≡ suc r = omega arith in ap (λ xs. get_or xs q 0) y.ranks ∙ (get_or-set_same s.ranks.items q (r + 1) 0 (omega (arith, h.room.ranks, pure_q.within)) ∙ e)

        rank_other : (x : ℕ) → q ≢ x → rank_of new x ≡ rank_of s x
        rank_other x ne = let turned : x ≢ q = λ e. ne (sym e) in ap (λ xs. get_or xs x 0) y.ranks ∙ get_or-set_other s.ranks.items q x (r + 1) 0 turned

        passed_same : (x : ℕ) → passed_of new x ≡ passed_of s x
        passed_same x = ap (λ xs. get_or xs x 0) y.same_passed

        waiting_same : (k : ℕ) → waiting_of new k ≡ waiting_of s k
        waiting_same k = ap (λ (xs : List (List ℕ)). get_or xs k []) y.same_waiting

        none_old : rank_of old q ≡ 0
        none_old = by (rank_of old q) refl
          where
            by : (n : ℕ) → rank_of old q ≡ n → rank_of old q ≡ 0
            by zero e = e
            by (suc n) e = absurd (omega (arith, h.kept q n e, unranked))

        children_before : HasOnlyChildren body c q (λ k. (n : ℕ) × (rank_of old k ≡ suc n))
        children_before k d =
            let at = (h.are_children.each q k).1 d in
            let is : child_at children q at.0 ≡ k = get_or_default (get_or children q []) at.0 0 k at.1 ∙ at.2 in
            subst (λ (z : ℕ). (n : ℕ) × (rank_of old z ≡ suc n)) is (passed_before (length (get_or children q [])) y.before at.0 at.1)

        raised_fresh : (x i : ℕ) → rank_of old x ≡ 0 → rank_of new x ≡ suc i → (i ≡ r) × HasOnlyChildren body c x (λ k. (n : ℕ) × (rank_of old k ≡ suc n))
        raised_fresh x i a b = ⊎_elim
            (λ (e : q ≡ x). subst (λ (z : ℕ). (i ≡ r) × HasOnlyChildren body c z (λ k. (n : ℕ) × (rank_of old k ≡ suc n))) e (omega (arith, rank_here, b, ap (rank_of new) e), children_before))
            (λ (n : q ≡ x → ⊥). h.fresh x i a (sym (rank_other x n) ∙ b))
            (cases_eq q x)

        raised_waits : (x : ℕ) → IsPureState body c x → rank_of new x ≡ 0 → Contains left x ⊎ IsWaiting children new x (λ k. rank_of old k ≡ 0)
        raised_waits x pure none = ⊎_elim
            (λ (e : q ≡ x). absurd (omega (arith, rank_here, none, ap (rank_of new) e)))
            (λ (n : q ≡ x → ⊥). ⊎_elim
            (λ d. inl d)
            (λ (w : IsWaiting children s x (λ k. rank_of old k ≡ 0)).
            inr (waiting_at children new x (passed_of s x) (λ k. rank_of old k ≡ 0) (passed_same x) w.within
            (subst (λ (xs : List ℕ). Contains xs x) (sym (waiting_same (child_at children x (passed_of s x)))) w.waits) w.holds))
            (waits_still x n (h.waits x pure (sym (rank_other x n) ∙ none))))
            (cases_eq q x)

        raised_ranked : (x : ℕ) → Contains again x → IsPureState body c x × (rank_of old x ≡ 0) × (rank_of new x ≡ suc r)
        raised_ranked x d = ⊎_elim
            (λ a.
            let z = h.are_ranked x a in
            let ne : q ≢ x = λ e. absurd (omega (arith, z.2, unranked, ap (rank_of s) e)) in
            (z.0, z.1, rank_other x ne ∙ z.2))
            (λ (e : q ≡ x). subst (λ (w : ℕ). IsPureState body c w × (rank_of old w ≡ 0) × (rank_of new w ≡ suc r)) e (pure_q, none_old, rank_here))
            (Contains-push_cases ranked q x (subst (λ (xs : List ℕ). Contains xs x) y.more_ranked d))

        raised_all : (x : ℕ) → IsPureState body c x → rank_of old x ≡ 0 → rank_of new x ≡ suc r → Contains again x
        raised_all x pure a b = subst (λ (xs : List ℕ). Contains xs x) (sym y.more_ranked) (⊎_elim
            (λ (e : q ≡ x). subst (λ (z : ℕ). Contains (ranked ++ q ∷ []) z) e (Contains-push ranked q))
            (λ (n : q ≡ x → ⊥). Contains-append_left ranked (q ∷ []) x (h.all_ranked x pure a (sym (rank_other x n) ∙ b)))
            (cases_eq q x))

        tried_raised : AreTried body c children r old new left again
        tried_raised = record {
          column = h.column;
          are_children = h.are_children;
          room = record {
            ranks = ap length y.ranks ∙ (length-set s.ranks.items q (r + 1) ∙ h.room.ranks);
            passed = ap length y.same_passed ∙ h.room.passed;
            waiting = ap length y.same_waiting ∙ h.room.waiting;
          };
          kept = λ x i e.
              let ne : q ≢ x = λ z. absurd (omega (arith, h.kept x i e, unranked, ap (rank_of s) z)) in
              rank_other x ne ∙ h.kept x i e;
          fresh = raised_fresh;
          passed_by = λ x i l. h.passed_by x i (omega (arith, passed_same x));
          waits = raised_waits;
          pure_waiting = λ k x d. h.pure_waiting k x (subst (λ (xs : List ℕ). Contains xs x) (waiting_same k) d);
          child_waited = λ k x d. h.child_waited k x (subst (λ (xs : List ℕ). Contains xs x) (waiting_same k) d);
          pure_left = λ x d. h.pure_left x (Contains-behind q left x d);
          are_ranked = raised_ranked;
          all_ranked = raised_all;
        }

      -- Result: one more state is tried
      pub tried_advanced : IsAdvanced children r q s new ranked again → AreTried body c children r old new left again
      tried_advanced a = ⊎_elim (λ (y : IsHeld children r q s new ranked again). tried_held y) (λ (y : IsRaised children r q s new ranked again). tried_raised y) a
