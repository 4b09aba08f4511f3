-- Two tuples whose children but one say the same: what terms in one column give of the one, they give of the other, where the two children that differ give states with the same leaders.
use Rattle.std.proofs.Common.{◌≡◌, ℕ, suc, ◌-◌, ◌<◌, ◌≤◌, max, List, length, set, None, Some, get_or, ⊎_elim, refl, ap, sym, ◌∙◌, arith, subst, get_or-set_same, get_or-set_other}
use Rattle.std.proofs.lemmas.Bool.{cases_lt, cases_eq}
use Rattle.std.proofs.lemmas.List.{length-set}
use Rattle.std.specs.List.{insert}
use Rattle.fort_tables.specs.Tuples.{Tuple, TupleSymbol, all_absent, root, kid, kid_count, IsTuple, IsTupleSymbol, arity, symbol_kids}
use Rattle.fort_tables.specs.Entries.{entry}
use Rattle.fort_tables.specs.Tables.{Table, IsTable, IsTableEntry, state_of}
use Rattle.fort_tables.specs.Projections.{Gives}
use Rattle.fort_tables.proofs.TupleLaws.{IsTuple-kid, IsTupleSymbol-root, kid_fits, kid_ground, kid_count_is, length-kid}
use Rattle.fort_tables.proofs.InsertLaws.{root-insert, kid-insert, kid_count-insert, kid-past}
use Rattle.fort_tables.proofs.InsertSymbolLaws.{symbol_kids-insert_some, IsTupleSymbol-insert_some, FitsKid-insert_some}
use Rattle.fort_tables.proofs.TableLaws.{IsTableEntry-kid_states}
use Rattle.fort_tables.proofs.CompletedTuples.{IsTuple-completed, IsTuple-absent}
use Rattle.fort_tables.proofs.GivenLaws.{IsChoice, made_from_given, given_from_made}
use Rattle.fort_classes.specs.Leaders.{Leaders}
use Rattle.fort_classes.proofs.LeaderLaws.{kid_may_be}
use Rattle.fort_operand_keys.specs.TableLeaders.{IsLedBy}
use Rattle.fort_operand_keys.proofs.ClassStates.{same_target, same_state}

-- tuples of one root whose children but child j say the same
pub record AreAlikeBut (body : Table) (c : ℕ) (t u : Tuple) (j : ℕ) : Type 0 where
  pub first_is : IsTuple body.signature (body.columns - 1) t
  pub second_is : IsTuple body.signature (body.columns - 1) u
  pub root_is : root t ≡ root u
  pub place : j < kid_count t
  pub given : (i q : ℕ) → i < kid_count t → (i ≡ j → ⊥) → Gives body c (kid t i) q → Gives body c (kid u i) q
  pub absent : (i : ℕ) → i < kid_count t → (i ≡ j → ⊥) → state_of body (insert (kid t i) c None) ≡ state_of body (insert (kid u i) c None)

-- a state of y for a state of x, with its leader
pub record HasPeer (body : Table) (c : ℕ) (y : Tuple) (leader : ℕ → ℕ) (q : ℕ) : Type 0 where
  pub state : ℕ
  pub given : Gives body c y state
  pub leader_is : leader q ≡ leader state

-- what is asked at place j under the symbol is one of these two tuples
pub record HaveOneKey (body : Table) (c : ℕ) (lead : Leaders) (f : TupleSymbol) (j : ℕ) (x y : Tuple) : Type 0 where
  pub absent : lead (insert f c None) j (state_of body (insert x c None)) ≡ lead (insert f c None) j (state_of body (insert y c None))
  pub absent_under : (g : ℕ) → g < length body.signature → arity body.signature g ≤ j → lead (insert f c (Some g)) j (state_of body (insert x c None)) ≡ lead (insert f c (Some g)) j (state_of body (insert y c None))
  pub given : (g q : ℕ) → g < length body.signature → j < arity body.signature g → q < length body.presences → lead (insert f c (Some g)) j q < length body.presences → Gives body c x q → HasPeer body c y (lead (insert f c (Some g)) j) q

module _ (body : Table) (c : ℕ) (is : IsTable body) (low : c < body.columns) where
  columns_more : suc (body.columns - 1) ≡ body.columns
  columns_more = omega arith

  -- Result: a symbol in column c over a choice of states is an entry
  pub choice_entry : (t : Tuple) (g : ℕ) (ks : List ℕ) → IsTuple body.signature (body.columns - 1) t → g < length body.signature → IsChoice body c t g ks → IsTableEntry body (entry (insert (root t) c (Some g)) ks)
  choice_entry t g ks h within choice =
      let sig = body.signature in
      let count : kid_count t ≡ symbol_kids sig (root t) = kid_count_is sig t h.grounded in
      IsTableEntry-kid_states body (entry (insert (root t) c (Some g)) ks) is
      (subst (λ (n : ℕ). IsTupleSymbol sig n (insert (root t) c (Some g))) columns_more (IsTupleSymbol-insert_some sig (body.columns - 1) (root t) c g (omega arith) within (IsTupleSymbol-root sig (body.columns - 1) t h)))
      (choice.count ∙ (ap (max (arity sig g)) count ∙ sym (symbol_kids-insert_some sig (root t) c g)))
      (λ i l. ⊎_elim
      (λ (a : i < arity sig g).
      let y = choice.given i a in
      record {
        tuple = insert (kid t i) c (Some y.0);
        is_tuple = IsTuple-completed body c (kid t i) y.0 low y.1 (length-kid t i ∙ h.width) (kid_ground sig t i h.grounded);
        fits = FitsKid-insert_some sig (root t) c g i (Some y.0) (kid t i) a (kid_fits sig t i h.grounded);
        state = y.2;
      })
      (λ (a : arity sig g ≤ i).
      let m : i < kid_count t = omega (arith, choice.count) in
      record {
        tuple = insert (kid t i) c None;
        is_tuple = IsTuple-absent body c (kid t i) low (IsTuple-kid sig (body.columns - 1) t i h m);
        fits = FitsKid-insert_some sig (root t) c g i None (kid t i) a (kid_fits sig t i h.grounded);
        state = sym (choice.absent i m a);
      })
      (cases_lt i (arity sig g)))

  module _ (t u : Tuple) (j : ℕ) (alike : AreAlikeBut body c t u j) where
    counts : kid_count t ≡ kid_count u
    counts = kid_count_is body.signature t alike.first_is.grounded ∙ (ap (symbol_kids body.signature) alike.root_is ∙ sym (kid_count_is body.signature u alike.second_is.grounded))

    -- past the last child all columns are absent
    past_same : (i : ℕ) → kid_count t ≤ i → kid t i ≡ kid u i
    past_same i l =
        let wide : length t ≡ length u = alike.first_is.width ∙ sym alike.second_is.width in
        kid-past t i l ∙ (ap all_absent wide ∙ sym (kid-past u i (omega (arith, counts))))

    -- a choice with another state for child j
    pub choice_changed : (g : ℕ) (ks : List ℕ) (k : ℕ) → IsChoice body c t g ks → (j < arity body.signature g → Gives body c (kid u j) k) → (arity body.signature g ≤ j → k ≡ state_of body (insert (kid u j) c None))
        → IsChoice body c u g (set ks j k)
    choice_changed g ks k choice gives absent =
        let sig = body.signature in
        let here : j < length ks = omega (arith, choice.count, alike.place) in
        record {
          count = length-set ks j k ∙ (choice.count ∙ ap (max (arity sig g)) counts);
          given = λ i l. ⊎_elim
              (λ (e : i ≡ j).
              let at : get_or (set ks j k) i 0 ≡ k = ap (λ m. get_or (set ks j k) m 0) e ∙ get_or-set_same ks j k 0 here in
              subst (Gives body c (kid u i)) (sym at) (subst (λ (m : ℕ). Gives body c (kid u m) k) (sym e) (gives (omega arith))))
              (λ (e : i ≡ j → ⊥).
              subst (Gives body c (kid u i)) (sym (get_or-set_other ks j i k 0 e))
              (⊎_elim
              (λ (m : i < kid_count t). alike.given i (get_or ks i 0) m e (choice.given i l))
              (λ (m : kid_count t ≤ i). subst (λ (x : Tuple). Gives body c x (get_or ks i 0)) (past_same i m) (choice.given i l))
              (cases_lt i (kid_count t))))
              (cases_eq i j);
          absent = λ i l a. ⊎_elim
              (λ (e : i ≡ j).
              ap (λ m. get_or (set ks j k) m 0) e ∙ (get_or-set_same ks j k 0 here ∙ (absent (omega arith) ∙ ap (λ m. state_of body (insert (kid u m) c None)) (sym e))))
              (λ (e : i ≡ j → ⊥).
              let m : i < kid_count t = omega (arith, counts) in
              get_or-set_other ks j i k 0 e ∙ (choice.absent i m a ∙ alike.absent i m e))
              (cases_eq i j);
        }

    module _ (lead : Leaders) (led : IsLedBy body lead) where
      -- with the leader of the state before, it has the target of the choice before
      pub target_kept : (g : ℕ) (ks : List ℕ) (k : ℕ) → g < length body.signature → IsChoice body c t g ks → IsChoice body c u g (set ks j k)
          → lead (insert (root t) c (Some g)) j (get_or ks j 0) ≡ lead (insert (root t) c (Some g)) j k
          → body.target (entry (insert (root t) c (Some g)) ks) ≡ body.target (entry (insert (root u) c (Some g)) (set ks j k))
      target_kept g ks k within old new leads =
          let f = insert (root t) c (Some g) in
          same_target body lead led.goes (entry f ks) (entry (insert (root u) c (Some g)) (set ks j k)) (choice_entry t g ks alike.first_is within old) (choice_entry u g (set ks j k) alike.second_is within new)
          (ap (λ r. insert r c (Some g)) alike.root_is)
          (λ i l. ⊎_elim
          (λ (e : i ≡ j).
          let at : get_or (set ks j k) i 0 ≡ k = ap (λ m. get_or (set ks j k) m 0) e ∙ get_or-set_same ks j k 0 (omega (arith, l, e)) in
          ap (λ m. lead f m (get_or ks m 0)) e ∙ (leads ∙ (ap (λ m. lead f m k) (sym e) ∙ ap (lead f i) (sym at))))
          (λ (e : i ≡ j → ⊥). ap (lead f i) (sym (get_or-set_other ks j i k 0 e)))
          (cases_eq i j))

      -- the leader of a chosen state is a state
      pub leader_within : (g : ℕ) (ks : List ℕ) → g < length body.signature → IsChoice body c t g ks → lead (insert (root t) c (Some g)) j (get_or ks j 0) < length body.presences
      leader_within g ks within choice =
          let f = insert (root t) c (Some g) in
          let x = choice_entry t g ks alike.first_is within choice in
          let here : j < length ks = omega (arith, choice.count, alike.place) in
          omega (arith, x.within j here, led.leaders.least f j (get_or ks j 0) (kid_may_be body.signature body.columns body.presences (entry f ks) x j here))

      pub chosen_within : (g : ℕ) (ks : List ℕ) → g < length body.signature → IsChoice body c t g ks → get_or ks j 0 < length body.presences
      chosen_within g ks within choice = (choice_entry t g ks alike.first_is within choice).within j (omega (arith, choice.count, alike.place))

      module _ (key : HaveOneKey body c lead (root t) j (kid t j) (kid u j)) where
        -- Result: what terms in the column give of the one tuple, they give of the other
        pub gives_kept : (q : ℕ) → Gives body c t q → Gives body c u q
        gives_kept q given =
            let sig = body.signature in
            let m = made_from_given body c t q given in
            let g = m.symbol in
            let ks = m.states in
            let kept : (k : ℕ) → (j < arity sig g → Gives body c (kid u j) k) → (arity sig g ≤ j → k ≡ state_of body (insert (kid u j) c None))
            → lead (insert (root t) c (Some g)) j (get_or ks j 0) ≡ lead (insert (root t) c (Some g)) j k → Gives body c u q =
            λ k a b e. let new = choice_changed g ks k m.choice a b in
            given_from_made body c u q (record { symbol = g; within = m.within; states = set ks j k; choice = new; made = sym (target_kept g ks k m.within m.choice new e) ∙ m.made }) in
            ⊎_elim
            (λ (l : j < arity sig g).
            let p = key.given g (get_or ks j 0) m.within l (chosen_within g ks m.within m.choice) (leader_within g ks m.within m.choice) (m.choice.given j l) in
            kept p.state (λ _. p.given) (λ b. absurd (omega arith)) p.leader_is)
            (λ (l : arity sig g ≤ j).
            kept (state_of body (insert (kid u j) c None)) (λ b. absurd (omega arith)) (λ _. refl)
            (ap (lead (insert (root t) c (Some g)) j) (m.choice.absent j alike.place l) ∙ key.absent_under g m.within l))
            (cases_lt j (arity sig g))

        -- Result: with the column absent they have one state
        pub absent_kept : state_of body (insert t c None) ≡ state_of body (insert u c None)
        absent_kept =
            let f = insert (root t) c None in
            let s = insert t c None in
            let r = insert u c None in
            same_state body lead led.goes is s r (IsTuple-absent body c t low alike.first_is) (IsTuple-absent body c u low alike.second_is)
            (root-insert t c None ∙ (ap (λ x. insert x c None) alike.root_is ∙ sym (root-insert u c None)))
            (λ i l.
            let m : i < kid_count t = omega (arith, kid_count-insert t c None) in
            ap (λ x. lead x i (state_of body (kid s i))) (root-insert t c None)
            ∙ (ap (λ x. lead f i (state_of body x)) (kid-insert t c None i)
            ∙ (⊎_elim
            (λ (e : i ≡ j).
            ap (λ d. lead f d (state_of body (insert (kid t d) c None))) e ∙ (key.absent ∙ ap (λ d. lead f d (state_of body (insert (kid u d) c None))) (sym e)))
            (λ (e : i ≡ j → ⊥). ap (lead f i) (alike.absent i m e))
            (cases_eq i j)
            ∙ (ap (λ x. lead f i (state_of body x)) (sym (kid-insert u c None i))
            ∙ ap (λ x. lead x i (state_of body (kid r i))) (sym (root-insert t c None))))))
