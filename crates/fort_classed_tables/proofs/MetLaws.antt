-- One more state at a place: it is led by the first state with its column, or by itself.
use Rattle.std.proofs.Common.{◌≡◌, ℕ, ◌+◌, ◌<◌, ◌≤◌, List, [], ◌∷◌, ◌++◌, length, get_or, refl, ap, sym, ◌∙◌, arith, subst, ⊎_elim}
use Rattle.std.proofs.lemmas.Bool.{cases_lt}
use Rattle.std.proofs.lemmas.List.{get_or_append_left, get_or_push, length_push}
use Rattle.fort_classed_tables.specs.declared.columns.Columns.{Columns}
use Rattle.fort_classed_tables.specs.declared.leaders.MetColumns.{MetColumns}
use Rattle.fort_classed_tables.specs.ColumnLeaders.{GivesFirst, Met, New, state_column, IsLedState, AreLedStates, AreMet}

pub led_none : (c : Columns) (ranks ps : List ℕ) (w : ℕ) (leaders : List ℕ) → leaders ≡ [] → AreLedStates c ranks ps w 0 leaders
led_none c ranks ps w leaders e = record { count = ap length e; states = λ q l. absurd (omega (arith, l)) }

pub met_none : (c : Columns) (ranks ps : List ℕ) (w : ℕ) (met : MetColumns) (leaders : List ℕ) → met.columns ≡ [] → met.firsts.items ≡ [] → AreMet c ranks ps w 0 met leaders
met_none c ranks ps w met leaders a b =
    let none : (k : ℕ) → k < length met.firsts.items → ⊥ = λ k l. omega (arith, l, ap length b) in
    record {
      one = ap length a ∙ sym (ap length b);
      within = λ k l. absurd (none k l);
      presence_is = λ k l. absurd (none k l);
      itself = λ k l. absurd (none k l);
      column = λ k l. absurd (none k l);
    }

module _ (c : Columns) (ranks ps : List ℕ) (w n : ℕ) (leaders new : List ℕ) (l : ℕ) (e : new ≡ leaders ++ l ∷ []) (led : AreLedStates c ranks ps w n leaders) where
  old_at : (q : ℕ) → q < n → get_or new q 0 ≡ get_or leaders q 0
  old_at q m = ap (λ (xs : List ℕ). get_or xs q 0) e ∙ get_or_append_left leaders (l ∷ []) 0 q (omega (arith, m, led.count))

  new_at : get_or new n 0 ≡ l
  new_at = ap (λ (xs : List ℕ). get_or xs n 0) e ∙ get_or_push leaders l 0 n led.count

  kept_state : (q : ℕ) → q < n → IsLedState c ranks ps w new q
  kept_state q m =
      let s = led.states q m in
      let o = old_at q m in
      record {
        least = omega (arith, o, s.least);
        itself = ap (λ x. get_or new x 0) o ∙ (old_at (get_or leaders q 0) (omega (arith, s.least, m)) ∙ (s.itself ∙ sym o));
        presence_is = λ p. ap (λ x. get_or ps x 0) o ∙ s.presence_is p;
        same = λ p. ap (state_column c ranks) o ∙ s.same p;
      }

  led_more : IsLedState c ranks ps w new n → AreLedStates c ranks ps w (n + 1) new
  led_more s = record {
    count = ap length e ∙ (length_push leaders l ∙ ap (λ k. k + 1) led.count);
    states = λ q m. ⊎_elim
        (λ (b : q < n). kept_state q b)
        (λ (b : n ≤ q). let z : n ≡ q = omega (arith, b, m) in subst (IsLedState c ranks ps w new) z s)
        (cases_lt q n);
  }

  -- the state leads itself
  own_state : l ≡ n → IsLedState c ranks ps w new n
  own_state z =
      let o : get_or new n 0 ≡ n = new_at ∙ z in
      record {
        least = omega (arith, o);
        itself = ap (λ x. get_or new x 0) o;
        presence_is = λ p. ap (λ x. get_or ps x 0) o ∙ p;
        same = λ p. ap (state_column c ranks) o;
      }

  -- the columns that were met stay
  met_kept : (old met : MetColumns) → AreMet c ranks ps w n old leaders → met.columns ≡ old.columns → met.firsts.items ≡ old.firsts.items → AreMet c ranks ps w (n + 1) met new
  met_kept old met m a b =
      let low : (k : ℕ) → k < length met.firsts.items → k < length old.firsts.items = λ k o. omega (arith, o, ap length b) in
      record {
        one = ap length a ∙ (m.one ∙ sym (ap length b));
        within = λ k o. omega (arith, m.within k (low k o), ap (λ (xs : List ℕ). get_or xs k 0) b);
        presence_is = λ k o. ap (λ (xs : List ℕ). get_or ps (get_or xs k 0) 0) b ∙ m.presence_is k (low k o);
        itself = λ k o.
            ap (λ (xs : List ℕ). get_or new (get_or xs k 0) 0) b
            ∙ (old_at (get_or old.firsts.items k 0) (m.within k (low k o)) ∙ (m.itself k (low k o) ∙ ap (λ (xs : List ℕ). get_or xs k 0) (sym b)));
        column = λ k o. ap (λ (xs : List (List ℕ)). get_or xs k []) a ∙ (m.column k (low k o) ∙ ap (λ (xs : List ℕ). state_column c ranks (get_or xs k 0)) (sym b));
      }

  -- one more column is met
  record HasFirstAt (met : MetColumns) (k : ℕ) : Type 0 where
    within : get_or met.firsts.items k 0 < n + 1
    presence_is : get_or ps (get_or met.firsts.items k 0) 0 ≡ w
    itself : get_or new (get_or met.firsts.items k 0) 0 ≡ get_or met.firsts.items k 0
    column : get_or met.columns k [] ≡ state_column c ranks (get_or met.firsts.items k 0)

  met_more : (old met : MetColumns) (column : List ℕ) → AreMet c ranks ps w n old leaders → l ≡ n → get_or ps n 0 ≡ w → column ≡ state_column c ranks n
      → met.columns ≡ old.columns ++ column ∷ [] → met.firsts.items ≡ old.firsts.items ++ n ∷ [] → AreMet c ranks ps w (n + 1) met new
  met_more old met column m z p s a b =
      let long : length met.firsts.items ≡ length old.firsts.items + 1 = ap length b ∙ length_push old.firsts.items n in
      let first : (k : ℕ) → k < length old.firsts.items → get_or met.firsts.items k 0 ≡ get_or old.firsts.items k 0 =
      λ k o. ap (λ (xs : List ℕ). get_or xs k 0) b ∙ get_or_append_left old.firsts.items (n ∷ []) 0 k o in
      let before : (k : ℕ) → k < length old.firsts.items → HasFirstAt met k = λ k o.
      let t = first k o in
      record {
        within = omega (arith, t, m.within k o);
        presence_is = ap (λ x. get_or ps x 0) t ∙ m.presence_is k o;
        itself = ap (λ x. get_or new x 0) t ∙ (old_at (get_or old.firsts.items k 0) (m.within k o) ∙ (m.itself k o ∙ sym t));
        column =
            ap (λ (xs : List (List ℕ)). get_or xs k []) a
            ∙ (get_or_append_left old.columns (column ∷ []) [] k (omega (arith, o, m.one)) ∙ (m.column k o ∙ ap (state_column c ranks) (sym t)));
      } in
      let last : (k : ℕ) → length old.firsts.items ≡ k → HasFirstAt met k = λ k o.
      let t : get_or met.firsts.items k 0 ≡ n = ap (λ (xs : List ℕ). get_or xs k 0) b ∙ get_or_push old.firsts.items n 0 k o in
      record {
        within = omega (arith, t);
        presence_is = ap (λ x. get_or ps x 0) t ∙ p;
        itself = ap (λ x. get_or new x 0) t ∙ (new_at ∙ (z ∙ sym t));
        column = ap (λ (xs : List (List ℕ)). get_or xs k []) a ∙ (get_or_push old.columns column [] k (m.one ∙ o) ∙ (s ∙ ap (state_column c ranks) (sym t)));
      } in
      let each : (k : ℕ) → k < length met.firsts.items → HasFirstAt met k = λ k o. ⊎_elim
      (λ (d : k < length old.firsts.items). before k d)
      (λ (d : length old.firsts.items ≤ k). last k (omega (arith, d, o, long)))
      (cases_lt k (length old.firsts.items)) in
      record {
        one = ap length a ∙ (length_push old.columns column ∙ (ap (λ k. k + 1) m.one ∙ sym long));
        within = λ k o. (each k o).within;
        presence_is = λ k o. (each k o).presence_is;
        itself = λ k o. (each k o).itself;
        column = λ k o. (each k o).column;
      }

  -- Result: a state of the presence is led by the first one with its column
  pub led_there : (old met : MetColumns) → AreMet c ranks ps w n old leaders → get_or ps n 0 ≡ w → GivesFirst old met (state_column c ranks n) n l
      → AreLedStates c ranks ps w (n + 1) new × AreMet c ranks ps w (n + 1) met new
  led_there old met m p (Met k o s f a b) =
      let first = get_or old.firsts.items k 0 in
      let t : get_or new n 0 ≡ first = new_at ∙ f in
      let state : IsLedState c ranks ps w new n = record {
        least = omega (arith, t, m.within k o);
        itself = ap (λ x. get_or new x 0) t ∙ (old_at first (m.within k o) ∙ (m.itself k o ∙ sym t));
        presence_is = λ q. ap (λ x. get_or ps x 0) t ∙ m.presence_is k o;
        same = λ q. ap (state_column c ranks) t ∙ (sym (m.column k o) ∙ s);
      } in
      (led_more state, met_kept old met m a b)
  led_there old met m p (New f a b) = (led_more (own_state f), met_more old met (state_column c ranks n) m f p refl a b)

  -- Result: another state leads itself
  pub led_elsewhere : (old met : MetColumns) → AreMet c ranks ps w n old leaders → l ≡ n → met ≡ old
      → AreLedStates c ranks ps w (n + 1) new × AreMet c ranks ps w (n + 1) met new
  led_elsewhere old met m z same = (led_more (own_state z), met_kept old met m (ap (λ (x : MetColumns). x.columns) same) (ap (λ (x : MetColumns). x.firsts.items) same))
