-- One more node, with the state that a table gives its tuple.
use Rattle.std.specs.Prelude.{◌≡◌, ℕ, suc, ◌-◌, ◌<◌, ◌≤◌, List, [], ◌∷◌, ◌++◌, map, take, length, get_or, true, refl}
use Rattle.std.proofs.Common.{sym, ap, ◌∙◌, subst, arith}
use Rattle.std.proofs.lemmas.List.{length-map, length-take-le, ext_get_or, get_or-map, get_or-take, map-append}
use Rattle.fort_theory.specs.Signatures.{Signature}
use Rattle.fort_tables.specs.Tuples.{Tuple, TupleSymbol, root, kids, rebuilt, presence, AreKids}
use Rattle.fort_tables.specs.Entries.{Entry, entry, IsEntry, AreTuples, picked, tuples_of}
use Rattle.fort_tables.specs.Tables.{Table, IsTable, IsTableEntry, state_of}
use Rattle.fort_tables.proofs.TupleLaws.{fold_tuple-step, root-rebuilt, kids-rebuilt}
use Rattle.fort_tables.proofs.TableLaws.{table_state}
use Rattle.fort_tables.proofs.EntryLaws.{tuples_after-push, length-tuples_after, entry_kids}
use Rattle.fort_tables.proofs.NodeLaws.{presences-nodes, AreNodes-push, AreTuples-nodes}
use Rattle.fort_certificate_theory.specs.OpenChecked.{last_of, AcceptsLast}
use Rattle.fort_open_checker.specs.NodeStates.{AreNodeStates, IsNodeEntry, states_at, over_states}

-- the states of picked tuples
states_picked : (state : Tuple → ℕ) (ts : List Tuple) (ks : List ℕ) → ((j : ℕ) → j < length ks → get_or ks j 0 < length ts) → map state (picked ts ks) ≡ states_at (map state ts) ks
states_picked state ts [] h = refl
states_picked state ts (k ∷ ks) h =
    ap (λ q. q ∷ map state (picked ts ks)) (sym (get_or-map state ts k [] 0 (h 0 (omega arith))))
    ∙ ap (λ qs. get_or (map state ts) k 0 ∷ qs) (states_picked state ts ks (λ j l. h (suc j) (omega arith)))

-- a buffer of states, cut to the children
pub states_taken : (own qs ks : List ℕ) → length ks ≤ length own → ((j : ℕ) → j < length ks → get_or own j 0 ≡ get_or qs (get_or ks j 0) 0) → take (length ks) own ≡ states_at qs ks
states_taken own qs ks l h =
    let len : length (take (length ks) own) ≡ length ks = length-take-le (length ks) own l in
    ext_get_or 0 (take (length ks) own) (states_at qs ks) (len ∙ sym (length-map ks (λ i. get_or qs i 0)))
    (λ j m. let b : j < length ks = omega arith in get_or-take (length ks) own j 0 b ∙ (h j b ∙ sym (get_or-map (λ i. get_or qs i 0) ks j 0 0 b)))

-- what is an entry over the nodes so far
pub node_entry : (t : Table) (sig : Signature) (columns : ℕ) (ps presences : List ℕ) (e : Entry) → sig ≡ t.signature → columns ≡ t.columns → ps ≡ presences → IsEntry sig columns ps e → IsNodeEntry t presences e
node_entry t sig columns ps presences e a b c h =
    subst (λ xs. IsEntry t.signature t.columns xs e) c (subst (λ n. IsEntry t.signature n ps e) b (subst (λ (s : Signature). IsEntry s columns ps e) a h))

module _ (t : Table) (nodes : List Entry) (presences states : List ℕ) (h : AreNodeStates t nodes presences states) where
  abbrev tuples : List Tuple
  tuples = tuples_of nodes

  pub tuple_count : length tuples ≡ length nodes
  tuple_count = let n = length-tuples_after [] nodes in omega (arith, n)

  -- Result
  pub state_count : length states ≡ length nodes
  state_count = ap length h.states_are ∙ (length-map tuples (state_of t) ∙ tuple_count)

  pub presence_count : length presences ≡ length nodes
  presence_count = ap length h.presences_are ∙ length-map nodes (λ (e : Entry). presence e.symbol)

  are_tuples : AreTuples t.signature t.columns tuples
  are_tuples = AreTuples-nodes t.signature t.columns nodes h.are

  state_at : (k : ℕ) → k < length nodes → get_or states k 0 ≡ state_of t (get_or tuples k [])
  state_at k l = ap (λ qs. get_or qs k 0) h.states_are ∙ get_or-map (state_of t) tuples k [] 0 (omega (arith, tuple_count))

  module _ (lawful : IsTable t) where
    -- Result
    pub state_within : (k : ℕ) → k < length states → get_or states k 0 < length t.presences
    state_within k l =
        let low : k < length nodes = omega (arith, state_count) in
        let s = table_state t lawful (get_or tuples k []) (are_tuples k (omega (arith, tuple_count))) in
        omega (arith, state_at k low, s.within)

    state_presence : (k : ℕ) → k < length nodes → get_or t.presences (get_or states k 0) 0 ≡ get_or presences k 0
    state_presence k low =
        let s = table_state t lawful (get_or tuples k []) (are_tuples k (omega (arith, tuple_count))) in
        ap (λ q. get_or t.presences q 0) (state_at k low)
        ∙ (s.presence_is
        ∙ (sym (get_or-map presence tuples k [] 0 (omega (arith, tuple_count)))
        ∙ ap (λ ps. get_or ps k 0) (presences-nodes nodes ∙ sym h.presences_are)))

    module _ (e : Entry) (is : IsNodeEntry t presences e) where
      low_kid : (j : ℕ) → j < length e.kids → get_or e.kids j 0 < length nodes
      low_kid j l = omega (arith, is.within j l, presence_count)

      -- Result
      pub kid_within : (j : ℕ) → j < length e.kids → get_or e.kids j 0 < length states
      kid_within j l = omega (arith, low_kid j l, state_count)

      kid_state : (j : ℕ) → j < length e.kids → get_or (states_at states e.kids) j 0 ≡ get_or states (get_or e.kids j 0) 0
      kid_state j l = get_or-map (λ k. get_or states k 0) e.kids j 0 0 l

      -- Result
      pub entry_over : IsTableEntry t (over_states states e)
      entry_over = record {
        symbol = is.symbol;
        count = length-map e.kids (λ k. get_or states k 0) ∙ is.count;
        within = λ j l.
            let m : j < length e.kids = omega (arith, length-map e.kids (λ k. get_or states k 0)) in
            omega (arith, kid_state j m, state_within (get_or e.kids j 0) (kid_within j m));
        presence = λ j l.
            let m : j < length e.kids = omega (arith, length-map e.kids (λ k. get_or states k 0)) in
            ap (λ q. get_or t.presences q 0) (kid_state j m) ∙ (state_presence (get_or e.kids j 0) (low_kid j m) ∙ is.presence j m);
      }

      new_tuple : Tuple
      new_tuple = rebuilt e.symbol (picked tuples e.kids)

      fits : AreKids t.signature e.symbol (picked tuples e.kids)
      fits = entry_kids t.signature t.columns tuples e are_tuples (subst (λ ps. IsEntry t.signature t.columns ps e) (h.presences_are ∙ sym (presences-nodes nodes)) is)

      new_state : state_of t (rebuilt e.symbol (picked tuples e.kids)) ≡ t.target (over_states states e)
      new_state =
          let r = rebuilt e.symbol (picked tuples e.kids) in
          let a : root r ≡ e.symbol = root-rebuilt e.symbol (picked tuples e.kids) in
          let b : kids r ≡ picked tuples e.kids = kids-rebuilt t.signature e.symbol (picked tuples e.kids) fits in
          let c : map (state_of t) (picked tuples e.kids) ≡ states_at states e.kids =
          states_picked (state_of t) tuples e.kids (λ j l. omega (arith, low_kid j l, tuple_count)) ∙ ap (λ qs. states_at qs e.kids) (sym h.states_are) in
          fold_tuple-step (λ f ks. t.target (entry f ks)) r ∙ ((λ i. t.target (entry (a i) (map (state_of t) (b i)))) ∙ ap (λ ks. t.target (entry e.symbol ks)) c)

      module _ (f : TupleSymbol) (qs ks : List ℕ) (symbol_is : f ≡ e.symbol) (states_are : qs ≡ states) (kids_are : ks ≡ e.kids) where
        -- Result
        pub kids_inside : (j : ℕ) → j < length ks → get_or ks j 0 < length qs
        kids_inside j l =
            let m : j < length e.kids = omega (arith, ap length kids_are) in
            omega (arith, kid_within j m, ap (λ (xs : List ℕ). get_or xs j 0) kids_are, ap length states_are)

        -- Result
        pub over_same : entry f (states_at qs ks) ≡ over_states states e
        over_same = λ i. entry (symbol_is i) (states_at (states_are i) (kids_are i))

        -- Result
        pub entry_inside : IsTableEntry t (entry f (states_at qs ks))
        entry_inside = subst (IsTableEntry t) (sym over_same) entry_over

      -- Result
      pub taken : (q p : ℕ) → q ≡ t.target (over_states states e) → p ≡ get_or t.presences q 0 → AreNodeStates t (nodes ++ e ∷ []) (presences ++ p ∷ []) (states ++ q ∷ [])
      taken q p q_is p_is =
          let own : p ≡ presence e.symbol = p_is ∙ (ap (λ x. get_or t.presences x 0) q_is ∙ lawful.presence (over_states states e) entry_over) in
          record {
            are = AreNodes-push t.signature t.columns nodes e h.are (subst (λ ps. IsEntry t.signature t.columns ps e) h.presences_are is);
            presences_are = (λ i. h.presences_are i ++ own i ∷ []) ∙ sym (map-append (λ (x : Entry). presence x.symbol) nodes (e ∷ []));
            states_are =
                (λ i. h.states_are i ++ (q_is ∙ sym new_state) i ∷ [])
                ∙ (sym (map-append (state_of t) tuples (rebuilt e.symbol (picked tuples e.kids) ∷ []))
                ∙ ap (map (state_of t)) (sym (tuples_after-push [] nodes e)));
          }

  -- the state of the last tuple
  last_state : get_or states (length states - 1) 0 ≡ get_or (map (state_of t) (tuples_of nodes)) (length nodes - 1) 0
  last_state = (λ i. get_or (h.states_are i) (state_count i - 1) 0)

  -- Result
  pub accepts_last : (0 < length states) × (t.accepting (get_or states (length states - 1) 0) ≡ true) → AcceptsLast t nodes
  accepts_last a =
      let some : 0 < length nodes = omega (arith, a.0, state_count) in
      let at : get_or states (length states - 1) 0 ≡ state_of t (last_of nodes) = last_state ∙ get_or-map (state_of t) tuples (length nodes - 1) [] 0 (omega (arith, some, tuple_count)) in
      record { some = some; accepted = ap t.accepting (sym at) ∙ a.1 }

  -- Result
  pub last_accepted : AcceptsLast t nodes → (0 < length states) × (t.accepting (get_or states (length states - 1) 0) ≡ true)
  last_accepted a =
      let at : get_or states (length states - 1) 0 ≡ state_of t (last_of nodes) = last_state ∙ get_or-map (state_of t) tuples (length nodes - 1) [] 0 (omega (arith, a.some, tuple_count)) in
      (omega (arith, a.some, state_count), ap t.accepting at ∙ a.accepted)
