-- A node over the states of the nodes before it is an entry, whose target is the state of the node's tuple.
use Rattle.std.proofs.Common.{◌≡◌, ℕ, suc, ◌+◌, ◌<◌, List, [], ◌∷◌, ◌++◌, map, length, take, get_or, Some, refl, ap, sym, ◌∙◌, subst, arith}
use Rattle.std.specs.List.{slice_get}
use Rattle.std.proofs.lemmas.List.{length-map, get_or-map, get_or-take, take_more, length-take-le}
use Rattle.std.proofs.lemmas.Option.{get_or_from_slice_get, slice_get_within}
use Rattle.fort_tables.specs.Tuples.{Tuple, root, kid, kids, presence, IsTuple}
use Rattle.fort_tables.specs.Entries.{Entry, entry, AreNodes, node_presences, picked, tuples_of}
use Rattle.fort_tables.specs.Tables.{Table, IsTable, IsTableEntry, state_of}
use Rattle.fort_tables.proofs.TupleLaws.{fold_tuple-step, IsTuple-kid}
use Rattle.fort_tables.proofs.EntryLaws.{length-tuples_after}
use Rattle.fort_tables.proofs.NodeLaws.{AreTuples-nodes, root-node, kids-node}
use Rattle.fort_tables.proofs.TableLaws.{IsEntry-states, table_state}
use Rattle.fort_callers.specs.NodeStates.{over_states}

picked_states : (f : Tuple → ℕ) (ts : List Tuple) (k : ℕ) (qs : List ℕ) → k < length ts
    → ((j : ℕ) → j < length qs → get_or qs j 0 < k)
    → map f (picked ts qs) ≡ map (λ q. get_or (take k (map f ts)) q 0) qs
picked_states f ts k [] inside low = refl
picked_states f ts k (q ∷ qs) inside low =
    let here : q < k = low 0 (omega arith) in
    let first : f (get_or ts q []) ≡ get_or (take k (map f ts)) q 0 =
    sym (get_or-take k (map f ts) q 0 here ∙ get_or-map f ts q [] 0 (omega arith)) in
    ap (λ x. x ∷ map f (picked ts qs)) first
    ∙ ap (λ xs. get_or (take k (map f ts)) q 0 ∷ xs) (picked_states f ts k qs inside (λ j l. low (suc j) (omega arith)))

-- node k of these is e, and these are the states of the nodes before it
module _ (t : Table) (lawful : IsTable t) (nodes : List Entry) (are : AreNodes t.signature t.columns nodes) (k : ℕ) (e : Entry) (is : slice_get nodes k ≡ Some e) (states : List ℕ) (states_are : states ≡ take k (map (state_of t) (tuples_of nodes))) where
  abbrev tuple : Tuple
  tuple = get_or (tuples_of nodes) k []

  inside : k < length nodes
  inside = slice_get_within nodes k e is

  at : get_or nodes k e ≡ e
  at = get_or_from_slice_get nodes k e e is

  inside_tuples : k < length (tuples_of nodes)
  inside_tuples = omega (arith, length-tuples_after [] nodes, inside)

  is_tuple : IsTuple t.signature t.columns tuple
  is_tuple = AreTuples-nodes t.signature t.columns nodes are k inside_tuples

  low : (j : ℕ) → j < length e.kids → get_or e.kids j 0 < k
  low j l =
      let here = subst (λ (x : Entry). get_or x.kids j 0 < length (node_presences (take k nodes))) at ((are k e inside).within j (subst (λ (x : Entry). j < length x.kids) (sym at) l)) in
      omega (arith, here, inside, length-map (take k nodes) (λ (x : Entry). presence x.symbol), length-take-le k nodes)

  -- Result
  pub node_before : (j : ℕ) → j < length e.kids → get_or e.kids j 0 < length states
  node_before j l =
      omega (arith, low j l, ap length states_are, length-take-le k (map (state_of t) (tuples_of nodes)), length-map (tuples_of nodes) (state_of t), inside_tuples)

  -- the node as an entry has the root and the children's states of its tuple
  same : entry (root tuple) (map (state_of t) (kids tuple)) ≡ over_states states e
  same =
      let roots = root-node t.signature t.columns nodes k e are inside ∙ ap (λ (x : Entry). x.symbol) at in
      let below = kids-node t.signature t.columns nodes k e are inside ∙ ap (λ (x : Entry). picked (tuples_of nodes) x.kids) at in
      (λ i. entry (roots i) (map (state_of t) (below i)))
      ∙ (ap (entry e.symbol) (picked_states (state_of t) (tuples_of nodes) k e.kids inside_tuples low)
      ∙ ap (λ qs. over_states qs e) (sym states_are))

  -- Result
  pub node_is_entry : IsTableEntry t (over_states states e)
  node_is_entry =
      subst (IsTableEntry t) same
      (IsEntry-states t.signature t.columns t.presences (state_of t) tuple is_tuple
      (λ j l. table_state t lawful (kid tuple j) (IsTuple-kid t.signature t.columns tuple j is_tuple l)))

  node_state : state_of t tuple ≡ t.target (over_states states e)
  node_state = fold_tuple-step (λ f qs. t.target (entry f qs)) tuple ∙ ap t.target same

  -- Result
  pub one_more : states ++ t.target (over_states states e) ∷ [] ≡ take (k + 1) (map (state_of t) (tuples_of nodes))
  one_more =
      let all = map (state_of t) (tuples_of nodes) in
      let last = get_or-map (state_of t) (tuples_of nodes) k [] 0 inside_tuples ∙ node_state in
      sym (take_more all k 0 (omega (arith, length-map (tuples_of nodes) (state_of t), inside_tuples)) ∙ (λ i. sym states_are i ++ last i ∷ []))
