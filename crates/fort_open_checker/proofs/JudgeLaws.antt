-- What comes of nodes that were taken one by one: the first that is no entry, or whether the last one's state is accepting.
use Rattle.std.specs.Prelude.{◌≡◌, ℕ, ◌+◌, ◌-◌, ◌<◌, ◌≤◌, List, [], ◌∷◌, ◌++◌, map, take, length, get_or, true}
use Rattle.std.proofs.Common.{sym, ap, ◌∙◌, subst, arith}
use Rattle.std.proofs.lemmas.List.{length-map, length-take-le, get_or-map, map_more, take-map, take_all}
use Rattle.fort_tables.specs.Entries.{AreNodes, node_presences}
use Rattle.fort_tables.specs.Tables.{Table, IsTable}
use Rattle.fort_steps.specs.StepView.{as_step}
use Rattle.fort_certificate_theory.specs.Outcomes.{Verdict}
use Rattle.fort_certificate_theory.specs.OpenCertificates.{Found}
use Rattle.fort_certificate_theory.specs.OpenChecked.{OpenOutcome, Confirmed, Rejected, NoEntry}
use Rattle.fort_steps.specs.OpenView.{as_node, as_open}
use Rattle.fort_steps.specs.declared.open_certificate.Node.{Node}
use Rattle.fort_steps.specs.declared.open_certificate.OpenCertificate.{OpenCertificate}
use Rattle.fort_open_checker.specs.NodeStates.{AreNodeStates, IsNodeEntry, HasNodeRoom, AreNodesJudged, Failing, Accepted, Refused}
use Rattle.fort_open_checker.specs.declared.nodes.NodeRoom.{NodeRoom}
use Rattle.fort_open_checker.proofs.NodeStateLaws.{state_count, state_within, accepts_last, last_accepted}

module _ (t : Table) (c : OpenCertificate) (k : ℕ) (presences states : List ℕ) (h : AreNodeStates t (map as_node (take k c.nodes.items)) presences states) where
  abbrev all : List Node
  all = c.nodes.items

  front_is : map as_node (take k c.nodes.items) ≡ take k (map as_node c.nodes.items)
  front_is = sym (take-map as_node k all)

  module _ (low : k < length c.nodes.items) where
    -- Result
    pub more_room : (room : NodeRoom) → HasNodeRoom (length c.nodes.items) room → HasNodeRoom (length states + 1) room
    more_room room r =
        let n = state_count t (map as_node (take k all)) presences states h in
        let m : length (map as_node (take k all)) ≡ k = length-map (take k all) as_node ∙ length-take-le k all (omega arith) in
        record { presences = omega (arith, n, m, r.presences); states = omega (arith, n, m, r.states) }

    module _ (node : Node) (is : node ≡ get_or c.nodes.items k node) where
      -- Result
      pub failing : (form : ℕ) → form ≡ c.first + 1 + length c.steps.items + k → (IsNodeEntry t presences (as_node node) → ⊥) → AreNodesJudged t (as_open c) (NoEntry form)
      failing form form_is none =
          let own : form ≡ c.first + 1 + length (map as_step c.steps.items) + k = omega (arith, form_is, length-map c.steps.items as_step) in
          subst (λ n. AreNodesJudged t (as_open c) (NoEntry n)) (sym own)
          (Failing k (as_node node) (omega (arith, low, length-map all as_node)) (get_or-map as_node all k node (as_node node) low ∙ ap as_node (sym is))
          (subst (AreNodes t.signature t.columns) front_is h.are)
          (λ e. none (subst (λ ps. IsNodeEntry t ps (as_node node)) (sym (h.presences_are ∙ ap node_presences front_is)) e)))

      -- Result
      pub one_more : (ps qs : List ℕ) → AreNodeStates t (map as_node (take k c.nodes.items) ++ as_node node ∷ []) ps qs → AreNodeStates t (map as_node (take (k + 1) c.nodes.items)) ps qs
      one_more ps qs next =
          subst (λ es. AreNodeStates t es ps qs) (ap (λ x. map as_node (take k all) ++ as_node x ∷ []) is ∙ sym (map_more as_node all k node low)) next

  -- Result
  pub states_low : (qs : List ℕ) → qs ≡ states → IsTable t → (j : ℕ) → j < length qs → get_or qs j 0 < length t.presences
  states_low qs is lawful j l = subst (λ xs. get_or xs j 0 < length t.presences) (sym is) (state_within t (map as_node (take k all)) presences states h lawful j (omega (arith, l, ap length is)))

  module _ (whole : length c.nodes.items ≤ k) (qs : List ℕ) (is : qs ≡ states) where
    abbrev IsLastAccepted : List ℕ → Type 0
    IsLastAccepted xs = (0 < length xs) × (t.accepting (get_or xs (length xs - 1) 0) ≡ true)

    all_nodes : AreNodeStates t (map as_node c.nodes.items) presences states
    all_nodes = subst (λ xs. AreNodeStates t (map as_node xs) presences states) (take_all k all whole) h

    -- Result
    pub accepted : (0 < length qs) × (t.accepting (get_or qs (length qs - 1) 0) ≡ true) → AreNodesJudged t (as_open c) (Confirmed Found)
    accepted y = Accepted all_nodes.are (accepts_last t (map as_node all) presences states all_nodes (subst IsLastAccepted is y))

    -- Result
    pub refused : ((0 < length qs) × (t.accepting (get_or qs (length qs - 1) 0) ≡ true) → ⊥) → (o : OpenOutcome) → o ≡ Rejected c.first 0 Verdict → AreNodesJudged t (as_open c) o
    refused none o o_is =
        subst (AreNodesJudged t (as_open c)) (sym o_is)
        (Refused all_nodes.are (λ a. none (subst IsLastAccepted (sym is) (last_accepted t (map as_node all) presences states all_nodes a))))
