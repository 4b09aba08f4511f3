-- Inside: the presences of nodes and the states of their tuples; what comes of nodes that are held against a table.
use Rattle.std.specs.Prelude.{◌≡◌, ℕ, ◌<◌, ◌≤◌, List, map, take, length, get_or, vec_capacity}
use Rattle.fort_tables.specs.Entries.{Entry, entry, IsEntry, AreNodes, node_presences, tuples_of}
use Rattle.fort_tables.specs.Tables.{Table, state_of}
use Rattle.fort_certificate_theory.specs.Outcomes.{Verdict}
use Rattle.fort_certificate_theory.specs.OpenCertificates.{Found, OpenCertificate}
use Rattle.fort_open_checker.specs.declared.nodes.NodeRoom.{NodeRoom}
use Rattle.fort_certificate_theory.specs.OpenChecked.{OpenOutcome, Confirmed, Rejected, NoEntry, node_form, AcceptsLast}

pub record AreNodeStates (t : Table) (nodes : List Entry) (presences states : List ℕ) : Type 0 where
  pub are : AreNodes t.signature t.columns nodes
  pub presences_are : presences ≡ node_presences nodes
  pub states_are : states ≡ map (state_of t) (tuples_of nodes)

-- room for so many nodes
pub record HasNodeRoom (nodes : ℕ) (room : NodeRoom) : Type 0 where
  pub presences : nodes ≤ vec_capacity room.presences
  pub states : nodes ≤ vec_capacity room.states

-- the states of these nodes
abbrev pub states_at : List ℕ → List ℕ → List ℕ
states_at states kids = map (λ k. get_or states k 0) kids

-- a node as an entry over states
abbrev pub over_states : List ℕ → Entry → Entry
over_states states e = entry e.symbol (states_at states e.kids)

-- an entry over nodes of these presences
abbrev pub IsNodeEntry : Table → List ℕ → Entry → Type 0
IsNodeEntry t presences e = IsEntry t.signature t.columns presences e

-- the first node that is no entry, or whether the table accepts the tuple of the last one
pub data AreNodesJudged (t : Table) (c : OpenCertificate) : OpenOutcome → Type 0 where
  Failing : (k : ℕ) (node : Entry) → k < length c.nodes → get_or c.nodes k node ≡ node → AreNodes t.signature t.columns (take k c.nodes)
      → (IsNodeEntry t (node_presences (take k c.nodes)) node → ⊥) → AreNodesJudged t c (NoEntry (node_form c k))
  Accepted : AreNodes t.signature t.columns c.nodes → AcceptsLast t c.nodes → AreNodesJudged t c (Confirmed Found)
  Refused : AreNodes t.signature t.columns c.nodes → (AcceptsLast t c.nodes → ⊥) → AreNodesJudged t c (Rejected c.first 0 Verdict)
