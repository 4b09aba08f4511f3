-- To believe: an automaton is trimmed where only the moves are left that name inhabited states alone, and each state takes the same terms.
use Rattle.std.specs.Prelude.{◌≡◌, ◌↔◌, ℕ, List, ◌∷◌, Contains}
use Rattle.fort_theory.specs.Trees.{Tree}
use Rattle.fort_reachability.specs.TreeAutomata.{Takes, IsInhabited}
use Rattle.fort_tree_automata.specs.declared.nta.Nta.{Nta}
use Rattle.fort_tree_automata.specs.NtaView.{moves_of, automaton_of}

-- all of these states take some term
abbrev pub AllInhabited : Nta → List ℕ → Type 0
AllInhabited nta qs = (p : ℕ) → Contains qs p → IsInhabited (automaton_of nta) p

pub record IsTrimmed (nta trimmed : Nta) : Type 0 where
  pub states : trimmed.states ≡ nta.states
  pub any : trimmed.any ≡ nta.any
  pub same : (t : Tree) (q : ℕ) → Takes (automaton_of trimmed) t q ↔ Takes (automaton_of nta) t q
  pub moves : (f : ℕ) (qs : List ℕ) (q : ℕ) → Contains (moves_of trimmed) (f, qs, q) ↔ (Contains (moves_of nta) (f, qs, q) × AllInhabited nta (q ∷ qs))
  pub silent : (o q : ℕ) → Contains trimmed.silent.items (o, q)
      ↔ (Contains nta.silent.items (o, q) × IsInhabited (automaton_of nta) o × IsInhabited (automaton_of nta) q)
