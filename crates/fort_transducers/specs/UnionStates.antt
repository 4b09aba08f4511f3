-- To believe: which states an automaton beside another has: the first's as they were, and the second's at numbers past them.
use Rattle.std.specs.Prelude.{◌↔◌, ℕ, ◌+◌, ◌<◌}
use Rattle.fort_theory.specs.Trees.{Tree}
use Rattle.fort_theory.specs.Signatures.{Signature}
use Rattle.fort_reachability.specs.TreeAutomata.{Takes, FitsAutomaton}
use Rattle.fort_tree_automata.specs.declared.nta.Nta.{Nta}
use Rattle.fort_tree_automata.specs.NtaView.{automaton_of}

pub record HasBothStates (first second both : Nta) : Type 0 where
  pub kept : (t : Tree) (q : ℕ) → q < first.states → Takes (automaton_of both) t q ↔ Takes (automaton_of first) t q
  pub moved : (t : Tree) (q : ℕ) → Takes (automaton_of both) t (q + first.states) ↔ Takes (automaton_of second) t q
  pub fits : (signature : Signature) → FitsAutomaton signature (automaton_of first) → FitsAutomaton signature (automaton_of second)
      → FitsAutomaton signature (automaton_of both)
