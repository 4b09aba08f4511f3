-- To believe: which transducer a value of the program is, and when the state numbers in it are those of its states.
use Rattle.std.specs.Prelude.{ℕ, ◌<◌, Contains}
use Rattle.fort_reachability.specs.Transducers.{Transducer}
use Rattle.fort_tree_automata.specs.NtaView as automata
use Rattle.fort_transducers.specs.declared.agtt.Agtt.{Agtt}

abbrev pub transducer_of : Agtt → Transducer ℕ ℕ
transducer_of agtt = record {
  left = automata.automaton_of agtt.left;
  right = automata.automaton_of agtt.right;
  HasPair = λ a b. Contains agtt.pairs.items (a, b);
}

-- each state that it names is one of its states
pub record NamesItsStates (agtt : Agtt) : Type 0 where
  pub left : automata.NamesItsStates agtt.left
  pub right : automata.NamesItsStates agtt.right
  pub pairs : (a b : ℕ) → Contains agtt.pairs.items (a, b) → (a < agtt.left.states) × (b < agtt.right.states)
