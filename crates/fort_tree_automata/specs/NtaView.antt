-- To believe: which tree automaton a value of the program is, and when the state numbers in it are those of its states.
use Rattle.std.specs.Prelude.{◌≡◌, ℕ, ◌<◌, List, ◌∷◌, map, Contains, Some}
use Rattle.fort_reachability.specs.TreeAutomata.{Automaton}
use Rattle.fort_tree_automata.specs.declared.nta.Move.{Move}
use Rattle.fort_tree_automata.specs.declared.nta.Nta.{Nta}

-- a move as its symbol, the states of the children and that of the node
abbrev pub MoveParts : Type 0
MoveParts = ℕ × List ℕ × ℕ

abbrev pub as_move : Move → MoveParts
as_move move = (move.sym.0, move.kids.items, move.target)

abbrev pub moves_of : Nta → List MoveParts
moves_of nta = map as_move nta.moves.items

abbrev pub automaton_of : Nta → Automaton ℕ
automaton_of nta = record {
  HasMove = λ f qs q. Contains (moves_of nta) (f, qs, q);
  HasSilentMove = λ o q. Contains nta.silent.items (o, q);
  IsAny = λ q. nta.any ≡ Some q;
}

-- each state that it names is one of its states
pub record NamesItsStates (nta : Nta) : Type 0 where
  pub any : (q : ℕ) → nta.any ≡ Some q → q < nta.states
  pub moves : (f : ℕ) (qs : List ℕ) (q : ℕ) → Contains (moves_of nta) (f, qs, q) → (p : ℕ) → Contains (q ∷ qs) p → p < nta.states
  pub silent : (o q : ℕ) → Contains nta.silent.items (o, q) → (o < nta.states) × (q < nta.states)
