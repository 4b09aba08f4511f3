-- Inside: an automaton with more silent moves.
use Rattle.std.specs.Prelude.{◌≡◌, ℕ, List, ◌++◌}
use Rattle.fort_tree_automata.specs.declared.nta.Nta.{Nta}
use Rattle.fort_tree_automata.specs.NtaView.{moves_of}

pub record HasMoreMoves (old new : Nta) (added : List (ℕ × ℕ)) : Type 0 where
  pub states : new.states ≡ old.states
  pub any : new.any ≡ old.any
  pub moves : moves_of new ≡ moves_of old
  pub silent : new.silent.items ≡ old.silent.items ++ added
