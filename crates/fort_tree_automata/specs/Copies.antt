-- To believe: a copy of an automaton has the same states, moves and silent moves.
use Rattle.std.specs.Prelude.{◌≡◌}
use Rattle.fort_tree_automata.specs.declared.nta.Nta.{Nta}
use Rattle.fort_tree_automata.specs.NtaView.{moves_of}

pub record IsCopy (nta copy : Nta) : Type 0 where
  pub states : copy.states ≡ nta.states
  pub any : copy.any ≡ nta.any
  pub moves : moves_of copy ≡ moves_of nta
  pub silent : copy.silent.items ≡ nta.silent.items
