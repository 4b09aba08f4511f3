-- To believe: when a list of truths, one for each state, marks the states that take some tree.
use Rattle.std.specs.Prelude.{◌≡◌, ◌↔◌, ℕ, List, Bool, true, false, slice_index_or}
use Rattle.fort_reachability.specs.TreeAutomata.{IsInhabited}
use Rattle.fort_tree_automata.specs.declared.nta.Nta.{Nta}
use Rattle.fort_tree_automata.specs.NtaView.{automaton_of}

abbrev pub IsMarked : List Bool → ℕ → Type 0
IsMarked flags q = slice_index_or flags q false ≡ true

-- the marked states are those that take some tree
abbrev pub MarksInhabited : Nta → List Bool → Type 0
MarksInhabited nta flags = (q : ℕ) → IsMarked flags q ↔ IsInhabited (automaton_of nta) q
