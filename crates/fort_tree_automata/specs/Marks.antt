-- Inside: states that are marked in a list of truths, by the moves of an automaton.
use Rattle.std.specs.Prelude.{◌≡◌, ◌↔◌, ℕ, zero, suc, List, [], ◌∷◌, Bool, true, false, cond, slice_index_or, slice_set, nat_eq, ◌&&◌, Option, Some, None}
use Rattle.std.specs.List.{list_all}
use Rattle.fort_theory.specs.Trees.{Tree, Trees, Nil, More}
use Rattle.fort_reachability.specs.TreeAutomata.{Takes}
use Rattle.fort_tree_automata.specs.declared.nta.Nta.{Nta}
use Rattle.fort_tree_automata.specs.InhabitedStates.{IsMarked}
use Rattle.fort_tree_automata.specs.NtaView.{MoveParts, moves_of, automaton_of}

-- the flags with one state marked, where the truth holds
abbrev pub marked : List Bool → Bool → ℕ → List Bool
marked flags b q = cond b (slice_set flags q true) flags

abbrev pub all_marked : List Bool → List ℕ → Bool
all_marked flags qs = list_all (λ q. slice_index_or flags q false) qs

-- state by state in row by row, and as many
abbrev pub marked_in_rows : List (List Bool) → List ℕ → Bool
marked_in_rows [] [] = true
marked_in_rows [] (q ∷ qs) = false
marked_in_rows (row ∷ rows) [] = false
marked_in_rows (row ∷ rows) (q ∷ qs) = slice_index_or row q false && marked_in_rows rows qs

-- the state that takes every term
abbrev pub with_any : List Bool → Option ℕ → List Bool
with_any flags None = flags
with_any flags (Some q) = slice_set flags q true

-- the targets of moves that wake them, one move after the other
abbrev pub with_each : {M : Type 0} → (List Bool → M → Bool) → (M → ℕ) → List M → List Bool → List Bool
with_each wakes target [] flags = flags
with_each wakes target (m ∷ ms) flags = with_each wakes target ms (marked flags (wakes flags m) (target m))

-- the targets of moves whose kids are marked
abbrev pub with_moves : List MoveParts → List Bool → List Bool
with_moves = with_each (λ flags m. all_marked flags m.1) (λ m. m.2)

-- the targets of silent moves from what is marked
abbrev pub with_silent : List (ℕ × ℕ) → List Bool → List Bool
with_silent = with_each (λ flags m. slice_index_or flags m.0 false) (λ m. m.1)

-- the targets of moves of a symbol whose kids are marked in the children's rows
abbrev pub with_node : ℕ → List (List Bool) → List MoveParts → List Bool → List Bool
with_node f rows = with_each (λ flags m. nat_eq m.0 f && marked_in_rows rows m.1) (λ m. m.2)

-- silent moves, and then the others
abbrev pub with_pass : Nta → List Bool → List Bool
with_pass nta flags = with_moves (moves_of nta) (with_silent nta.silent.items flags)

unfoldable pub after_passes : (List Bool → List Bool) → ℕ → List Bool → List Bool
after_passes pass zero flags = flags
after_passes pass (suc k) flags = pass (after_passes pass k flags)

-- some passes from the start, and one more changes nothing
pub record IsSettled (pass : List Bool → List Bool) (start flags : List Bool) : Type 0 where
  pub count : ℕ
  pub passes : flags ≡ after_passes pass count start
  pub steady : pass flags ≡ flags

-- the marked states are those to which the tree is taken
abbrev pub MarksTaken : Nta → Tree → List Bool → Type 0
MarksTaken nta t flags = (q : ℕ) → IsMarked flags q ↔ Takes (automaton_of nta) t q

-- one by one, as many trees as rows
abbrev pub AllMarkTaken : Nta → Trees → List (List Bool) → Type 0
AllMarkTaken nta Nil [] = Unit {0}
AllMarkTaken nta Nil (row ∷ rows) = ⊥
AllMarkTaken nta (More t ts) [] = ⊥
AllMarkTaken nta (More t ts) (row ∷ rows) = MarksTaken nta t row × AllMarkTaken nta ts rows
