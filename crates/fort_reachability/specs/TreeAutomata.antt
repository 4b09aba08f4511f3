-- To believe: a tree automaton takes a tree to a state by a move, by a silent move, or because the state takes any tree; when it fits a signature; when a state is inhabited.
use Rattle.std.specs.Prelude.{◌≡◌, ℕ, List, [], ◌∷◌, length, Some}
use Rattle.fort_theory.specs.Trees.{Tree, Trees, Node, Nil, More}
use Rattle.fort_theory.specs.Signatures.{Signature, arity_of}

pub record Automaton (State : Type 0) : Type 1 where
  -- at a node with this symbol, from states of its children to a state of it
  pub HasMove : ℕ → List State → State → Type 0
  -- from one state of a tree to another
  pub HasSilentMove : State → State → Type 0
  -- it takes any tree
  pub IsAny : State → Type 0

mutual
  pub data Takes {State : Type 0} (automaton : Automaton State) : Tree → State → Type 0 where
    ByAny : {t : Tree} {q : State} → automaton.IsAny q → Takes automaton t q
    ByMove : {f : ℕ} {ts : Trees} {qs : List State} {q : State} → automaton.HasMove f qs q → AllTaken automaton ts qs
        → Takes automaton (Node f ts) q
    BySilentMove : {t : Tree} {o q : State} → automaton.HasSilentMove o q → Takes automaton t o → Takes automaton t q

  -- one by one, as many trees as states
  pub data AllTaken {State : Type 0} (automaton : Automaton State) : Trees → List State → Type 0 where
    NoneTaken : AllTaken automaton Nil []
    MoreTaken : {t : Tree} {ts : Trees} {q : State} {qs : List State} → Takes automaton t q → AllTaken automaton ts qs
        → AllTaken automaton (More t ts) (q ∷ qs)

-- each move has as many states as its symbol has arguments
abbrev pub FitsAutomaton : {State : Type 0} → Signature → Automaton State → Type 0
FitsAutomaton {State = State} signature automaton =
    (f : ℕ) (qs : List State) (q : State) → automaton.HasMove f qs q → arity_of signature f ≡ Some (length qs)

-- some tree is taken to the state
pub record IsInhabited {State : Type 0} (automaton : Automaton State) (q : State) : Type 0 where
  pub tree : Tree
  pub taken : Takes automaton tree q
