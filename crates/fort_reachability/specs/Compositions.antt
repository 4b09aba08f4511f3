-- To believe: what it means that one transducer is composed with another: which terms it relates, and to which states its automata take a ground term.
use Rattle.std.specs.Prelude.{◌↔◌}
use Rattle.std.proofs.Common.{inl, inr}
use Rattle.fort_theory.specs.Trees.{Tree}
use Rattle.fort_theory.specs.Signatures.{Signature, IsGround}
use Rattle.fort_theory.specs.Rewriting.{Relation, RewritesInParallel}
use Rattle.fort_reachability.specs.TreeAutomata.{Automaton, Takes}
use Rattle.fort_reachability.specs.Transducers.{Transducer, Transduces}
use Rattle.fort_theory.specs.Expressions.{Composes}
use Rattle.fort_reachability.specs.TransducerParts.{composed}

-- the term leads in parallel to some term of the state
abbrev pub LeadsInto : {State : Type 0} → Relation → Automaton State → Tree → State → Type 0
LeadsInto root automaton s q = (u : Tree) × RewritesInParallel root s u × Takes automaton u q

-- some term of the state leads in parallel to the term
abbrev pub LeadsFrom : {State : Type 0} → Relation → Automaton State → State → Tree → Type 0
LeadsFrom root automaton p t = (u : Tree) × Takes automaton u p × RewritesInParallel root u t

pub record IsComposition {L R M S : Type 0} (signature : Signature) (first : Transducer L R) (second : Transducer M S) : Type 0 where
  -- one of the two at the root and the other in parallel, in this order
  pub relates : (s t : Tree) → Transduces signature (composed first second) s t
      ↔ Composes (Transduces signature first) (Transduces signature second) s t
  -- on the left: to the first's states as it did, and to the second's states that what the term leads to is taken to
  pub left_first : (s : Tree) (a : L) → Takes (composed first second).left s (inl a) ↔ Takes first.left s a
  pub left_second : (s : Tree) → IsGround signature s → (a : M)
      → Takes (composed first second).left s (inr a) ↔ LeadsInto (Transduces signature first) second.left s a
  -- on the right: to the second's states as it did, and to the first's states that what leads to the term is taken to
  pub right_second : (t : Tree) (b : S) → Takes (composed first second).right t (inl b) ↔ Takes second.right t b
  pub right_first : (t : Tree) → IsGround signature t → (b : R)
      → Takes (composed first second).right t (inr b) ↔ LeadsFrom (Transduces signature second) first.right b t
