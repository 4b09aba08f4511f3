-- The transducer with its automata and the states of its pairs exchanged relates the same terms the other way round.
use Rattle.std.proofs.Common.{◌≡◌, ◌↔◌, ℕ, List, map, sym, ap, subst}
use Rattle.std.specs.Prelude.{Contains}
use Rattle.fort_theory.specs.Trees.{Tree}
use Rattle.fort_theory.specs.Signatures.{Signature}
use Rattle.fort_theory.proofs.Lists.{Contains-map, Contains-map_from}
use Rattle.fort_reachability.specs.Transducers.{Transduces}
use Rattle.fort_tree_automata.specs.Copies.{IsCopy}
use Rattle.fort_tree_automata.proofs.CopiesLaws.{Takes-copied, Takes-from_copy, NamesItsStates-copied}
use Rattle.fort_transducers.specs.declared.agtt.Agtt.{Agtt}
use Rattle.fort_transducers.specs.AgttView.{NamesItsStates, transducer_of}

abbrev pub exchanged : ℕ × ℕ → ℕ × ℕ
exchanged p = (p.1, p.0)

pub Contains-exchanged : (ps : List (ℕ × ℕ)) (a b : ℕ) → Contains ps (a, b) → Contains (map exchanged ps) (b, a)
Contains-exchanged ps a b c = Contains-map exchanged ps (a, b) c

pub Contains-from_exchanged : (ps : List (ℕ × ℕ)) (a b : ℕ) → Contains (map exchanged ps) (a, b) → Contains ps (b, a)
Contains-from_exchanged ps a b c = let w = Contains-map_from exchanged ps (a, b) c in subst (Contains ps) (ap exchanged w.2) w.1

module _ (agtt inverse : Agtt) (left : IsCopy agtt.right inverse.left) (right : IsCopy agtt.left inverse.right)
    (pairs : inverse.pairs.items ≡ map exchanged agtt.pairs.items) where
  pair_was : (a b : ℕ) → Contains inverse.pairs.items (a, b) → Contains agtt.pairs.items (b, a)
  pair_was a b c = Contains-from_exchanged agtt.pairs.items a b (subst (λ (ps : List (ℕ × ℕ)). Contains ps (a, b)) pairs c)

  pair_is : (a b : ℕ) → Contains agtt.pairs.items (a, b) → Contains inverse.pairs.items (b, a)
  pair_is a b c = subst (λ (ps : List (ℕ × ℕ)). Contains ps (b, a)) (sym pairs) (Contains-exchanged agtt.pairs.items a b c)

  pub Transduces-inverse : (signature : Signature) (s t : Tree) → Transduces signature (transducer_of inverse) s t ↔ Transduces signature (transducer_of agtt) t s
  Transduces-inverse signature s t = (
    λ h. record {
      left_state = h.right_state;
      right_state = h.left_state;
      paired = pair_was h.left_state h.right_state h.paired;
      left_taken = Takes-from_copy agtt.left inverse.right right h.right_taken;
      right_taken = Takes-from_copy agtt.right inverse.left left h.left_taken;
      left_grounded = h.right_grounded;
      right_grounded = h.left_grounded;
    },
    λ h. record {
      left_state = h.right_state;
      right_state = h.left_state;
      paired = pair_is h.left_state h.right_state h.paired;
      left_taken = Takes-copied agtt.right inverse.left left h.right_taken;
      right_taken = Takes-copied agtt.left inverse.right right h.left_taken;
      left_grounded = h.right_grounded;
      right_grounded = h.left_grounded;
    },
  )

  pub NamesItsStates-inverse : NamesItsStates agtt → NamesItsStates inverse
  NamesItsStates-inverse names = record {
    left = NamesItsStates-copied agtt.right inverse.left left names.right;
    right = NamesItsStates-copied agtt.left inverse.right right names.left;
    pairs = λ a b c. let both = names.pairs b a (pair_was a b c) in rw (left.states, right.states) (both.1, both.0);
  }
