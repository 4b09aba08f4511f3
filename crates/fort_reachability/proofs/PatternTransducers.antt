-- A transducer whose states stand for patterns relates the root steps by its pairs of patterns; its closure table says which pattern reaches which.
use Rattle.std.specs.Prelude.{◌↔◌, List, Contains}
use Rattle.fort_theory.specs.Trees.{Tree}
use Rattle.fort_theory.specs.Signatures.{Signature}
use Rattle.fort_theory.specs.Patterns.{Pattern, Pair}
use Rattle.fort_theory.specs.PatternSteps.{PatternStep}
use Rattle.fort_theory.proofs.WithinRoots.{Reduces-within}
use Rattle.fort_reachability.specs.Transducers.{Transducer, Transduces, FitsTransducer}
use Rattle.fort_reachability.specs.ClosureTables.{InClosure}
use Rattle.fort_reachability.specs.PatternReachability.{ReachesInstance}
use Rattle.fort_reachability.proofs.PatternAutomata.{IsPatternAutomaton, Takes-IsInstance}
use Rattle.fort_reachability.proofs.ClosureTableExact.{InClosure-Reaches}

-- two states stand for the patterns of a pair
pub record StandForPair {Left Right : Type 0} (lefts : Left → Pattern → Type 0) (rights : Right → Pattern → Type 0)
    (a : Left) (b : Right) (pair : Pair) : Type 0 where
  pub left : lefts a pair.0
  pub right : rights b pair.1

pub record IsPatternTransducer {Left Right : Type 0} (transducer : Transducer Left Right)
    (lefts : Left → Pattern → Type 0) (rights : Right → Pattern → Type 0) (pairs : List Pair) : Type 0 where
  pub left : IsPatternAutomaton transducer.left lefts
  pub right : IsPatternAutomaton transducer.right rights
  pub paired : (a : Left) (b : Right) → transducer.HasPair a b → (pair : Pair) × Contains pairs pair × StandForPair lefts rights a b pair
  pub has_pair : (pair : Pair) → Contains pairs pair → (a : Left) × (b : Right) × transducer.HasPair a b × StandForPair lefts rights a b pair

module _ {Left Right : Type 0} (signature : Signature) (transducer : Transducer Left Right)
    (lefts : Left → Pattern → Type 0) (rights : Right → Pattern → Type 0) (pairs : List Pair) (is : IsPatternTransducer transducer lefts rights pairs) where
  pattern_step-from_Transduces : (s t : Tree) → Transduces signature transducer s t → PatternStep signature pairs s t
  pattern_step-from_Transduces s t h =
      let w = is.paired h.left_state h.right_state h.paired in
      record {
        pair = w.0;
        among = w.1;
        left = (Takes-IsInstance transducer.left lefts is.left h.left_state w.0.0 w.2.left s).0 h.left_taken;
        right = (Takes-IsInstance transducer.right rights is.right h.right_state w.0.1 w.2.right t).0 h.right_taken;
        left_grounded = h.left_grounded;
        right_grounded = h.right_grounded;
      }

  transduces-from_PatternStep : (s t : Tree) → PatternStep signature pairs s t → Transduces signature transducer s t
  transduces-from_PatternStep s t h =
      let w = is.has_pair h.pair h.among in
      record {
        left_state = w.0;
        right_state = w.1;
        paired = w.2;
        left_taken = (Takes-IsInstance transducer.left lefts is.left w.0 h.pair.0 w.3.left s).1 h.left;
        right_taken = (Takes-IsInstance transducer.right rights is.right w.1 h.pair.1 w.3.right t).1 h.right;
        left_grounded = h.left_grounded;
        right_grounded = h.right_grounded;
      }

  pub Transduces-PatternStep : (s t : Tree) → Transduces signature transducer s t ↔ PatternStep signature pairs s t
  Transduces-PatternStep s t = (pattern_step-from_Transduces s t, transduces-from_PatternStep s t)

  pub InClosure-ReachesInstance : FitsTransducer signature transducer → (a : Right) (b : Left) (p q : Pattern) → rights a p → lefts b q
      → InClosure transducer a b ↔ ReachesInstance signature pairs p q
  InClosure-ReachesInstance fits a b p q n m = (
    (λ h.
        let k = (InClosure-Reaches signature transducer fits a b).0 h in
        record {
          start = k.start;
          end = k.end;
          start_instance = (Takes-IsInstance transducer.right rights is.right a p n k.start).0 k.start_taken;
          end_instance = (Takes-IsInstance transducer.left lefts is.left b q m k.end).0 k.end_taken;
          start_grounded = k.start_grounded;
          end_grounded = k.end_grounded;
          reduces = Reduces-within (Transduces signature transducer) (PatternStep signature pairs) pattern_step-from_Transduces k.start k.end k.reduces;
        }),
    (λ k. (InClosure-Reaches signature transducer fits a b).1 (record {
      start = k.start;
      end = k.end;
      start_taken = (Takes-IsInstance transducer.right rights is.right a p n k.start).1 k.start_instance;
      end_taken = (Takes-IsInstance transducer.left lefts is.left b q m k.end).1 k.end_instance;
      start_grounded = k.start_grounded;
      end_grounded = k.end_grounded;
      reduces = Reduces-within (PatternStep signature pairs) (Transduces signature transducer) transduces-from_PatternStep k.start k.end k.reduces;
    })),
  )
