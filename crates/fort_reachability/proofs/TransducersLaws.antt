-- An automaton takes as many trees as there are states, and reductions by a transducer lead from ground terms to ground terms, both ways.
use Rattle.std.specs.Prelude.{◌≡◌, suc, List, length, refl}
use Rattle.std.proofs.Common.{ap}
use Rattle.fort_theory.specs.Trees.{Trees, tree_count}
use Rattle.fort_theory.specs.Signatures.{Signature}
use Rattle.fort_theory.specs.Rewriting.{Reduces}
use Rattle.fort_theory.proofs.GroundSteps.{RelatesGround, KeepsGround, ComesFromGround, Reduces-keeps_ground, Reduces-comes_from_ground}
use Rattle.fort_reachability.specs.TreeAutomata.{Automaton, AllTaken, NoneTaken, MoreTaken}
use Rattle.fort_reachability.specs.Transducers.{Transducer, Transduces}

pub length-AllTaken : {State : Type 0} {automaton : Automaton State} {ts : Trees} {qs : List State} → AllTaken automaton ts qs → length qs ≡ tree_count ts
length-AllTaken NoneTaken = refl
length-AllTaken (MoreTaken h hs) = ap suc (length-AllTaken hs)

module _ {Left Right : Type 0} (signature : Signature) (transducer : Transducer Left Right) where
  pub RelatesGround-Transduces : RelatesGround signature (Transduces signature transducer)
  RelatesGround-Transduces s t h = (h.left_grounded, h.right_grounded)

  pub Reduces-to_ground : KeepsGround signature (Reduces (Transduces signature transducer))
  Reduces-to_ground = Reduces-keeps_ground signature (Transduces signature transducer) RelatesGround-Transduces

  pub Reduces-from_ground : ComesFromGround signature (Reduces (Transduces signature transducer))
  Reduces-from_ground = Reduces-comes_from_ground signature (Transduces signature transducer) RelatesGround-Transduces
