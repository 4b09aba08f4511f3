-- To believe: the closed transducer is the transducer with more silent moves, by its pairs and its closure table.
use Rattle.std.specs.Prelude.{◌⊎◌}
use Rattle.fort_reachability.specs.TreeAutomata.{Automaton}
use Rattle.fort_reachability.specs.Transducers.{Transducer}
use Rattle.fort_reachability.specs.ClosureTables.{InClosure}

-- for a pair of a and b, from a to each state that b reaches
abbrev pub closed_left : {Left Right : Type 0} → Transducer Left Right → Automaton Left
closed_left {Right = Right} transducer = record {
  HasMove = transducer.left.HasMove;
  HasSilentMove = λ a q. transducer.left.HasSilentMove a q ⊎ ((b : Right) × transducer.HasPair a b × InClosure transducer b q);
  IsAny = transducer.left.IsAny;
}

-- for a pair of a and b, from b to each state that reaches a
abbrev pub closed_right : {Left Right : Type 0} → Transducer Left Right → Automaton Right
closed_right {Left = Left} transducer = record {
  HasMove = transducer.right.HasMove;
  HasSilentMove = λ b p. transducer.right.HasSilentMove b p ⊎ ((a : Left) × transducer.HasPair a b × InClosure transducer p a);
  IsAny = transducer.right.IsAny;
}

abbrev pub closed : {Left Right : Type 0} → Transducer Left Right → Transducer Left Right
closed transducer = record {
  left = closed_left transducer;
  right = closed_right transducer;
  HasPair = transducer.HasPair;
}
