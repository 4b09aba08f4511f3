-- To believe: the closure table of a transducer is the least set of pairs of a right and a left state with these rules.
use Rattle.std.specs.Prelude.{ℕ, List, [], ◌∷◌}
use Rattle.fort_reachability.specs.TreeAutomata.{IsInhabited}
use Rattle.fort_reachability.specs.Transducers.{Transducer}

mutual
  pub data InClosure {Left Right : Type 0} (transducer : Transducer Left Right) : Right → Left → Type 0 where
    -- one takes any tree, and the other some tree
    AnyRight : {p : Right} {q : Left} → transducer.right.IsAny p → IsInhabited transducer.left q → InClosure transducer p q
    AnyLeft : {p : Right} {q : Left} → transducer.left.IsAny q → IsInhabited transducer.right p → InClosure transducer p q
    -- two moves by one symbol, from states that are in it one by one
    ByMoves : {f : ℕ} {ps : List Right} {p : Right} {qs : List Left} {q : Left} → transducer.right.HasMove f ps p → transducer.left.HasMove f qs q
        → AllInClosure transducer ps qs → InClosure transducer p q
    -- a silent move to either state, from one that is in it
    SilentRight : {o p : Right} {q : Left} → transducer.right.HasSilentMove o p → InClosure transducer o q → InClosure transducer p q
    SilentLeft : {p : Right} {o q : Left} → transducer.left.HasSilentMove o q → InClosure transducer p o → InClosure transducer p q
    -- to a pair of the transducer, and on from it
    ThroughPair : {p : Right} {a : Left} {b : Right} {q : Left} → transducer.HasPair a b
        → InClosure transducer p a → InClosure transducer b q → InClosure transducer p q

  -- one by one, as many of each
  pub data AllInClosure {Left Right : Type 0} (transducer : Transducer Left Right) : List Right → List Left → Type 0 where
    NoneIn : AllInClosure transducer [] []
    MoreIn : {p : Right} {ps : List Right} {q : Left} {qs : List Left} → InClosure transducer p q
        → AllInClosure transducer ps qs → AllInClosure transducer (p ∷ ps) (q ∷ qs)
