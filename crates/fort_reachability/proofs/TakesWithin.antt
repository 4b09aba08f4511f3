-- An automaton whose moves are among those of another takes no more trees.
use Rattle.std.specs.Prelude.{ℕ, List}
use Rattle.fort_theory.specs.Trees.{Tree, Trees}
use Rattle.fort_reachability.specs.TreeAutomata.{Automaton, Takes, ByAny, ByMove, BySilentMove, AllTaken, NoneTaken, MoreTaken}

module _ {State : Type 0} (automaton larger : Automaton State)
    (moves : (f : ℕ) (qs : List State) (q : State) → automaton.HasMove f qs q → larger.HasMove f qs q)
    (silent : (o q : State) → automaton.HasSilentMove o q → larger.HasSilentMove o q)
    (any : (q : State) → automaton.IsAny q → larger.IsAny q) where
  mutual
    pub Takes-within : {t : Tree} {q : State} → Takes automaton t q → Takes larger t q
    Takes-within (ByAny {q = q} h) = ByAny (any q h)
    Takes-within (ByMove {f = f} {qs = qs} {q = q} m hs) = ByMove (moves f qs q m) (AllTaken-within hs)
    Takes-within (BySilentMove {o = o} {q = q} m h) = BySilentMove (silent o q m) (Takes-within h)

    AllTaken-within : {ts : Trees} {qs : List State} → AllTaken automaton ts qs → AllTaken larger ts qs
    AllTaken-within NoneTaken = NoneTaken
    AllTaken-within (MoreTaken h hs) = MoreTaken (Takes-within h) (AllTaken-within hs)
