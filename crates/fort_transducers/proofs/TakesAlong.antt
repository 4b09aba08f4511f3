-- Where the moves into a state are matched by moves into the states related to it, these take each tree that it takes.
use Rattle.std.specs.Prelude.{◌⊎◌, ℕ, List, [], ◌∷◌}
use Rattle.std.proofs.Common.{inl, inr}
use Rattle.fort_theory.specs.Trees.{Tree, Trees}
use Rattle.fort_reachability.specs.TreeAutomata.{Automaton, Takes, ByAny, ByMove, BySilentMove, AllTaken, NoneTaken, MoreTaken}

-- one by one, as many of each
abbrev pub AllRelated : {A B : Type 0} → (A → B → Type 0) → List A → List B → Type 0
AllRelated R [] [] = Unit {0}
AllRelated R [] (q ∷ qs) = ⊥
AllRelated R (p ∷ ps) [] = ⊥
AllRelated R (p ∷ ps) (q ∷ qs) = R p q × AllRelated R ps qs

-- a state takes every tree
abbrev pub TakesAll : {State : Type 0} → Automaton State → State → Type 0
TakesAll automaton q = (t : Tree) → Takes automaton t q

module _ {A B : Type 0} (automaton : Automaton A) (other : Automaton B) (R : A → B → Type 0)
    (moves : (f : ℕ) (ps : List A) (p : A) (q : B) → R p q → automaton.HasMove f ps p → (qs : List B) × AllRelated R ps qs × other.HasMove f qs q)
    (silent : (o p : A) (q : B) → R p q → automaton.HasSilentMove o p → TakesAll other q ⊎ ((n : B) × R o n × other.HasSilentMove n q))
    (any : (p : A) (q : B) → R p q → automaton.IsAny p → TakesAll other q) where
  by_silent : {t : Tree} {o : A} (q : B) → TakesAll other q ⊎ ((n : B) × R o n × other.HasSilentMove n q) → ((n : B) → R o n → Takes other t n) → Takes other t q
  by_silent {t = t} q (inl all) source = all t
  by_silent q (inr w) source = BySilentMove w.2 (source w.0 w.1)

  mutual
    pub Takes-along : {t : Tree} {p : A} → Takes automaton t p → (q : B) → R p q → Takes other t q
    Takes-along (ByAny {t = t} {q = p} h) q r = any p q r h t
    Takes-along (ByMove {f = f} {qs = ps} {q = p} m hs) q r = let w = moves f ps p q r m in ByMove w.2 (AllTaken-along hs w.0 w.1)
    Takes-along (BySilentMove {o = o} {q = p} m h) q r = by_silent q (silent o p q r m) (λ n k. Takes-along h n k)

    AllTaken-along : {ts : Trees} {ps : List A} → AllTaken automaton ts ps → (qs : List B) → AllRelated R ps qs → AllTaken other ts qs
    AllTaken-along NoneTaken [] r = NoneTaken
    AllTaken-along NoneTaken (q ∷ qs) r = absurd r
    AllTaken-along (MoreTaken h hs) [] r = absurd r
    AllTaken-along (MoreTaken h hs) (q ∷ qs) r = MoreTaken (Takes-along h q r.0) (AllTaken-along hs qs r.1)
