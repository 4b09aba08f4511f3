-- An automaton whose states stand for patterns takes a tree to a state exactly where it is an instance of the state's pattern.
use Rattle.std.specs.Prelude.{◌≡◌, ◌↔◌, ℕ, suc, List, [], ◌∷◌, length, Some, refl}
use Rattle.std.proofs.Common.{ap, subst, ◌∙◌}
use Rattle.fort_theory.specs.Trees.{Tree, Trees, Node, Nil, More}
use Rattle.fort_theory.specs.Signatures.{Signature}
use Rattle.fort_theory.specs.Patterns.{Pattern, Patterns, Any, At, NoPattern, MorePatterns, IsInstance, AreInstances, pattern_count, FitsPattern}
use Rattle.fort_reachability.specs.TreeAutomata.{Automaton, Takes, ByAny, ByMove, BySilentMove, AllTaken, NoneTaken, MoreTaken, FitsAutomaton}

-- one by one, as many states as patterns
pub data AllStandFor {State : Type 0} (stands_for : State → Pattern → Type 0) : List State → Patterns → Type 0 where
  NoneStand : AllStandFor stands_for [] NoPattern
  MoreStand : {q : State} {qs : List State} {p : Pattern} {ps : Patterns} → stands_for q p → AllStandFor stands_for qs ps
      → AllStandFor stands_for (q ∷ qs) (MorePatterns p ps)

-- a state stands for at most one pattern; the states of any tree stand for Any; moves go from the states of a pattern's
-- arguments to those of the pattern; there are no silent moves
pub record IsPatternAutomaton {State : Type 0} (automaton : Automaton State) (stands_for : State → Pattern → Type 0) : Type 0 where
  pub one : (q : State) (p o : Pattern) → stands_for q p → stands_for q o → p ≡ o
  pub any : (q : State) → automaton.IsAny q ↔ stands_for q Any
  pub moves : (f : ℕ) (qs : List State) (q : State) → automaton.HasMove f qs q → (ps : Patterns) × stands_for q (At f ps) × AllStandFor stands_for qs ps
  pub has_move : (f : ℕ) (ps : Patterns) (q : State) → stands_for q (At f ps) → (qs : List State) × automaton.HasMove f qs q × AllStandFor stands_for qs ps
  pub no_silent_move : (o q : State) → automaton.HasSilentMove o q → ⊥

none-instances : {State : Type 0} {stands_for : State → Pattern → Type 0} (ps : Patterns) → AllStandFor stands_for [] ps → AreInstances ps Nil
none-instances NoPattern n = tt
none-instances (MorePatterns p ps) n = elim n [ ]

more-instances : {State : Type 0} {stands_for : State → Pattern → Type 0} {t : Tree} {ts : Trees} {q : State} {qs : List State}
    → ((p : Pattern) → stands_for q p → IsInstance p t) → ((ps : Patterns) → AllStandFor stands_for qs ps → AreInstances ps ts)
    → {ps : Patterns} → AllStandFor stands_for (q ∷ qs) ps → AreInstances ps (More t ts)
more-instances first rest (MoreStand n ns) = (first _ n, rest _ ns)

none-taken : {State : Type 0} {stands_for : State → Pattern → Type 0} {automaton : Automaton State} {qs : List State} → AllStandFor stands_for qs NoPattern
    → AllTaken automaton Nil qs
none-taken NoneStand = NoneTaken

more-taken : {State : Type 0} {stands_for : State → Pattern → Type 0} {automaton : Automaton State} {t : Tree} {ts : Trees} {p : Pattern} {ps : Patterns}
    → ((q : State) → stands_for q p → Takes automaton t q) → ((qs : List State) → AllStandFor stands_for qs ps → AllTaken automaton ts qs)
    → {qs : List State} → AllStandFor stands_for qs (MorePatterns p ps) → AllTaken automaton (More t ts) qs
more-taken first rest (MoreStand n ns) = MoreTaken (first _ n) (rest _ ns)

module _ {State : Type 0} (automaton : Automaton State) (stands_for : State → Pattern → Type 0) (is : IsPatternAutomaton automaton stands_for) where
  mutual
    instance-from_Takes : {t : Tree} {q : State} → Takes automaton t q → (p : Pattern) → stands_for q p → IsInstance p t
    instance-from_Takes (ByAny {t = t} {q = q} h) p n = subst (λ o. IsInstance o t) (is.one q Any p ((is.any q).0 h) n) tt
    instance-from_Takes (ByMove {f = f} {ts = ts} {qs = qs} {q = q} m hs) p n =
        let w = is.moves f qs q m in
        subst (λ o. IsInstance o (Node f ts)) (is.one q (At f w.0) p w.1 n) (refl, instances-from_AllTaken hs w.0 w.2)
    instance-from_Takes (BySilentMove {o = o} {q = q} m h) p n = absurd (is.no_silent_move o q m)

    instances-from_AllTaken : {ts : Trees} {qs : List State} → AllTaken automaton ts qs → (ps : Patterns) → AllStandFor stands_for qs ps → AreInstances ps ts
    instances-from_AllTaken NoneTaken ps n = none-instances ps n
    instances-from_AllTaken (MoreTaken h hs) ps n = more-instances (λ p m. instance-from_Takes h p m) (λ os m. instances-from_AllTaken hs os m) n

  mutual
    takes-from_instance : (p : Pattern) (t : Tree) (q : State) → stands_for q p → IsInstance p t → Takes automaton t q
    takes-from_instance Any t q n i = ByAny ((is.any q).1 n)
    takes-from_instance (At f ps) (Node g ts) q n i =
        let w = is.has_move f ps q n in
        subst (λ x. Takes automaton (Node x ts) q) i.0 (ByMove w.1 (all_taken-from_instances ps ts w.0 w.2 i.1))

    all_taken-from_instances : (ps : Patterns) (ts : Trees) (qs : List State) → AllStandFor stands_for qs ps → AreInstances ps ts → AllTaken automaton ts qs
    all_taken-from_instances NoPattern Nil qs n i = none-taken n
    all_taken-from_instances NoPattern (More t ts) qs n i = absurd i
    all_taken-from_instances (MorePatterns p ps) Nil qs n i = absurd i
    all_taken-from_instances (MorePatterns p ps) (More t ts) qs n i =
        more-taken (λ q m. takes-from_instance p t q m i.0) (λ os m. all_taken-from_instances ps ts os m i.1) n

  pub Takes-IsInstance : (q : State) (p : Pattern) → stands_for q p → (t : Tree) → Takes automaton t q ↔ IsInstance p t
  Takes-IsInstance q p n t = ((λ h. instance-from_Takes h p n), (λ i. takes-from_instance p t q n i))

count-AllStandFor : {State : Type 0} {stands_for : State → Pattern → Type 0} {qs : List State} {ps : Patterns}
    → AllStandFor stands_for qs ps → pattern_count ps ≡ length qs
count-AllStandFor NoneStand = refl
count-AllStandFor (MoreStand n ns) = ap suc (count-AllStandFor ns)

-- where the patterns fit the signature, so does the automaton
pub FitsAutomaton-from_patterns : {State : Type 0} (signature : Signature) (automaton : Automaton State) (stands_for : State → Pattern → Type 0)
    → IsPatternAutomaton automaton stands_for → ((q : State) (p : Pattern) → stands_for q p → FitsPattern signature p) → FitsAutomaton signature automaton
FitsAutomaton-from_patterns signature automaton stands_for is fits f qs q m =
    let w = is.moves f qs q m in
    (fits q (At f w.0) w.1).0 ∙ ap Some (count-AllStandFor w.2)
