-- Of two automata side by side with silent moves across, the states take what those of the joined automaton take.
use Rattle.std.proofs.Common.{length, ◌≡◌, ◌↔◌, ◌⊎◌, ℕ, ◌+◌, ◌<◌, List, [], ◌∷◌, ◌++◌, map, ap, sym, ◌∙◌, refl, subst, arith, Some, inl, inr}
use Rattle.std.specs.Prelude.{Contains}
use Rattle.fort_theory.specs.Trees.{Tree}
use Rattle.fort_theory.specs.Signatures.{Signature}
use Rattle.fort_theory.proofs.Members.{Contains-head, Contains-behind}
use Rattle.fort_theory.proofs.Lists.{Contains-map, Contains-map_from}
use Rattle.fort_reachability.specs.TreeAutomata.{Automaton, Takes, ByAny, FitsAutomaton}
use Rattle.fort_tree_automata.specs.declared.nta.Nta.{Nta}
use Rattle.fort_tree_automata.specs.NtaView.{MoveParts, moves_of, automaton_of, NamesItsStates}
use Rattle.fort_transducers.specs.Unions.{AreBeside, joined_any, shifted_move}
use Rattle.fort_transducers.proofs.BesideLaws.{StepCases, joined_any_cases, joined_any_first, move_cases, move_first, move_second, step_first, step_second, step_cases, target_low, any_taken, FitsAutomaton-beside, NamesItsStates-beside}
use Rattle.fort_transducers.proofs.MoreMovesLaws.{silent_cases, silent_old, silent_new, move_old, move_was, Takes-more, FitsAutomaton-more, NamesItsStates-more}
use Rattle.fort_transducers.proofs.SizesLaws.{count-joined}
use Rattle.fort_transducers.proofs.TakesAlong.{AllRelated, TakesAll, Takes-along}
use Rattle.fort_reachability.specs.TransducerParts.{joined}
use Rattle.fort_composition.specs.Across.{AreBesideAcross, AreAcross, crossing_step}

no-more : (k : ℕ) → k + 0 ≡ k
no-more k = omega arith

crossing_steps-shifted : (n : ℕ) (cs : List (ℕ × ℕ)) → map (λ c. (c.0 + 0, c.1 + n)) cs ≡ map (crossing_step n) cs
crossing_steps-shifted n [] = refl
crossing_steps-shifted n (c ∷ cs) =
    ap (λ k. (k, c.1 + n) ∷ map (λ d. (d.0 + 0, d.1 + n)) cs) (no-more c.0) ∙ ap (λ ds. crossing_step n c ∷ ds) (crossing_steps-shifted n cs)

-- side by side, with the moves across pushed behind the others
pub AreBesideAcross-pushed : (first second beside both : Nta) (crossing : List (ℕ × ℕ)) → AreBeside first second beside → both.states ≡ beside.states
    → both.any ≡ beside.any → moves_of both ≡ moves_of beside → both.silent.items ≡ beside.silent.items ++ map (λ c. (c.0 + 0, c.1 + first.states)) crossing
    → AreBesideAcross first second both crossing
AreBesideAcross-pushed first second beside both crossing sides states any moves silent = record {
  beside = beside;
  sides = sides;
  more = record {
    states = states;
    any = any;
    moves = moves;
    silent = silent ∙ ap (λ cs. beside.silent.items ++ cs) (crossing_steps-shifted first.states crossing);
  };
}

pub states-across : (first second both : Nta) (crossing : List (ℕ × ℕ)) → AreBesideAcross first second both crossing → both.states ≡ first.states + second.states
states-across first second both crossing are = are.more.states ∙ are.sides.states

pub count-across : (first second both : Nta) (crossing : List (ℕ × ℕ)) → AreBesideAcross first second both crossing
    → length both.moves.items ≡ length first.moves.items + length second.moves.items
count-across first second both crossing are = count-joined first second both (shifted_move first.states) (are.more.moves ∙ are.sides.moves)

-- which state of the two is meant by a number
abbrev IsNumber : ℕ → ℕ → ℕ ⊎ ℕ → Type 0
IsNumber n p (inl q) = (p ≡ q) × (p < n)
IsNumber n p (inr q) = q + n ≡ p

all_first : (n : ℕ) (qs : List ℕ) → ((p : ℕ) → Contains qs p → p < n) → AllRelated (IsNumber n) qs (map inl qs)
all_first n [] h = tt
all_first n (q ∷ qs) h = ((refl, h q (Contains-head q qs)), all_first n qs (λ p c. h p (Contains-behind q qs p c)))

all_second : (n : ℕ) (qs : List ℕ) → AllRelated (IsNumber n) (map (λ q. q + n) qs) (map inr qs)
all_second n [] = tt
all_second n (q ∷ qs) = (refl, all_second n qs)

abbrev IsNumbered : ℕ → ℕ ⊎ ℕ → ℕ → Type 0
IsNumbered n q p = IsNumber n p q

all_first_back : (n : ℕ) (qs : List ℕ) → ((p : ℕ) → Contains qs p → p < n) → AllRelated (IsNumbered n) (map inl qs) qs
all_first_back n [] h = tt
all_first_back n (q ∷ qs) h = ((refl, h q (Contains-head q qs)), all_first_back n qs (λ p c. h p (Contains-behind q qs p c)))

all_second_back : (n : ℕ) (qs : List ℕ) → AllRelated (IsNumbered n) (map inr qs) (map (λ q. q + n) qs)
all_second_back n [] = tt
all_second_back n (q ∷ qs) = (refl, all_second_back n qs)

module _ (first second both : Nta) (crossing : List (ℕ × ℕ)) (are : AreBesideAcross first second both crossing)
    (first_named : NamesItsStates first) (second_named : NamesItsStates second) (across : AreAcross first second crossing) where
  abbrev pub Crosses : ℕ → ℕ → Type 0
  Crosses a q = Contains crossing (a, q)

  abbrev pub Joined : Automaton (ℕ ⊎ ℕ)
  Joined = joined (automaton_of first) (automaton_of second) Crosses

  abbrev crossing_steps : List (ℕ × ℕ)
  crossing_steps = map (crossing_step first.states) crossing

  any_is : both.any ≡ joined_any first.states first.any second.any
  any_is = are.more.any ∙ are.sides.any

  -- what a move is
  cases_of_move : (f : ℕ) (ps : List ℕ) (p : ℕ) → Contains (moves_of both) (f, ps, p)
      → Contains (moves_of first) (f, ps, p) ⊎ ((m : MoveParts) × Contains (moves_of second) m × (shifted_move first.states m ≡ (f, ps, p)))
  cases_of_move f ps p c =
      move_cases first second are.beside are.sides first_named second_named f ps p (move_was are.beside both crossing_steps are.more (f, ps, p) c)

  move_of_first : (m : MoveParts) → Contains (moves_of first) m → Contains (moves_of both) m
  move_of_first m c = move_old are.beside both crossing_steps are.more m (move_first first second are.beside are.sides first_named second_named m c)

  move_of_second : (m : MoveParts) → Contains (moves_of second) m → Contains (moves_of both) (shifted_move first.states m)
  move_of_second m c =
      move_old are.beside both crossing_steps are.more (shifted_move first.states m) (move_second first second are.beside are.sides first_named second_named m c)

  step_of_first : (o q : ℕ) → Contains first.silent.items (o, q) → Contains both.silent.items (o, q)
  step_of_first o q c = silent_old are.beside both crossing_steps are.more o q (step_first first second are.beside are.sides first_named second_named (o, q) c)

  step_of_second : (o q : ℕ) → Contains second.silent.items (o, q) → Contains both.silent.items (o + first.states, q + first.states)
  step_of_second o q c =
      silent_old are.beside both crossing_steps are.more (o + first.states) (q + first.states)
      (step_second first second are.beside are.sides first_named second_named (o, q) c)

  step_across : (c : ℕ × ℕ) → Contains crossing c → Contains both.silent.items (crossing_step first.states c)
  step_across c h =
      silent_new are.beside both crossing_steps are.more c.0 (c.1 + first.states) (Contains-map (crossing_step first.states) crossing c h)

  -- what a silent move is
  abbrev CasesOfStep : ℕ → ℕ → Type 0
  CasesOfStep o q =
      StepCases first second are.beside are.sides first_named second_named o q ⊎ ((c : ℕ × ℕ) × Contains crossing c × (crossing_step first.states c ≡ (o, q)))

  cases_of_step : (o q : ℕ) → Contains both.silent.items (o, q) → CasesOfStep o q
  cases_of_step o q c = elim (silent_cases are.beside both crossing_steps are.more o q c) [
    | inl old ↦ inl (step_cases first second are.beside are.sides first_named second_named o q old)
    | inr new ↦ inr (Contains-map_from (crossing_step first.states) crossing (o, q) new)
  ]

  low_and_high : (p k q : ℕ) → p < k → q + k ≡ p → ⊥
  low_and_high p k q low e = omega arith

  same_shifted : (p q k : ℕ) → p + k ≡ q + k → p ≡ q
  same_shifted p q k e = omega arith

  first_low : (f : ℕ) (ps : List ℕ) (p : ℕ) → Contains (moves_of first) (f, ps, p) → p < first.states
  first_low f ps p c = target_low first second are.beside are.sides first_named second_named f ps p c

  kids_low : (f : ℕ) (ps : List ℕ) (p : ℕ) → Contains (moves_of first) (f, ps, p) → (o : ℕ) → Contains ps o → o < first.states
  kids_low f ps p c o d = first_named.moves f ps p c o (Contains-behind p ps o d)

  -- from the numbers to the two kinds of states
  second_move : (f : ℕ) (ps : List ℕ) (p r : ℕ) → r + first.states ≡ p → (m : MoveParts) → Contains (moves_of second) m → shifted_move first.states m ≡ (f, ps, p)
      → (qs : List (ℕ ⊎ ℕ)) × AllRelated (IsNumber first.states) ps qs × Joined.HasMove f qs (inr r)
  second_move f ps p r e m c is = (
    map inr m.1,
    subst (λ os. AllRelated (IsNumber first.states) os (map inr m.1)) (ap (λ (k : MoveParts). k.1) is) (all_second first.states m.1),
    (
      m.1,
      refl,
      subst (λ (g : ℕ). Contains (moves_of second) (g, m.1, r)) (ap (λ (k : MoveParts). k.0) is)
          (subst (λ v. Contains (moves_of second) (m.0, m.1, v)) (same_shifted _ _ first.states (ap (λ (k : MoveParts). k.2) is ∙ sym e)) c),
    ),
  )

  move_along : (f : ℕ) (ps : List ℕ) (p : ℕ) (q : ℕ ⊎ ℕ) → IsNumber first.states p q → Contains (moves_of both) (f, ps, p)
      → (qs : List (ℕ ⊎ ℕ)) × AllRelated (IsNumber first.states) ps qs × Joined.HasMove f qs q
  move_along f ps p (inl q) e m = elim (cases_of_move f ps p m) [
    | inl here ↦ (
      map inl ps,
      all_first first.states ps (kids_low f ps p here),
      (ps, refl, subst (λ v. Contains (moves_of first) (f, ps, v)) e.0 here),
    )
    | inr w ↦ absurd (low_and_high p first.states _ e.1 (ap (λ (k : MoveParts). k.2) w.2))
  ]
  move_along f ps p (inr q) e m = elim (cases_of_move f ps p m) [
    | inl here ↦ absurd (low_and_high p first.states q (first_low f ps p here) e)
    | inr w ↦ second_move f ps p q e w.0 w.1 w.2
  ]

  silent_along : (o p : ℕ) (q : ℕ ⊎ ℕ) → IsNumber first.states p q → Contains both.silent.items (o, p)
      → TakesAll Joined q ⊎ ((k : ℕ ⊎ ℕ) × IsNumber first.states o k × Joined.HasSilentMove k q)
  silent_along o p (inl q) e m = elim (cases_of_step o p m) [
    | inl (inl here) ↦ inr (inl o, (refl, (first_named.silent o p here).0), subst (λ v. Contains first.silent.items (o, v)) e.0 here)
    | inl (inr (inl w)) ↦ absurd (low_and_high p first.states _ e.1 (ap (λ (k : ℕ × ℕ). k.1) w.2))
    | inl (inr (inr w)) ↦ absurd (low_and_high p first.states _ e.1 w.3)
    | inr w ↦ absurd (low_and_high p first.states _ e.1 (ap (λ (k : ℕ × ℕ). k.1) w.2))
  ]
  silent_along o p (inr q) e m = elim (cases_of_step o p m) [
    | inl (inl here) ↦ absurd (low_and_high p first.states q (first_named.silent o p here).1 e)
    | inl (inr (inl w)) ↦ inr (
      inr w.0.0,
      ap (λ (s : ℕ × ℕ). s.0) w.2,
      subst (λ v. Contains second.silent.items (w.0.0, v)) (same_shifted _ _ first.states (ap (λ (s : ℕ × ℕ). s.1) w.2 ∙ sym e)) w.1,
    )
    | inl (inr (inr w)) ↦ inl (λ u. ByAny (w.2 ∙ ap Some (same_shifted _ _ first.states (w.3 ∙ sym e))))
    | inr w ↦
        let from : w.0.0 ≡ o = ap (λ (s : ℕ × ℕ). s.0) w.2 in
        let low : w.0.0 < first.states = (across w.0 w.1).0 in
        inr (
          inl o,
          (refl, omega (arith, from, low)),
          subst (λ v. Contains crossing (v, q)) from
              (subst (λ v. Contains crossing (w.0.0, v)) (same_shifted _ _ first.states (ap (λ (s : ℕ × ℕ). s.1) w.2 ∙ sym e)) w.1),
        )
  ]

  any_along : (p : ℕ) (q : ℕ ⊎ ℕ) → IsNumber first.states p q → both.any ≡ Some p → TakesAll Joined q
  any_along p (inl q) e h u = elim (joined_any_cases first.states first.any second.any p (sym any_is ∙ h)) [
    | inl here ↦ ByAny (here ∙ ap Some e.0)
    | inr w ↦ absurd (low_and_high p first.states _ e.1 w.2)
  ]
  any_along p (inr q) e h u = elim (joined_any_cases first.states first.any second.any p (sym any_is ∙ h)) [
    | inl here ↦ absurd (low_and_high p first.states q (first_named.any p here) e)
    | inr w ↦ ByAny (w.1 ∙ ap Some (same_shifted _ _ first.states (w.2 ∙ sym e)))
  ]

  -- and back
  move_back : (f : ℕ) (ps : List (ℕ ⊎ ℕ)) (p : ℕ ⊎ ℕ) (q : ℕ) → IsNumbered first.states p q → Joined.HasMove f ps p
      → (qs : List ℕ) × AllRelated (IsNumbered first.states) ps qs × Contains (moves_of both) (f, qs, q)
  move_back f ps (inl p) q e m = (
    m.0,
    subst (λ os. AllRelated (IsNumbered first.states) os m.0) (sym m.1) (all_first_back first.states m.0 (kids_low f m.0 p m.2)),
    subst (λ v. Contains (moves_of both) (f, m.0, v)) (sym e.0) (move_of_first (f, m.0, p) m.2),
  )
  move_back f ps (inr p) q e m = (
    map (λ o. o + first.states) m.0,
    subst (λ os. AllRelated (IsNumbered first.states) os (map (λ o. o + first.states) m.0)) (sym m.1) (all_second_back first.states m.0),
    subst (λ v. Contains (moves_of both) (f, map (λ o. o + first.states) m.0, v)) e (move_of_second (f, m.0, p) m.2),
  )

  any_taken_high : (p : ℕ) (t : Tree) → second.any ≡ Some p → Takes (automaton_of both) t (p + first.states)
  any_taken_high p t h =
      Takes-more are.beside both crossing_steps are.more (any_taken first second are.beside are.sides first_named second_named p t h)

  any_back : (p : ℕ ⊎ ℕ) (q : ℕ) → IsNumbered first.states p q → Joined.IsAny p → TakesAll (automaton_of both) q
  any_back (inl p) q e h u = ByAny (any_is ∙ joined_any_first first.states first.any second.any q (h ∙ ap Some (sym e.0)))
  any_back (inr p) q e h u = subst (Takes (automaton_of both) u) e (any_taken_high p u h)

  silent_back : (o p : ℕ ⊎ ℕ) (q : ℕ) → IsNumbered first.states p q → Joined.HasSilentMove o p
      → TakesAll (automaton_of both) q ⊎ ((k : ℕ) × IsNumbered first.states o k × Contains both.silent.items (k, q))
  silent_back (inl o) (inl p) q e m = inr (
    o,
    (refl, (first_named.silent o p m).0),
    subst (λ v. Contains both.silent.items (o, v)) (sym e.0) (step_of_first o p m),
  )
  silent_back (inl o) (inr p) q e m = inr (
    o,
    (refl, (across (o, p) m).0),
    subst (λ v. Contains both.silent.items (o, v)) e (step_across (o, p) m),
  )
  silent_back (inr o) (inl p) q e m = absurd m
  silent_back (inr o) (inr p) q e m = inr (
    o + first.states,
    refl,
    subst (λ v. Contains both.silent.items (o + first.states, v)) e (step_of_second o p m),
  )

  pub Takes-across : (t : Tree) (p : ℕ) (q : ℕ ⊎ ℕ) → IsNumber first.states p q → Takes (automaton_of both) t p ↔ Takes Joined t q
  Takes-across t p q e = (
    (λ h. Takes-along (automaton_of both) Joined (IsNumber first.states) move_along silent_along any_along h q e),
    (λ h. Takes-along Joined (automaton_of both) (IsNumbered first.states) move_back silent_back any_back h p e),
  )

  pub Takes-across_first : (t : Tree) (q : ℕ) → q < first.states → Takes (automaton_of both) t q ↔ Takes Joined t (inl q)
  Takes-across_first t q low = Takes-across t q (inl q) (refl, low)

  pub Takes-across_second : (t : Tree) (q : ℕ) → Takes (automaton_of both) t (q + first.states) ↔ Takes Joined t (inr q)
  Takes-across_second t q = Takes-across t (q + first.states) (inr q) refl

  pub FitsAutomaton-across : (signature : Signature) → FitsAutomaton signature (automaton_of first) → FitsAutomaton signature (automaton_of second)
      → FitsAutomaton signature (automaton_of both)
  FitsAutomaton-across signature fits_first fits_second =
      FitsAutomaton-more are.beside both crossing_steps are.more signature
      (FitsAutomaton-beside first second are.beside are.sides first_named second_named signature fits_first fits_second)

  pub NamesItsStates-across : NamesItsStates both
  NamesItsStates-across =
      NamesItsStates-more are.beside both crossing_steps are.more (NamesItsStates-beside first second are.beside are.sides first_named second_named)
      (λ o q c.
      let w = Contains-map_from (crossing_step first.states) crossing (o, q) c in
      let low = across w.0 w.1 in
      let source : w.0.0 ≡ o = ap (λ (s : ℕ × ℕ). s.0) w.2 in
      let target : w.0.1 + first.states ≡ q = ap (λ (s : ℕ × ℕ). s.1) w.2 in
      (omega (arith, low.0, source, are.sides.states), omega (arith, low.1, target, are.sides.states)))
