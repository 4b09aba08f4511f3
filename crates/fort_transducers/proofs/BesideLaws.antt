-- Of two automata side by side, the states of the first take what they took, and so do those of the second at their new numbers.
use Rattle.std.proofs.Common.{◌≡◌, ◌⊎◌, ℕ, ◌+◌, ◌<◌, List, [], ◌∷◌, ◌++◌, map, ap, sym, ◌∙◌, refl, subst, arith, Option, Some, None, inl, inr, length}
use Rattle.std.specs.Prelude.{Contains}
use Rattle.std.proofs.lemmas.List.Elements.{Contains-append_left, Contains-append_right, Contains-append_cases}
use Rattle.std.proofs.lemmas.List.{length-map}
use Rattle.fort_theory.specs.Trees.{Tree}
use Rattle.fort_theory.specs.Signatures.{Signature, arity_of}
use Rattle.fort_theory.proofs.Members.{Contains-head, Contains-behind, Contains-cons_cases, Contains-none}
use Rattle.fort_theory.proofs.Lists.{Contains-map, Contains-map_from, none-some, some-injective}
use Rattle.fort_reachability.specs.TreeAutomata.{Takes, ByAny, BySilentMove, FitsAutomaton}
use Rattle.fort_tree_automata.specs.declared.nta.Nta.{Nta}
use Rattle.fort_tree_automata.specs.NtaView.{MoveParts, moves_of, automaton_of, NamesItsStates}
use Rattle.fort_transducers.specs.Unions.{AreBeside, any_steps, joined_any, shifted_move, shifted_step}
use Rattle.fort_transducers.specs.UnionStates.{HasBothStates}
use Rattle.fort_transducers.proofs.TakesAlong.{AllRelated, Takes-along}

-- the first state number of the second automaton is past those of the first
abbrev IsKept : ℕ → ℕ → ℕ → Type 0
IsKept n p q = (p ≡ q) × (p < n)

abbrev IsShifted : ℕ → ℕ → ℕ → Type 0
IsShifted n p q = p + n ≡ q

all_kept : (n : ℕ) (qs : List ℕ) → ((p : ℕ) → Contains qs p → p < n) → AllRelated (IsKept n) qs qs
all_kept n [] h = tt
all_kept n (q ∷ qs) h = ((refl, h q (Contains-head q qs)), all_kept n qs (λ p c. h p (Contains-behind q qs p c)))

all_shifted : (n : ℕ) (qs : List ℕ) → AllRelated (IsShifted n) qs (map (λ q. q + n) qs)
all_shifted n [] = tt
all_shifted n (q ∷ qs) = (refl, all_shifted n qs)

all_shifted_back : (n : ℕ) (qs : List ℕ) → AllRelated (λ p q. IsShifted n q p) (map (λ q. q + n) qs) qs
all_shifted_back n [] = tt
all_shifted_back n (q ∷ qs) = (refl, all_shifted_back n qs)

pub joined_any_cases : (n : ℕ) (a b : Option ℕ) (q : ℕ) → joined_any n a b ≡ Some q → (a ≡ Some q) ⊎ ((p : ℕ) × (b ≡ Some p) × (p + n ≡ q))
joined_any_cases n (Some x) b q h = inl h
joined_any_cases n None None q h = absurd (none-some h)
joined_any_cases n None (Some x) q h = inr (x, refl, some-injective h)

pub joined_any_first : (n : ℕ) (a b : Option ℕ) (q : ℕ) → a ≡ Some q → joined_any n a b ≡ Some q
joined_any_first n None b q h = absurd (none-some h)
joined_any_first n (Some x) b q h = h

any_steps_cases : (n : ℕ) (a b : Option ℕ) (o q : ℕ) → Contains (any_steps n a b) (o, q) → (a ≡ Some o) × (p : ℕ) × (b ≡ Some p) × (p + n ≡ q)
any_steps_cases n None b o q c = absurd (Contains-none (o, q) c)
any_steps_cases n (Some x) None o q c = absurd (Contains-none (o, q) c)
any_steps_cases n (Some x) (Some y) o q c = elim (Contains-cons_cases (x, y + n) [] (o, q) c) [
  | inl e ↦ (ap (λ (s : ℕ × ℕ). Some s.0) e, y, refl, ap (λ (s : ℕ × ℕ). s.1) e)
  | inr there ↦ absurd (Contains-none (o, q) there)
]

-- the second's takes every term: by itself, or by a silent move from the first's
pub any_of_second : (n : ℕ) (a b : Option ℕ) (p : ℕ) → b ≡ Some p → (joined_any n a b ≡ Some (p + n)) ⊎ ((o : ℕ) × (a ≡ Some o) × Contains (any_steps n a b) (o, p + n))
any_of_second n None None p h = absurd (none-some h)
any_of_second n None (Some y) p h = inl (ap (λ v. Some (v + n)) (some-injective h))
any_of_second n (Some x) None p h = absurd (none-some h)
any_of_second n (Some x) (Some y) p h =
    inr (x, refl, subst (λ v. Contains {X = ℕ × ℕ} ((x, y + n) ∷ []) (x, v + n)) (some-injective h) (Contains-head (x, y + n) []))

module _ (first second both : Nta) (beside : AreBeside first second both) (first_named : NamesItsStates first) (second_named : NamesItsStates second) where
  pub move_cases : (f : ℕ) (ps : List ℕ) (p : ℕ) → Contains (moves_of both) (f, ps, p)
      → Contains (moves_of first) (f, ps, p) ⊎ ((m : MoveParts) × Contains (moves_of second) m × (shifted_move first.states m ≡ (f, ps, p)))
  move_cases f ps p c =
      elim (Contains-append_cases (moves_of first) (map (shifted_move first.states) (moves_of second)) (f, ps, p) (subst (λ (ms : List MoveParts). Contains ms (f, ps, p)) beside.moves c)) [
        | inl here ↦ inl here
        | inr there ↦ inr (Contains-map_from (shifted_move first.states) (moves_of second) (f, ps, p) there)
      ]

  pub move_first : (m : MoveParts) → Contains (moves_of first) m → Contains (moves_of both) m
  move_first m c =
      subst (λ (ms : List MoveParts). Contains ms m) (sym beside.moves) (Contains-append_left (moves_of first) (map (shifted_move first.states) (moves_of second)) m c)

  pub move_second : (m : MoveParts) → Contains (moves_of second) m → Contains (moves_of both) (shifted_move first.states m)
  move_second m c =
      subst (λ (ms : List MoveParts). Contains ms (shifted_move first.states m)) (sym beside.moves)
      (Contains-append_right (moves_of first) (map (shifted_move first.states) (moves_of second)) (shifted_move first.states m)
      (Contains-map (shifted_move first.states) (moves_of second) m c))

  pub step_second : (m : ℕ × ℕ) → Contains second.silent.items m → Contains both.silent.items (shifted_step first.states m)
  step_second m c =
      subst (λ (ms : List (ℕ × ℕ)). Contains ms (shifted_step first.states m)) (sym beside.silent)
      (Contains-append_left (first.silent.items ++ map (shifted_step first.states) second.silent.items) (any_steps first.states first.any second.any) (shifted_step first.states m)
      (Contains-append_right first.silent.items (map (shifted_step first.states) second.silent.items) (shifted_step first.states m)
      (Contains-map (shifted_step first.states) second.silent.items m c)))

  pub step_first : (m : ℕ × ℕ) → Contains first.silent.items m → Contains both.silent.items m
  step_first m c =
      subst (λ (ms : List (ℕ × ℕ)). Contains ms m) (sym beside.silent)
      (Contains-append_left (first.silent.items ++ map (shifted_step first.states) second.silent.items) (any_steps first.states first.any second.any) m
      (Contains-append_left first.silent.items (map (shifted_step first.states) second.silent.items) m c))

  step_any : (m : ℕ × ℕ) → Contains (any_steps first.states first.any second.any) m → Contains both.silent.items m
  step_any m c =
      subst (λ (ms : List (ℕ × ℕ)). Contains ms m) (sym beside.silent)
      (Contains-append_right (first.silent.items ++ map (shifted_step first.states) second.silent.items) (any_steps first.states first.any second.any) m c)

  abbrev pub StepCases : ℕ → ℕ → Type 0
  StepCases o q =
      Contains first.silent.items (o, q) ⊎ (((m : ℕ × ℕ) × Contains second.silent.items m × (shifted_step first.states m ≡ (o, q)))
      ⊎ ((first.any ≡ Some o) × (p : ℕ) × (second.any ≡ Some p) × (p + first.states ≡ q)))

  pub step_cases : (o q : ℕ) → Contains both.silent.items (o, q) → StepCases o q
  step_cases o q c =
      elim (Contains-append_cases (first.silent.items ++ map (shifted_step first.states) second.silent.items) (any_steps first.states first.any second.any) (o, q)
      (subst (λ (ms : List (ℕ × ℕ)). Contains ms (o, q)) beside.silent c)) [
        | inl listed ↦ elim (Contains-append_cases first.silent.items (map (shifted_step first.states) second.silent.items) (o, q) listed) [
          | inl here ↦ inl here
          | inr there ↦ inr (inl (Contains-map_from (shifted_step first.states) second.silent.items (o, q) there))
        ]
        | inr there ↦ inr (inr (any_steps_cases first.states first.any second.any o q there))
      ]

  pub target_low : (f : ℕ) (ps : List ℕ) (p : ℕ) → Contains (moves_of first) (f, ps, p) → p < first.states
  target_low f ps p c = first_named.moves f ps p c p (Contains-head p ps)

  -- into the first's states and out of them
  pub first-taken : (t : Tree) (q : ℕ) → q < first.states → Takes (automaton_of first) t q → Takes (automaton_of both) t q
  first-taken t q low h =
      Takes-along (automaton_of first) (automaton_of both) (IsKept first.states)
      (λ f ps p r e m. (
        ps,
        all_kept first.states ps (λ o c. first_named.moves f ps p m o (Contains-behind p ps o c)),
        subst (λ v. Contains (moves_of both) (f, ps, v)) e.0 (move_first (f, ps, p) m),
      ))
      (λ o p r e m. inr (o, (refl, (first_named.silent o p m).0), subst (λ v. Contains both.silent.items (o, v)) e.0 (step_first (o, p) m)))
      (λ p r e h t. ByAny (beside.any ∙ joined_any_first first.states first.any second.any r (h ∙ ap Some e.0)))
      h q (refl, low)

  no_first : (p n q : ℕ) → p < n → q + n ≡ p → ⊥
  no_first p n q low e = omega arith

  pub first-from_taken : (t : Tree) (q : ℕ) → q < first.states → Takes (automaton_of both) t q → Takes (automaton_of first) t q
  first-from_taken t q low h =
      Takes-along (automaton_of both) (automaton_of first) (IsKept first.states)
      (λ f ps p r e m. elim (move_cases f ps p m) [
        | inl here ↦ (
          ps,
          all_kept first.states ps (λ o c. first_named.moves f ps p here o (Contains-behind p ps o c)),
          subst (λ v. Contains (moves_of first) (f, ps, v)) e.0 here,
        )
        | inr w ↦ absurd (no_first p first.states _ e.1 (ap (λ (m : MoveParts). m.2) w.2))
      ])
      (λ o p r e m. elim (step_cases o p m) [
        | inl here ↦ inr (o, (refl, (first_named.silent o p here).0), subst (λ v. Contains first.silent.items (o, v)) e.0 here)
        | inr (inl w) ↦ absurd (no_first p first.states _ e.1 (ap (λ (m : ℕ × ℕ). m.1) w.2))
        | inr (inr w) ↦ absurd (no_first p first.states _ e.1 w.3)
      ])
      (λ p r e h t. elim (joined_any_cases first.states first.any second.any p (sym beside.any ∙ h)) [
        | inl here ↦ ByAny (here ∙ ap Some e.0)
        | inr w ↦ absurd (no_first p first.states _ e.1 w.2)
      ])
      h q (refl, low)

  -- the second's state takes every term
  pub any_taken : (p : ℕ) (t : Tree) → second.any ≡ Some p → Takes (automaton_of both) t (p + first.states)
  any_taken p t h = elim (any_of_second first.states first.any second.any p h) [
    | inl e ↦ ByAny (beside.any ∙ e)
    | inr w ↦ BySilentMove (step_any (w.0, p + first.states) w.2) (ByAny (beside.any ∙ joined_any_first first.states first.any second.any w.0 w.1))
  ]

  pub second-taken : (t : Tree) (q : ℕ) → Takes (automaton_of second) t q → Takes (automaton_of both) t (q + first.states)
  second-taken t q h =
      Takes-along (automaton_of second) (automaton_of both) (IsShifted first.states)
      (λ f ps p r e m. (
        map (λ o. o + first.states) ps,
        all_shifted first.states ps,
        subst (λ v. Contains (moves_of both) (f, map (λ o. o + first.states) ps, v)) e (move_second (f, ps, p) m),
      ))
      (λ o p r e m. inr (o + first.states, refl, subst (λ v. Contains both.silent.items (o + first.states, v)) e (step_second (o, p) m)))
      (λ p r e h t. subst (Takes (automaton_of both) t) e (any_taken p t h))
      h (q + first.states) refl

  same_shifted : (p q n : ℕ) → p + n ≡ q + n → p ≡ q
  same_shifted p q n e = omega arith

  second_move : (f : ℕ) (ps : List ℕ) (p r : ℕ) → r + first.states ≡ p → (m : MoveParts) → Contains (moves_of second) m → shifted_move first.states m ≡ (f, ps, p)
      → (qs : List ℕ) × AllRelated (λ o q. IsShifted first.states q o) ps qs × Contains (moves_of second) (f, qs, r)
  second_move f ps p r e m c is = (
    m.1,
    subst (λ os. AllRelated (λ o q. IsShifted first.states q o) os m.1) (ap (λ (n : MoveParts). n.1) is) (all_shifted_back first.states m.1),
    subst (λ (g : ℕ). Contains (moves_of second) (g, m.1, r)) (ap (λ (n : MoveParts). n.0) is)
        (subst (λ v. Contains (moves_of second) (m.0, m.1, v)) (same_shifted _ _ first.states (ap (λ (n : MoveParts). n.2) is ∙ sym e)) c),
  )

  pub second-from_taken : (t : Tree) (q : ℕ) → Takes (automaton_of both) t (q + first.states) → Takes (automaton_of second) t q
  second-from_taken t q h =
      Takes-along (automaton_of both) (automaton_of second) (λ p r. IsShifted first.states r p)
      (λ f ps p r e m. elim (move_cases f ps p m) [
        | inl here ↦ absurd (no_first _ first.states _ (target_low f ps p here) e)
        | inr w ↦ second_move f ps p r e w.0 w.1 w.2
      ])
      (λ o p r e m. elim (step_cases o p m) [
        | inl here ↦ absurd (no_first _ first.states _ (first_named.silent o p here).1 e)
        | inr (inl w) ↦ inr (
          w.0.0,
          ap (λ (s : ℕ × ℕ). s.0) w.2,
          subst (λ v. Contains second.silent.items (w.0.0, v)) (same_shifted _ _ first.states (ap (λ (s : ℕ × ℕ). s.1) w.2 ∙ sym e)) w.1,
        )
        | inr (inr w) ↦ inl (λ u. ByAny (w.2 ∙ ap Some (same_shifted _ _ first.states (w.3 ∙ sym e))))
      ])
      (λ p r e h u. elim (joined_any_cases first.states first.any second.any p (sym beside.any ∙ h)) [
        | inl here ↦ absurd (no_first _ first.states _ (first_named.any p here) e)
        | inr w ↦ ByAny (w.1 ∙ ap Some (same_shifted _ _ first.states (w.2 ∙ sym e)))
      ])
      h q refl

  kids_low : (qs : List ℕ) (p : ℕ) → ((q : ℕ) → Contains qs q → q < second.states) → Contains (map (λ q. q + first.states) qs) p → p < both.states
  kids_low qs p low c =
      let w = Contains-map_from (λ q. q + first.states) qs p c in
      let b = low w.0 w.1 in
      let is : w.0 + first.states ≡ p = w.2 in
      omega (arith, b, is, beside.states)

  move_low : (m : MoveParts) → Contains (moves_of second) m → (p : ℕ) → Contains ((m.2 + first.states) ∷ map (λ q. q + first.states) m.1) p → p < both.states
  move_low m c p there = kids_low (m.2 ∷ m.1) p (λ q d. second_named.moves m.0 m.1 m.2 c q d) there

  pub NamesItsStates-beside : NamesItsStates both
  NamesItsStates-beside = record {
    any = λ q h. elim (joined_any_cases first.states first.any second.any q (sym beside.any ∙ h)) [
      | inl here ↦ let low = first_named.any q here in omega (arith, low, beside.states)
      | inr w ↦ let low = second_named.any w.0 w.1 in omega (arith, low, w.2, beside.states)
    ];
    moves = λ f qs q m p c. elim (move_cases f qs q m) [
      | inl here ↦ let low = first_named.moves f qs q here p c in omega (arith, low, beside.states)
      | inr w ↦ move_low w.0 w.1 p
          (subst (λ (n : MoveParts). Contains (n.2 ∷ n.1) p) (sym w.2) c)
    ];
    silent = λ o q m. elim (step_cases o q m) [
      | inl here ↦ let low = first_named.silent o q here in (omega (arith, low.0, beside.states), omega (arith, low.1, beside.states))
      | inr (inl w) ↦
          let low = second_named.silent w.0.0 w.0.1 w.1 in
          let source : w.0.0 + first.states ≡ o = ap (λ (s : ℕ × ℕ). s.0) w.2 in
          let target : w.0.1 + first.states ≡ q = ap (λ (s : ℕ × ℕ). s.1) w.2 in
          (omega (arith, low.0, source, beside.states), omega (arith, low.1, target, beside.states))
      | inr (inr w) ↦
          let low = first_named.any o w.0 in
          let high = second_named.any w.1 w.2 in
          (omega (arith, low, beside.states), omega (arith, high, w.3, beside.states))
    ];
  }

  pub FitsAutomaton-beside : (signature : Signature) → FitsAutomaton signature (automaton_of first) → FitsAutomaton signature (automaton_of second)
      → FitsAutomaton signature (automaton_of both)
  FitsAutomaton-beside signature fits_first fits_second f qs q m = elim (move_cases f qs q m) [
    | inl here ↦ fits_first f qs q here
    | inr w ↦
        let e : arity_of signature w.0.0 ≡ Some (length w.0.1) = fits_second w.0.0 w.0.1 w.0.2 w.1 in
        let kids : map (λ o. o + first.states) w.0.1 ≡ qs = ap (λ (k : MoveParts). k.1) w.2 in
        ap (arity_of signature) (sym (ap (λ (k : MoveParts). k.0) w.2)) ∙ (e ∙ ap Some (sym (length-map w.0.1 (λ o. o + first.states)) ∙ ap length kids))
  ]

  pub HasBothStates-beside : HasBothStates first second both
  HasBothStates-beside = record {
    kept = λ t q low. (first-from_taken t q low, first-taken t q low);
    moved = λ t q. (second-from_taken t q, second-taken t q);
    fits = FitsAutomaton-beside;
  }
