-- Of two transducers side by side, the one relates what one of the two relates.
use Rattle.std.proofs.Common.{◌≡◌, ◌↔◌, ◌⊎◌, ℕ, ◌+◌, List, ◌++◌, map, ap, sym, subst, arith, inl, inr}
use Rattle.std.specs.Prelude.{Contains}
use Rattle.std.proofs.lemmas.List.Elements.{Contains-append_left, Contains-append_right, Contains-append_cases}
use Rattle.fort_theory.specs.Trees.{Tree}
use Rattle.fort_theory.specs.Signatures.{Signature}
use Rattle.fort_theory.proofs.Lists.{Contains-map, Contains-map_from}
use Rattle.fort_reachability.specs.TreeAutomata.{Takes}
use Rattle.fort_reachability.specs.Transducers.{Transduces}
use Rattle.fort_tree_automata.specs.NtaView.{automaton_of}
use Rattle.fort_transducers.specs.declared.agtt.Agtt.{Agtt}
use Rattle.fort_transducers.specs.AgttView.{NamesItsStates, transducer_of}
use Rattle.fort_transducers.specs.Unions.{AreBeside}
use Rattle.fort_transducers.proofs.BesideLaws.{NamesItsStates-beside, first-taken, first-from_taken, second-taken, second-from_taken}

abbrev pub shifted_pair : ℕ → ℕ → ℕ × ℕ → ℕ × ℕ
shifted_pair n m p = (p.0 + n, p.1 + m)

module _ (first second both : Agtt) (first_named : NamesItsStates first) (second_named : NamesItsStates second)
    (left : AreBeside first.left second.left both.left) (right : AreBeside first.right second.right both.right)
    (pairs : both.pairs.items ≡ first.pairs.items ++ map (shifted_pair first.left.states first.right.states) second.pairs.items) where
  pair_cases : (a b : ℕ) → Contains both.pairs.items (a, b) → Contains first.pairs.items (a, b)
      ⊎ ((p : ℕ × ℕ) × Contains second.pairs.items p × (shifted_pair first.left.states first.right.states p ≡ (a, b)))
  pair_cases a b c =
      elim (Contains-append_cases first.pairs.items (map (shifted_pair first.left.states first.right.states) second.pairs.items) (a, b)
      (subst (λ (ps : List (ℕ × ℕ)). Contains ps (a, b)) pairs c)) [
        | inl here ↦ inl here
        | inr there ↦ inr (Contains-map_from (shifted_pair first.left.states first.right.states) second.pairs.items (a, b) there)
      ]

  pair_first : (p : ℕ × ℕ) → Contains first.pairs.items p → Contains both.pairs.items p
  pair_first p c =
      subst (λ (ps : List (ℕ × ℕ)). Contains ps p) (sym pairs)
      (Contains-append_left first.pairs.items (map (shifted_pair first.left.states first.right.states) second.pairs.items) p c)

  pair_second : (p : ℕ × ℕ) → Contains second.pairs.items p → Contains both.pairs.items (shifted_pair first.left.states first.right.states p)
  pair_second p c =
      subst (λ (ps : List (ℕ × ℕ)). Contains ps (shifted_pair first.left.states first.right.states p)) (sym pairs)
      (Contains-append_right first.pairs.items (map (shifted_pair first.left.states first.right.states) second.pairs.items) (shifted_pair first.left.states first.right.states p)
      (Contains-map (shifted_pair first.left.states first.right.states) second.pairs.items p c))

  union-cases : (signature : Signature) (s t : Tree) → Transduces signature (transducer_of both) s t
      → Transduces signature (transducer_of first) s t ⊎ Transduces signature (transducer_of second) s t
  union-cases signature s t h = elim (pair_cases h.left_state h.right_state h.paired) [
    | inl here ↦
        let low = first_named.pairs h.left_state h.right_state here in
        inl (record {
          left_state = h.left_state;
          right_state = h.right_state;
          paired = here;
          left_taken = first-from_taken first.left second.left both.left left first_named.left second_named.left s h.left_state low.0 h.left_taken;
          right_taken = first-from_taken first.right second.right both.right right first_named.right second_named.right t h.right_state low.1 h.right_taken;
          left_grounded = h.left_grounded;
          right_grounded = h.right_grounded;
        })
    | inr w ↦ inr (record {
      left_state = w.0.0;
      right_state = w.0.1;
      paired = w.1;
      left_taken = second-from_taken first.left second.left both.left left first_named.left second_named.left s w.0.0
          (subst (Takes (automaton_of both.left) s) (sym (ap (λ (p : ℕ × ℕ). p.0) w.2)) h.left_taken);
      right_taken = second-from_taken first.right second.right both.right right first_named.right second_named.right t w.0.1
          (subst (Takes (automaton_of both.right) t) (sym (ap (λ (p : ℕ × ℕ). p.1) w.2)) h.right_taken);
      left_grounded = h.left_grounded;
      right_grounded = h.right_grounded;
    })
  ]

  union-first : (signature : Signature) (s t : Tree) → Transduces signature (transducer_of first) s t → Transduces signature (transducer_of both) s t
  union-first signature s t h =
      let low = first_named.pairs h.left_state h.right_state h.paired in
      record {
        left_state = h.left_state;
        right_state = h.right_state;
        paired = pair_first (h.left_state, h.right_state) h.paired;
        left_taken = first-taken first.left second.left both.left left first_named.left second_named.left s h.left_state low.0 h.left_taken;
        right_taken = first-taken first.right second.right both.right right first_named.right second_named.right t h.right_state low.1 h.right_taken;
        left_grounded = h.left_grounded;
        right_grounded = h.right_grounded;
      }

  union-second : (signature : Signature) (s t : Tree) → Transduces signature (transducer_of second) s t → Transduces signature (transducer_of both) s t
  union-second signature s t h = record {
    left_state = h.left_state + first.left.states;
    right_state = h.right_state + first.right.states;
    paired = pair_second (h.left_state, h.right_state) h.paired;
    left_taken = second-taken first.left second.left both.left left first_named.left second_named.left s h.left_state h.left_taken;
    right_taken = second-taken first.right second.right both.right right first_named.right second_named.right t h.right_state h.right_taken;
    left_grounded = h.left_grounded;
    right_grounded = h.right_grounded;
  }

  pub Transduces-union : (signature : Signature) (s t : Tree)
      → Transduces signature (transducer_of both) s t ↔ (Transduces signature (transducer_of first) s t ⊎ Transduces signature (transducer_of second) s t)
  Transduces-union signature s t = (
    union-cases signature s t,
    λ h. elim h [ inl one ↦ union-first signature s t one | inr one ↦ union-second signature s t one ],
  )

  pub NamesItsStates-union : NamesItsStates both
  NamesItsStates-union = record {
    left = NamesItsStates-beside first.left second.left both.left left first_named.left second_named.left;
    right = NamesItsStates-beside first.right second.right both.right right first_named.right second_named.right;
    pairs = λ a b c. elim (pair_cases a b c) [
      | inl here ↦
          let low = first_named.pairs a b here in
          (omega (arith, low.0, left.states), omega (arith, low.1, right.states))
      | inr w ↦
          let low = second_named.pairs w.0.0 w.0.1 w.1 in
          let is_left : w.0.0 + first.left.states ≡ a = ap (λ (p : ℕ × ℕ). p.0) w.2 in
          let is_right : w.0.1 + first.right.states ≡ b = ap (λ (p : ℕ × ℕ). p.1) w.2 in
          (omega (arith, low.0, left.states, is_left), omega (arith, low.1, right.states, is_right))
    ];
  }
