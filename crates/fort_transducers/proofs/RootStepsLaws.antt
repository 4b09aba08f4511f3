-- The transducer over the patterns of rules, with their places as pairs, relates the root steps.
use Rattle.std.proofs.Common.{◌≡◌, ◌↔◌, ℕ, ◌+◌, ◌<◌, List, [], ◌∷◌, ◌++◌, take, length, get_or, map, sym, ◌∙◌, subst, arith, Some, inl, inr}
use Rattle.std.specs.Prelude.{Contains}
use Rattle.std.proofs.lemmas.List.{take_more, map-append, length-map}
use Rattle.std.proofs.lemmas.List.Elements.{Contains-get_or}
use Rattle.fort_theory.specs.Trees.{Tree}
use Rattle.fort_theory.specs.Signatures.{Signature}
use Rattle.fort_theory.specs.Patterns as theory
use Rattle.fort_theory.specs.PatternOrder.{AreSubpatternsInOrder}
use Rattle.fort_theory.specs.PatternSteps.{PatternStep}
use Rattle.fort_theory.proofs.Members.{Contains-head, Contains-behind, Contains-cons_cases, Contains-none}
use Rattle.fort_theory.proofs.Lists.{Contains-map}
use Rattle.fort_reachability.specs.Transducers.{Transduces}
use Rattle.fort_reachability.proofs.PatternTransducers.{StandForPair, IsPatternTransducer, Transduces-PatternStep}
use Rattle.fort_terms.specs.declared.pattern.Pattern.{Pattern}
use Rattle.fort_terms.specs.PatternView.{as_pair, as_pattern}
use Rattle.fort_tree_automata.specs.PatternMoves.{StandsAt, AreMovesFor}
use Rattle.fort_tree_automata.specs.NtaView.{moves_of}
use Rattle.fort_tree_automata.proofs.PatternMovesLaws.{IsPatternAutomaton-places, StandsAt-below, NamesItsStates-places}
use Rattle.fort_theory.proofs.ClosedPatterns.{subpatterns-self}
use Rattle.fort_transducers.specs.declared.agtt.Agtt.{Agtt}
use Rattle.fort_transducers.specs.AgttView.{NamesItsStates, transducer_of}
use Rattle.fort_transducers.specs.RootSteps.{ArePlaces, HasRootSteps}

-- both sides of a rule are among the patterns
pub sides_among : (rules : List theory.Pair) (lefts rights : List theory.Pattern) → AreSubpatternsInOrder (map (λ pair. pair.0) rules) lefts
    → AreSubpatternsInOrder (map (λ pair. pair.1) rules) rights → (pair : theory.Pair) → Contains rules pair → Contains lefts pair.0 × Contains rights pair.1
sides_among rules lefts rights left right pair c = (
  (left.same pair.0).1 (pair.0, Contains-map (λ (p : theory.Pair). p.0) rules pair c, subpatterns-self pair.0),
  (right.same pair.1).1 (pair.1, Contains-map (λ (p : theory.Pair). p.1) rules pair c, subpatterns-self pair.1),
)

pub ArePlaces-push : (lefts rights : List theory.Pattern) (rules : List theory.Pair) (ps : List (ℕ × ℕ)) (rule : theory.Pair) (p : ℕ × ℕ) → ArePlaces lefts rights rules ps
    → StandsAt lefts p.0 rule.0 → StandsAt rights p.1 rule.1 → ArePlaces lefts rights (rules ++ rule ∷ []) (ps ++ p ∷ [])
ArePlaces-push lefts rights [] [] rule p h left right = (left, right, tt)
ArePlaces-push lefts rights [] (o ∷ ps) rule p h left right = absurd h
ArePlaces-push lefts rights (r ∷ rules) [] rule p h left right = absurd h
ArePlaces-push lefts rights (r ∷ rules) (o ∷ ps) rule p h left right = (h.0, h.1, ArePlaces-push lefts rights rules ps rule p h.2 left right)

-- the places of one more rule
pub ArePlaces-more : (lefts rights : List theory.Pattern) (rules : List (Pattern × Pattern)) (i : ℕ) (rule : Pattern × Pattern) (old new : List (ℕ × ℕ)) (p : ℕ × ℕ)
    → i < length rules → rule ≡ get_or rules i rule → new ≡ old ++ p ∷ [] → ArePlaces lefts rights (map as_pair (take i rules)) old
    → StandsAt lefts p.0 (as_pattern rule.0) → StandsAt rights p.1 (as_pattern rule.1) → ArePlaces lefts rights (map as_pair (take (i + 1) rules)) new
ArePlaces-more lefts rights rules i rule old new p l at is h left right =
    rw (is, take_more rules i rule l, ← at, map-append as_pair (take i rules) (rule ∷ []))
    (ArePlaces-push lefts rights (map as_pair (take i rules)) old (as_pair rule) p h left right)

module _ (lefts rights : List theory.Pattern) where
  -- the rule of a pair of places
  rule_of : (rules : List theory.Pair) (ps : List (ℕ × ℕ)) → ArePlaces lefts rights rules ps → (a b : ℕ) → Contains ps (a, b)
      → (pair : theory.Pair) × Contains rules pair × StandForPair (StandsAt lefts) (StandsAt rights) a b pair
  rule_of [] [] h a b c = absurd (Contains-none (a, b) c)
  rule_of [] (p ∷ ps) h a b c = absurd h
  rule_of (rule ∷ rules) [] h a b c = absurd h
  rule_of (rule ∷ rules) (p ∷ ps) h a b c = elim (Contains-cons_cases p ps (a, b) c) [
    | inl e ↦
        let here : StandForPair (StandsAt lefts) (StandsAt rights) p.0 p.1 rule = record { left = h.0; right = h.1 } in
        (rule, Contains-head rule rules, subst (λ (o : ℕ × ℕ). StandForPair (StandsAt lefts) (StandsAt rights) o.0 o.1 rule) e here)
    | inr there ↦ let w = rule_of rules ps h.2 a b there in (w.0, Contains-behind rule rules w.0 w.1, w.2)
  ]

  places_of : (rules : List theory.Pair) (ps : List (ℕ × ℕ)) → ArePlaces lefts rights rules ps → (pair : theory.Pair) → Contains rules pair
      → (a : ℕ) × (b : ℕ) × Contains ps (a, b) × StandForPair (StandsAt lefts) (StandsAt rights) a b pair
  places_of [] ps h pair c = absurd (Contains-none pair c)
  places_of (rule ∷ rules) [] h pair c = absurd h
  places_of (rule ∷ rules) (p ∷ ps) h pair c = elim (Contains-cons_cases rule rules pair c) [
    | inl e ↦
        let here : StandForPair (StandsAt lefts) (StandsAt rights) p.0 p.1 rule = record { left = h.0; right = h.1 } in
        (p.0, p.1, Contains-head p ps, subst (StandForPair (StandsAt lefts) (StandsAt rights) p.0 p.1) e here)
    | inr there ↦ let w = places_of rules ps h.2 pair there in (w.0, w.1, Contains-behind p ps (w.0, w.1) w.2, w.3)
  ]

module _ (rules : List theory.Pair) (agtt : Agtt) (has : HasRootSteps rules agtt) where
  pub IsPatternTransducer-rules : IsPatternTransducer (transducer_of agtt) (StandsAt has.lefts) (StandsAt has.rights) rules
  IsPatternTransducer-rules = record {
    left = IsPatternAutomaton-places has.lefts agtt.left has.left_states.any has.left_states.moves has.left_states.silent;
    right = IsPatternAutomaton-places has.rights agtt.right has.right_states.any has.right_states.moves has.right_states.silent;
    paired = rule_of has.lefts has.rights rules agtt.pairs.items has.places;
    has_pair = places_of has.lefts has.rights rules agtt.pairs.items has.places;
  }

  pub Transduces-rules : (signature : Signature) (s t : Tree) → Transduces signature (transducer_of agtt) s t ↔ PatternStep signature rules s t
  Transduces-rules signature =
      Transduces-PatternStep signature (transducer_of agtt) (StandsAt has.lefts) (StandsAt has.rights) rules IsPatternTransducer-rules

  pub NamesItsStates-rules : NamesItsStates agtt
  NamesItsStates-rules = record {
    left = NamesItsStates-places has.lefts agtt.left has.left_states.any has.left_states.moves has.left_states.silent has.left_states.states;
    right = NamesItsStates-places has.rights agtt.right has.right_states.any has.right_states.moves has.right_states.silent has.right_states.states;
    pairs = λ a b c.
        let w = rule_of has.lefts has.rights rules agtt.pairs.items has.places a b c in
        let below = StandsAt-below has.lefts a w.0.0 w.2.left in
        let beside = StandsAt-below has.rights b w.0.1 w.2.right in
        (omega (arith, has.left_states.states), omega (arith, has.right_states.states));
  }

pub rule-among : (rules : List (Pattern × Pattern)) (i : ℕ) (rule : Pattern × Pattern) → i < length rules → rule ≡ get_or rules i rule → Contains (map as_pair rules) (as_pair rule)
rule-among rules i rule l at =
    subst (λ (r : Pattern × Pattern). Contains (map as_pair rules) (as_pair r)) (sym at) (Contains-map as_pair rules (get_or rules i rule) (Contains-get_or rules i rule l))

-- made of two automata of patterns
pub HasRootSteps-made : (rules : List theory.Pair) (xs ys : List Pattern) (agtt : Agtt) → AreSubpatternsInOrder (map (λ pair. pair.0) rules) (map as_pattern xs)
    → AreSubpatternsInOrder (map (λ pair. pair.1) rules) (map as_pattern ys) → agtt.left.states ≡ length xs
    → ((q : ℕ) → (agtt.left.any ≡ Some q) ↔ StandsAt (map as_pattern xs) q theory.Any) → AreMovesFor (map as_pattern xs) 0 (map as_pattern xs) (moves_of agtt.left)
    → agtt.left.silent.items ≡ [] → agtt.right.states ≡ length ys → ((q : ℕ) → (agtt.right.any ≡ Some q) ↔ StandsAt (map as_pattern ys) q theory.Any)
    → AreMovesFor (map as_pattern ys) 0 (map as_pattern ys) (moves_of agtt.right) → agtt.right.silent.items ≡ []
    → ArePlaces (map as_pattern xs) (map as_pattern ys) rules agtt.pairs.items → HasRootSteps rules agtt
HasRootSteps-made rules xs ys agtt left right left_states left_any left_moves left_silent right_states right_any right_moves right_silent places = record {
  lefts = map as_pattern xs;
  rights = map as_pattern ys;
  left_patterns = left;
  right_patterns = right;
  left_states = record { states = left_states ∙ sym (length-map xs as_pattern); any = left_any; moves = left_moves; silent = left_silent };
  right_states = record { states = right_states ∙ sym (length-map ys as_pattern); any = right_any; moves = right_moves; silent = right_silent };
  places = places;
}
