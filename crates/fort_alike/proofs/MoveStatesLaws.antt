-- The states that a node has by the moves of an automaton are those to which the automaton takes the tree; a move's pattern is tested by the bits of the children's labels.
use Rattle.std.specs.Prelude.{◌≡◌, ◌⊎◌, ℕ, suc, ◌+◌, ◌<◌, ◌≤◌, List, [], ◌∷◌, map, length, drop, Contains, Option, None, Some, Bool, false, Decides, ◌&&◌, ◌||◌, ◌==◌, refl}
use Rattle.std.specs.List.{list_any}
use Rattle.std.proofs.Common.{sym, ap, subst, ◌∙◌, arith, inl, inr}
use Rattle.std.proofs.lemmas.Bool.Decides.{Decides-eqb, Decides-like, Decides-and, Decides-or}
use Rattle.fort_theory.specs.Trees.{Tree, Trees, Node, Nil, More, tree_count}
use Rattle.fort_theory.specs.Signatures.{Signature, IsGround, arity_of}
use Rattle.fort_theory.proofs.Lists.{some-injective}
use Rattle.fort_theory.proofs.Members.{Contains-none, Contains-cons_cases, Contains-head, Contains-behind}
use Rattle.fort_reachability.specs.TreeAutomata.{Automaton, Takes, ByAny, ByMove, BySilentMove, AllTaken, NoneTaken, MoreTaken, FitsAutomaton}
use Rattle.fort_tables.specs.BitRows.{has_bit}
use Rattle.fort_alike.specs.PatternNumbers.{PatternNumber, all_at, number_inside}
use Rattle.fort_alike.proofs.Bits.{Decides-true, Decides-false, Decides-and_then}
use Rattle.fort_reachability.specs.CompiledNumbers.{TakenTo}
use Rattle.fort_alike.specs.ExpressionStates.{Truths}
use Rattle.fort_alike.specs.ConditionStates.{AreRight, StepsRight}
use Rattle.fort_alike.specs.ExpressionRules.{left_bit, right_bit, states_at}
use Rattle.fort_alike.specs.MoveStates.{all_have, pattern_holds, move_states}
use Rattle.fort_alike.specs.AutomatonMoves.{LeadsTo, NoMoves, MoreMoves, AreMovesOf}

-- some element
abbrev pub SomeOf : {A : Type 0} → (A → Type 0) → List A → Type 0
SomeOf {A = A} P xs = (x : A) × Contains xs x × P x

SomeOf-cases : {A : Type 0} (P : A → Type 0) (x : A) (xs : List A) (y : A) → Contains (x ∷ xs) y → P y → P x ⊎ SomeOf P xs
SomeOf-cases P x xs y c h = elim (Contains-cons_cases x xs y c) [ inl e ↦ inl (subst P (sym e) h) | inr k ↦ inr (y, k, h) ]

pub Decides-list_any : {A : Type 0} (test : A → Bool) (P : A → Type 0) (xs : List A) → ((x : A) → Contains xs x → Decides (test x) (P x))
    → Decides (list_any test xs) (SomeOf P xs)
Decides-list_any test P [] h = Decides-false (λ w. Contains-none w.0 w.1)
Decides-list_any test P (x ∷ xs) h =
    Decides-like (test x || list_any test xs)
    (λ w. elim w [ inl a ↦ (x, Contains-head x xs, a) | inr b ↦ (b.0, Contains-behind x xs b.0 b.1, b.2) ])
    (λ w. SomeOf-cases P x xs w.0 w.1 w.2)
    (Decides-or (test x) (list_any test xs) (h x (Contains-head x xs)) (Decides-list_any test P xs (λ y c. h y (Contains-behind x xs y c))))

module _ (automaton : Automaton ℕ) where
  -- a move's pattern at a tree
  abbrev HoldsAt : PatternNumber → Tree → Type 0
  HoldsAt None t = Unit {0}
  HoldsAt (Some w) (Node f ts) = (w.0 ≡ f) × AllTaken automaton ts w.1

  first-taken : {t : Tree} {ts : Trees} {q : ℕ} {qs : List ℕ} → AllTaken automaton (More t ts) (q ∷ qs) → Takes automaton t q × AllTaken automaton ts qs
  first-taken (MoreTaken h hs) = (h, hs)

  onward : {t : Tree} {p q : ℕ} → LeadsTo automaton p q → Takes automaton t p → Takes automaton t q
  onward NoMoves h = h
  onward (MoreMoves l s) h = BySilentMove s (onward l h)

  all_have-right : (count : ℕ) (ts : Trees) (qs : List ℕ) (rows : List Truths) → tree_count ts ≡ length qs → tree_count ts ≤ length rows
      → ((p : ℕ) → Contains qs p → p < count) → AreRight (TakenTo automaton) count ts rows → Decides (all_have qs rows) (AllTaken automaton ts qs)
  all_have-right count Nil [] rows e l low right = Decides-true NoneTaken
  all_have-right count Nil (q ∷ qs) rows e l low right = absurd (omega arith)
  all_have-right count (More t ts) [] rows e l low right = absurd (omega arith)
  all_have-right count (More t ts) (q ∷ qs) [] e l low right = absurd (omega arith)
  all_have-right count (More t ts) (q ∷ qs) (row ∷ rows) e l low right =
      Decides-like (row q && all_have qs rows) (λ w. MoreTaken w.0 w.1) (λ h. first-taken h)
      (Decides-and (row q) (all_have qs rows) (right 0 (omega arith) q (low q (Contains-head q qs)))
      (all_have-right count ts qs rows (omega arith) (omega arith) (λ p c. low p (Contains-behind q qs p c)) (λ j i k m. right (suc j) (omega arith) k m)))

  module _ (count : ℕ) (moves : List (PatternNumber × ℕ)) (leads : ℕ → ℕ → Bool) (are : AreMovesOf automaton count moves leads) where
    -- some move, and from its target silent moves
    abbrev IsWoken : Tree → ℕ → (PatternNumber × ℕ) → Type 0
    IsWoken t k m = HoldsAt m.0 t × LeadsTo automaton m.1 k

    woken-from : {t : Tree} {q : ℕ} → Takes automaton t q → SomeOf (IsWoken t q) moves
    woken-from (ByAny {q = q} h) = ((None, q), (are.any q).0 h, (tt, NoMoves))
    woken-from (ByMove {f = f} {qs = qs} {q = q} m hs) = ((Some (f, qs), q), (are.each f qs q).0 m, ((refl, hs), NoMoves))
    woken-from (BySilentMove s h) = let w = woken-from h in (w.0, w.1, (w.2.0, MoreMoves w.2.1 s))

    taken-at : (row : PatternNumber) (p : ℕ) → Contains moves (row, p) → (t : Tree) → HoldsAt row t → Takes automaton t p
    taken-at None p c t h = ByAny ((are.any p).1 c)
    taken-at (Some w) p c (Node f ts) h = ByMove (subst (λ g. automaton.HasMove g w.1 p) h.0 ((are.each w.0 w.1 p).1 c)) h.1

    module _ (signature : Signature) (fits : FitsAutomaton signature automaton) where
      holds-right : (row : PatternNumber) (p : ℕ) → Contains moves (row, p) → (f : ℕ) (ts : Trees) → IsGround signature (Node f ts) → (rows : List Truths)
          → tree_count ts ≤ length rows → AreRight (TakenTo automaton) count ts rows → Decides (pattern_holds row f rows) (HoldsAt row (Node f ts))
      holds-right None p c f ts g rows enough right = Decides-true tt
      holds-right (Some w) p c f ts g rows enough right =
          Decides-and_then (w.0 == f) (all_have w.1 rows) (Decides-eqb w.0 f)
          (λ e.
          let many : tree_count ts ≡ length w.1 = some-injective (sym g.0 ∙ (ap (arity_of signature) (sym e) ∙ fits w.0 w.1 p ((are.each w.0 w.1 p).1 c))) in
          all_have-right count ts w.1 rows many enough (are.kids_low w.0 w.1 p c) right)

      pub StepsRight-move_states : StepsRight signature (TakenTo automaton) (move_states count moves leads)
      StepsRight-move_states f ts g rows enough right k low =
          Decides-like (list_any (λ (m : PatternNumber × ℕ). pattern_holds m.0 f rows && leads m.1 k) moves)
          (λ w. onward w.2.1 (taken-at w.0.0 w.0.1 w.1 (Node f ts) w.2.0))
          (λ h. woken-from h)
          (Decides-list_any (λ (m : PatternNumber × ℕ). pattern_holds m.0 f rows && leads m.1 k) (IsWoken (Node f ts) k) moves
          (λ m c. Decides-and (pattern_holds m.0 f rows) (leads m.1 k) (holds-right m.0 m.1 c f ts g rows enough right) (are.led m.0 m.1 c k low)))

-- by the bits of labels, from this one on
module _ (base : ℕ) (bits : List ℕ → Truths) (reads : (w : List ℕ) (k : ℕ) → bits w k ≡ has_bit (drop 1 w) (base + k)) where
  all_have-all_at : (qs : List ℕ) (ws : List (List ℕ)) → all_have qs (map bits ws) ≡ all_at base qs ws
  all_have-all_at [] ws = refl
  all_have-all_at (q ∷ qs) [] = refl
  all_have-all_at (q ∷ qs) (w ∷ ws) = ap (λ b. b && all_have qs (map bits ws)) (reads w q) ∙ ap (λ b. has_bit (drop 1 w) (base + q) && b) (all_have-all_at qs ws)

  holds-number_inside : (row : PatternNumber) (f : ℕ) (ws : List (List ℕ)) → pattern_holds row f (map bits ws) ≡ number_inside base row (Some f) ws
  holds-number_inside None f ws = refl
  holds-number_inside (Some w) f ws = ap (λ b. (w.0 == f) && b) (all_have-all_at w.1 ws)

  none-inside : (leads : ℕ → ℕ → Bool) (moves : List (PatternNumber × ℕ)) (ws : List (List ℕ)) (k : ℕ)
      → false ≡ list_any (λ (m : PatternNumber × ℕ). number_inside base m.0 None ws && leads m.1 k) moves
  none-inside leads [] ws k = refl
  none-inside leads (m ∷ ms) ws k = none-inside leads ms ws k

  states-by_bits : (count : ℕ) (moves : List (PatternNumber × ℕ)) (leads : ℕ → ℕ → Bool) (x : Option ℕ) (ws : List (List ℕ)) (k : ℕ)
      → states_at (move_states count moves leads) x (map bits ws) k
      ≡ list_any (λ (m : PatternNumber × ℕ). number_inside base m.0 x ws && leads m.1 k) moves
  states-by_bits count moves leads None ws k = none-inside leads moves ws k
  states-by_bits count moves leads (Some f) ws k = λ i. list_any (λ (m : PatternNumber × ℕ). holds-number_inside m.0 f ws i && leads m.1 k) moves

left-reads : (w : List ℕ) (k : ℕ) → left_bit w k ≡ has_bit (drop 1 w) (0 + k)
left-reads w k = let e : k ≡ 0 + k = omega arith in ap (λ i. has_bit (drop 1 w) i) e

pub pattern_holds-left : (row : PatternNumber) (f : ℕ) (ws : List (List ℕ)) → pattern_holds row f (map left_bit ws) ≡ number_inside 0 row (Some f) ws
pattern_holds-left = holds-number_inside 0 left_bit left-reads

pub pattern_holds-right : (lefts : ℕ) (row : PatternNumber) (f : ℕ) (ws : List (List ℕ))
    → pattern_holds row f (map (right_bit lefts) ws) ≡ number_inside lefts row (Some f) ws
pattern_holds-right lefts = holds-number_inside lefts (right_bit lefts) (λ w k. refl)

-- the states of a component, there or not, by its symbol and the children's labels
module _ (count : ℕ) (moves : List (PatternNumber × ℕ)) (leads : ℕ → ℕ → Bool) (x : Option ℕ) (ws : List (List ℕ)) (k : ℕ) where
  pub left_states-by_bits : states_at (move_states count moves leads) x (map left_bit ws) k
      ≡ list_any (λ (m : PatternNumber × ℕ). number_inside 0 m.0 x ws && leads m.1 k) moves
  left_states-by_bits = states-by_bits 0 left_bit left-reads count moves leads x ws k

  pub right_states-by_bits : (lefts : ℕ) → states_at (move_states count moves leads) x (map (right_bit lefts) ws) k
      ≡ list_any (λ (m : PatternNumber × ℕ). number_inside lefts m.0 x ws && leads m.1 k) moves
  right_states-by_bits lefts = states-by_bits lefts (right_bit lefts) (λ w i. refl) count moves leads x ws k
