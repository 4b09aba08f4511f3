-- The moves for the patterns of a list, one after the other, make the automaton whose states stand for them.
use Rattle.std.proofs.Common.{◌≡◌, ◌↔◌, ℕ, zero, suc, ◌+◌, ◌<◌, List, [], ◌∷◌, ◌++◌, length, get_or, refl, sym, ap, ◌∙◌, subst, arith, Some, inl, inr}
use Rattle.std.specs.Prelude.{Contains, slice_get}
use Rattle.fort_theory.specs.Trees.{Tree}
use Rattle.fort_theory.specs.Patterns as theory
use Rattle.fort_theory.specs.PatternOrder.{AllAmong}
use Rattle.fort_theory.proofs.Members.{Contains-head, Contains-behind, Contains-cons_cases, Contains-none}
use Rattle.fort_theory.proofs.Lists.{none-some, some-injective}
use Rattle.fort_terms.specs.declared.pattern.Pattern.{Pattern}
use Rattle.fort_terms.specs.PatternView.{as_pattern, as_patterns}
use Rattle.fort_reachability.specs.TreeAutomata.{Takes}
use Rattle.fort_reachability.proofs.PatternAutomata.{AllStandFor, NoneStand, MoreStand, IsPatternAutomaton, Takes-IsInstance}
use Rattle.fort_tree_automata.specs.declared.nta.Nta.{Nta}
use Rattle.fort_tree_automata.specs.NtaView.{NamesItsStates, MoveParts, moves_of, automaton_of}
use Rattle.fort_tree_automata.specs.PatternMoves.{StandsAt, AllStandAt, AreMovesFor}

-- ---- one more

pub AllStandAt-push : (ps : List theory.Pattern) (qs : List ℕ) (args : List Pattern) (q : ℕ) (arg : Pattern) → AllStandAt ps qs (as_patterns args)
    → StandsAt ps q (as_pattern arg) → AllStandAt ps (qs ++ q ∷ []) (as_patterns (args ++ arg ∷ []))
AllStandAt-push ps [] [] q arg h here = (here, tt)
AllStandAt-push ps [] (a ∷ args) q arg h here = absurd h
AllStandAt-push ps (p ∷ qs) [] q arg h here = absurd h
AllStandAt-push ps (p ∷ qs) (a ∷ args) q arg h here = (h.0, AllStandAt-push ps qs args q arg h.1 here)

pub AllAmong-at : (ps : List theory.Pattern) (args : List Pattern) (i : ℕ) (d : Pattern) → i < length args → AllAmong ps (as_patterns args)
    → Contains ps (as_pattern (get_or args i d))
AllAmong-at ps [] i d h all = absurd (omega arith)
AllAmong-at ps (a ∷ args) zero d h all = all.0
AllAmong-at ps (a ∷ args) (suc i) d h all = AllAmong-at ps args i d (omega arith) all.1

pub AreMovesFor-any : (ps : List theory.Pattern) (n : ℕ) (rest : List theory.Pattern) (ms : List MoveParts) → AreMovesFor ps n rest ms
    → AreMovesFor ps n (rest ++ theory.Any ∷ []) ms
AreMovesFor-any ps n [] [] h = tt
AreMovesFor-any ps n [] (m ∷ ms) h = absurd h
AreMovesFor-any ps n (theory.Any ∷ rest) ms h = AreMovesFor-any ps (suc n) rest ms h
AreMovesFor-any ps n (theory.At f args ∷ rest) [] h = absurd h
AreMovesFor-any ps n (theory.At f args ∷ rest) (m ∷ ms) h = (h.0, h.1, h.2, AreMovesFor-any ps (suc n) rest ms h.3)

pub AreMovesFor-push : (ps : List theory.Pattern) (n : ℕ) (rest : List theory.Pattern) (ms : List MoveParts) (f : ℕ) (args : theory.Patterns) (m : MoveParts)
    → AreMovesFor ps n rest ms → m.0 ≡ f → AllStandAt ps m.1 args → m.2 ≡ n + length rest → AreMovesFor ps n (rest ++ theory.At f args ∷ []) (ms ++ m ∷ [])
AreMovesFor-push ps n [] [] f args m h is kids at = (is, kids, omega arith, tt)
AreMovesFor-push ps n [] (o ∷ ms) f args m h is kids at = absurd h
AreMovesFor-push ps n (theory.Any ∷ rest) ms f args m h is kids at = AreMovesFor-push ps (suc n) rest ms f args m h is kids (omega arith)
AreMovesFor-push ps n (theory.At g os ∷ rest) [] f args m h is kids at = absurd h
AreMovesFor-push ps n (theory.At g os ∷ rest) (o ∷ ms) f args m h is kids at =
    (h.0, h.1, h.2, AreMovesFor-push ps (suc n) rest ms f args m h.3 is kids (omega arith))

-- ---- the automaton

pub StandsAt-below : (ps : List theory.Pattern) (q : ℕ) (p : theory.Pattern) → StandsAt ps q p → q < length ps
StandsAt-below [] q p h = absurd (none-some h)
StandsAt-below (x ∷ ps) zero p h = omega arith
StandsAt-below (x ∷ ps) (suc q) p h = let l = StandsAt-below ps q p h in omega arith

stand_for : (ps : List theory.Pattern) (qs : List ℕ) (args : theory.Patterns) → AllStandAt ps qs args → AllStandFor (StandsAt ps) qs args
stand_for ps [] theory.NoPattern h = NoneStand
stand_for ps [] (theory.MorePatterns arg args) h = absurd h
stand_for ps (q ∷ qs) theory.NoPattern h = absurd h
stand_for ps (q ∷ qs) (theory.MorePatterns arg args) h = MoreStand h.0 (stand_for ps qs args h.1)

kids_below : (ps : List theory.Pattern) (qs : List ℕ) (args : theory.Patterns) → AllStandAt ps qs args → (p : ℕ) → Contains qs p → p < length ps
kids_below ps [] args h p c = absurd (Contains-none p c)
kids_below ps (q ∷ qs) theory.NoPattern h p c = absurd h
kids_below ps (q ∷ qs) (theory.MorePatterns arg args) h p c = elim (Contains-cons_cases q qs p c) [
  | inl e ↦ subst (λ x. x < length ps) e (StandsAt-below ps q arg h.0)
  | inr there ↦ kids_below ps qs args h.1 p there
]

-- the rest of the list from the place n
abbrev IsFrom : List theory.Pattern → ℕ → List theory.Pattern → Type 0
IsFrom ps n rest = (k : ℕ) (p : theory.Pattern) → slice_get rest k ≡ Some p → StandsAt ps (n + k) p

from_next : (ps : List theory.Pattern) (n : ℕ) (x : theory.Pattern) (rest : List theory.Pattern) → IsFrom ps n (x ∷ rest) → IsFrom ps (suc n) rest
from_next ps n x rest from k p h =
    let e : n + suc k ≡ suc n + k = omega arith in
    subst (λ j. StandsAt ps j p) e (from (suc k) p h)

-- what a move among them is for
record IsMoveFor (ps : List theory.Pattern) (m : MoveParts) : Type 0 where
  args : theory.Patterns
  at : StandsAt ps m.2 (theory.At m.0 args)
  kids : AllStandAt ps m.1 args

move_for : (ps : List theory.Pattern) (n : ℕ) (rest : List theory.Pattern) (ms : List MoveParts) → AreMovesFor ps n rest ms → IsFrom ps n rest → (m : MoveParts)
    → Contains ms m → IsMoveFor ps m
move_for ps n [] [] h from m c = absurd (Contains-none m c)
move_for ps n [] (o ∷ ms) h from m c = absurd h
move_for ps n (theory.Any ∷ rest) ms h from m c = move_for ps (suc n) rest ms h (from_next ps n theory.Any rest from) m c
move_for ps n (theory.At f args ∷ rest) [] h from m c = absurd h
move_for ps n (theory.At f args ∷ rest) (o ∷ ms) h from m c = elim (Contains-cons_cases o ms m c) [
  | inl e ↦
      let here : n + 0 ≡ o.2 = omega (arith, h.2) in
      let at : StandsAt ps o.2 (theory.At o.0 args) =
      subst (λ g. StandsAt ps o.2 (theory.At g args)) (sym h.0) (subst (λ j. StandsAt ps j (theory.At f args)) here (from 0 (theory.At f args) refl)) in
      subst (IsMoveFor ps) e (record { args = args; at = at; kids = h.1 })
  | inr there ↦ move_for ps (suc n) rest ms h.3 (from_next ps n (theory.At f args) rest from) m there
]

-- the move for a pattern among them
has_move : (ps : List theory.Pattern) (n : ℕ) (rest : List theory.Pattern) (ms : List MoveParts) → AreMovesFor ps n rest ms → (k f : ℕ) (args : theory.Patterns)
    → slice_get rest k ≡ Some (theory.At f args) → (qs : List ℕ) × Contains ms (f, qs, n + k) × AllStandAt ps qs args
has_move ps n [] ms h k f args e = absurd (none-some e)
has_move ps n (theory.Any ∷ rest) ms h zero f args e = absurd (any_at (some-injective e))
  where
    any_at : theory.Any ≡ theory.At f args → ⊥
    any_at d = cc
has_move ps n (theory.Any ∷ rest) ms h (suc k) f args e =
    let w = has_move ps (suc n) rest ms h k f args e in
    let next : suc n + k ≡ n + suc k = omega arith in
    (w.0, subst (λ j. Contains ms (f, w.0, j)) next w.1, w.2)
has_move ps n (theory.At g os ∷ rest) [] h k f args e = absurd h
has_move ps n (theory.At g os ∷ rest) (o ∷ ms) h zero f args e =
    let same : theory.At g os ≡ theory.At f args = some-injective e in
    let parts : o ≡ (f, o.1, n + 0) = parts_same (h.0 ∙ sym_same same) (omega (arith, h.2)) in
    (o.1, subst (λ (x : MoveParts). Contains (o ∷ ms) x) parts (Contains-head o ms), subst (AllStandAt ps o.1) (args_same same) h.1)
  where
    sym_same : theory.At g os ≡ theory.At f args → g ≡ f
    sym_same d = cc

    args_same : theory.At g os ≡ theory.At f args → os ≡ args
    args_same d = cc

    parts_same : o.0 ≡ f → o.2 ≡ n + 0 → o ≡ (f, o.1, n + 0)
    parts_same d b = let pair : ℕ → ℕ → MoveParts = λ x y. (x, o.1, y) in ap (λ x. pair x o.2) d ∙ ap (pair f) b
has_move ps n (theory.At g os ∷ rest) (o ∷ ms) h (suc k) f args e =
    let w = has_move ps (suc n) rest ms h.3 k f args e in
    let next : suc n + k ≡ n + suc k = omega arith in
    (w.0, Contains-behind o ms (f, w.0, n + suc k) (subst (λ j. Contains ms (f, w.0, j)) next w.1), w.2)

module _ (ps : List theory.Pattern) (nta : Nta) (any : (q : ℕ) → (nta.any ≡ Some q) ↔ StandsAt ps q theory.Any)
    (moves : AreMovesFor ps 0 ps (moves_of nta)) (silent : nta.silent.items ≡ []) where
  move_is : (f : ℕ) (qs : List ℕ) (q : ℕ) → Contains (moves_of nta) (f, qs, q) → IsMoveFor ps (f, qs, q)
  move_is f qs q c =
      move_for ps 0 ps (moves_of nta) moves (λ k p h. let e : k ≡ 0 + k = omega arith in subst (λ j. StandsAt ps j p) e h) (f, qs, q) c

  no_silent : (o q : ℕ) → Contains nta.silent.items (o, q) → ⊥
  no_silent o q c = Contains-none (o, q) (subst (λ (ms : List (ℕ × ℕ)). Contains ms (o, q)) silent c)

  -- the states of the automaton of a list of patterns stand for them
  pub IsPatternAutomaton-places : IsPatternAutomaton (automaton_of nta) (StandsAt ps)
  IsPatternAutomaton-places = record {
    one = λ q p o h k. some-injective (sym h ∙ k);
    any = any;
    moves = λ f qs q m. let w = move_is f qs q m in (w.args, w.at, stand_for ps qs w.args w.kids);
    has_move = λ f args q h.
        let w = has_move ps 0 ps (moves_of nta) moves q f args h in
        let e : 0 + q ≡ q = omega arith in
        (w.0, subst (λ j. Contains (moves_of nta) (f, w.0, j)) e w.1, stand_for ps w.0 args w.2);
    no_silent_move = no_silent;
  }

  pub Takes-instances : (q : ℕ) (p : theory.Pattern) → StandsAt ps q p → (t : Tree) → Takes (automaton_of nta) t q ↔ theory.IsInstance p t
  Takes-instances q p h t = Takes-IsInstance (automaton_of nta) (StandsAt ps) IsPatternAutomaton-places q p h t

  pub NamesItsStates-places : nta.states ≡ length ps → NamesItsStates nta
  NamesItsStates-places sized = record {
    any = λ q e. let l = StandsAt-below ps q theory.Any ((any q).0 e) in omega arith;
    moves = λ f qs q c p there.
        let w = move_is f qs q c in
        elim (Contains-cons_cases q qs p there) [
          | inl e ↦ let l = StandsAt-below ps q (theory.At f w.args) w.at in omega (arith, e)
          | inr kid ↦ let l = kids_below ps qs w.args w.kids p kid in omega arith
        ];
    silent = λ o q c. absurd (no_silent o q c);
  }
