-- To believe: a list of patterns that is in order, without repeats and closed under arguments, and the moves of its automaton, whose states are the places in the list.
use Rattle.std.specs.Prelude.{◌≡◌, ℕ, suc, ◌<◌, List, [], ◌∷◌, length, get_or, slice_get, Contains, Some}
use Rattle.fort_theory.specs.Patterns.{Pattern, Patterns, Any, At, NoPattern, MorePatterns}
use Rattle.fort_theory.specs.PatternOrder.{PatternBefore, HaveArguments}
use Rattle.fort_tree_automata.specs.NtaView.{MoveParts}

pub record IsClosedInOrder (ps : List Pattern) : Type 0 where
  -- ascending, so without repeats
  pub ordered : (i j : ℕ) → i < j → j < length ps → PatternBefore (get_or ps i Any) (get_or ps j Any)
  pub closed : HaveArguments ps

-- the pattern is at this place of the list
abbrev pub StandsAt : List Pattern → ℕ → Pattern → Type 0
StandsAt ps q p = slice_get ps q ≡ Some p

-- one by one, as many places as patterns
abbrev pub AllStandAt : List Pattern → List ℕ → Patterns → Type 0
AllStandAt ps [] NoPattern = Unit {0}
AllStandAt ps [] (MorePatterns arg args) = ⊥
AllStandAt ps (q ∷ qs) NoPattern = ⊥
AllStandAt ps (q ∷ qs) (MorePatterns arg args) = StandsAt ps q arg × AllStandAt ps qs args

-- one move for each pattern with a symbol, in order: from the places of its arguments to its own; the first of the
-- patterns is at the place n of the list
abbrev pub AreMovesFor : List Pattern → ℕ → List Pattern → List MoveParts → Type 0
AreMovesFor ps n [] [] = Unit {0}
AreMovesFor ps n [] (m ∷ ms) = ⊥
AreMovesFor ps n (Any ∷ rest) ms = AreMovesFor ps (suc n) rest ms
AreMovesFor ps n (At f args ∷ rest) [] = ⊥
AreMovesFor ps n (At f args ∷ rest) (m ∷ ms) =
    (m.0 ≡ f) × AllStandAt ps m.1 args × (m.2 ≡ n) × AreMovesFor ps (suc n) rest ms
