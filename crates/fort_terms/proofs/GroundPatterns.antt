-- Whether patterns have no variable's place: one by one, and of the right sides of a system's pairs.
use Rattle.std.proofs.Common.{◌≡◌, ℕ, zero, suc, List, [], ◌∷◌, ◌++◌, map, subst, arith}
use Rattle.std.specs.Prelude.{All, Contains}
use Rattle.std.proofs.lemmas.List.Elements.{All-contains, All-map}
use Rattle.fort_theory.specs.Patterns.{Pair}
use Rattle.fort_theory.proofs.Lists.{Contains-map}
use Rattle.fort_theory.proofs.Members.{Contains-none}
use Rattle.fort_theory.specs.RightGround.{IsGroundPattern, AreGroundPatterns, IsRightGroundPair}
use Rattle.fort_terms.specs.declared.pattern.Pattern.{Pattern}
use Rattle.fort_terms.specs.PatternView.{as_pattern, as_patterns, as_pair}

pub AreGroundPatterns-push : (ps : List Pattern) (p : Pattern) → AreGroundPatterns (as_patterns ps) → IsGroundPattern (as_pattern p)
    → AreGroundPatterns (as_patterns (ps ++ p ∷ []))
AreGroundPatterns-push [] p all here = (here, tt)
AreGroundPatterns-push (q ∷ ps) p all here = (all.0, AreGroundPatterns-push ps p all.1 here)

pub AreGroundPatterns-at : (ps : List Pattern) (p : Pattern) → Contains ps p → AreGroundPatterns (as_patterns ps) → IsGroundPattern (as_pattern p)
AreGroundPatterns-at [] p c all = absurd (Contains-none p c)
AreGroundPatterns-at (q ∷ ps) p (zero, l, e) all = subst (λ x. IsGroundPattern (as_pattern x)) e all.0
AreGroundPatterns-at (q ∷ ps) p (suc k, l, e) all = AreGroundPatterns-at ps p (k, omega arith, e) all.1

-- a rule of the program has a right side without a variable's place
abbrev pub HasGroundRight : Pattern × Pattern → Type 0
HasGroundRight rule = IsGroundPattern (as_pattern rule.1)

pub right_ground-all : (rules : List (Pattern × Pattern)) (pairs : List Pair) → map as_pair rules ≡ pairs → All HasGroundRight rules
    → All IsRightGroundPair pairs
right_ground-all rules pairs is all = subst (λ ps. All IsRightGroundPair ps) is (All-map IsRightGroundPair as_pair rules all)

pub right_ground-at : (rules : List (Pattern × Pattern)) (pairs : List Pair) (rule : Pattern × Pattern) → map as_pair rules ≡ pairs → Contains rules rule
    → All IsRightGroundPair pairs → HasGroundRight rule
right_ground-at rules pairs rule is c all =
    All-contains IsRightGroundPair pairs (as_pair rule) all (subst (λ ps. Contains ps (as_pair rule)) is (Contains-map as_pair rules rule c))
