-- The root steps by right-ground rules lead to their right sides alone, which are finitely many; so termination over them is as the abbreviation says.
use Rattle.std.specs.Prelude.{◌≡◌, ◌↔◌, ℕ, List, [], ◌∷◌, ◌++◌, map, All, Contains, refl}
use Rattle.std.proofs.Common.{ap, subst, sym, ◌∙◌}
use Rattle.std.proofs.lemmas.List.Elements.{All-contains, All-contains_itself, All-map, All-weaker}
use Rattle.fort_theory.specs.Trees.{Tree, Trees, Node, Nil, More}
use Rattle.fort_theory.specs.Signatures.{Signature, IsGround}
use Rattle.fort_theory.specs.Sides.{Side, Sides, Var, App, NoSide, MoreSides, variables, variables_among, Rule, System, at_index}
use Rattle.fort_theory.specs.Patterns.{Pattern, Patterns, Any, At, NoPattern, MorePatterns, IsInstance, AreInstances, pattern_of, patterns_of, Pair, pattern_pair, PatternSystem, pattern_system}
use Rattle.fort_theory.specs.Rewriting.{RootStep, RootStepAt}
use Rattle.fort_theory.specs.PatternSteps.{PatternStep, PatternStepAt}
use Rattle.fort_theory.proofs.Lists.{Contains-map}
use Rattle.fort_theory.proofs.IndexLaws.{at_index-map}
use Rattle.fort_theory.proofs.StepByRoot.{Node-equal}
use Rattle.fort_theory.proofs.GroundSteps.{RelatesGround-RootStep, RelatesGround-PatternStep}
use Rattle.fort_theory.proofs.PatternSteps.{PatternStep-from_RootStep}
use Rattle.fort_theory.specs.RightGround.{IsRightGround, IsRightGroundAt, IsGroundPattern, AreGroundPatterns, IsRightGroundPair, HasRightGroundPairsAt}
use Rattle.fort_theory.specs.Termination.{IsTerminating, ReachesInfinitelyMany, ReachesCycle}
use Rattle.fort_theory.proofs.Successors.{LeadsTo}
use Rattle.fort_theory.proofs.TerminationExact.{IsTerminating-exact}

-- the only instance of a pattern without Any
abbrev mutual
  pub tree_of : Pattern → Tree
  tree_of Any = Node 0 Nil
  tree_of (At f ps) = Node f (trees_of ps)

  pub trees_of : Patterns → Trees
  trees_of NoPattern = Nil
  trees_of (MorePatterns p ps) = More (tree_of p) (trees_of ps)

mutual
  tree_of-instance : (p : Pattern) (t : Tree) → IsGroundPattern p → IsInstance p t → tree_of p ≡ t
  tree_of-instance Any t is h = absurd is
  tree_of-instance (At f ps) (Node g ts) is h = Node-equal h.0 (trees_of-instances ps ts is h.1)

  trees_of-instances : (ps : Patterns) (ts : Trees) → AreGroundPatterns ps → AreInstances ps ts → trees_of ps ≡ ts
  trees_of-instances NoPattern Nil is h = refl
  trees_of-instances NoPattern (More t ts) is h = absurd h
  trees_of-instances (MorePatterns p ps) Nil is h = absurd h
  trees_of-instances (MorePatterns p ps) (More t ts) is h =
      ap (λ u. More u (trees_of ps)) (tree_of-instance p t is.0 h.0) ∙ ap (λ us. More t us) (trees_of-instances ps ts is.1 h.1)

abbrev pub targets : List Pair → List Tree
targets pairs = map (λ (pair : Pair). tree_of pair.1) pairs

pub LeadsTo-PatternStep : (signature : Signature) (pairs : List Pair) → All IsRightGroundPair pairs → LeadsTo (targets pairs) (PatternStep signature pairs)
LeadsTo-PatternStep signature pairs right s t h =
    subst (λ u. Contains (targets pairs) u)
    (tree_of-instance h.pair.1 t (All-contains IsRightGroundPair pairs h.pair right h.among) h.right)
    (Contains-map (λ (pair : Pair). tree_of pair.1) pairs h.pair h.among)

abbrev pub targets_of : List Rule → List Tree
targets_of rules = targets (map pattern_pair rules)

-- ---- from sides to patterns

no_first : {A : Type 0} (xs ys : List A) → xs ++ ys ≡ [] → xs ≡ []
no_first [] ys e = refl
no_first (x ∷ xs) ys e = cc

no_second : {A : Type 0} (xs ys : List A) → xs ++ ys ≡ [] → ys ≡ []
no_second [] ys e = e
no_second (x ∷ xs) ys e = cc

mutual
  IsGroundPattern-from_side : (s : Side) → variables s ≡ [] → IsGroundPattern (pattern_of s)
  IsGroundPattern-from_side (Var v) e = cc
  IsGroundPattern-from_side (App f ss) e = AreGroundPatterns-from_sides ss e

  AreGroundPatterns-from_sides : (ss : Sides) → variables_among ss ≡ [] → AreGroundPatterns (patterns_of ss)
  AreGroundPatterns-from_sides NoSide e = tt
  AreGroundPatterns-from_sides (MoreSides s ss) e = (
    IsGroundPattern-from_side s (no_first (variables s) (variables_among ss) e),
    AreGroundPatterns-from_sides ss (no_second (variables s) (variables_among ss) e),
  )

mutual
  variables-none : (s : Side) → IsGroundPattern (pattern_of s) → variables s ≡ []
  variables-none (Var v) is = absurd is
  variables-none (App f ss) is = variables_among-none ss is

  variables_among-none : (ss : Sides) → AreGroundPatterns (patterns_of ss) → variables_among ss ≡ []
  variables_among-none NoSide is = refl
  variables_among-none (MoreSides s ss) is =
      ap (λ vs. vs ++ variables_among ss) (variables-none s is.0) ∙ variables_among-none ss is.1

pub IsRightGround-pair : (rule : Rule) → IsRightGround rule ↔ IsRightGroundPair (pattern_pair rule)
IsRightGround-pair rule = (IsGroundPattern-from_side rule.right, variables-none rule.right)

pub All-pairs : (rules : List Rule) → All IsRightGround rules → All IsRightGroundPair (map pattern_pair rules)
All-pairs rules all =
    All-map IsRightGroundPair pattern_pair rules
    (All-weaker IsRightGround (λ rule. IsRightGroundPair (pattern_pair rule)) (λ rule is. (IsRightGround-pair rule).0 is) rules all)

pub All-rules : (rules : List Rule) → All IsRightGroundPair (map pattern_pair rules) → All IsRightGround rules
All-rules rules all =
    All-weaker (Contains rules) IsRightGround
    (λ rule among. (IsRightGround-pair rule).1
    (All-contains IsRightGroundPair (map pattern_pair rules) (pattern_pair rule) all (Contains-map pattern_pair rules rule among)))
    rules (All-contains_itself rules)

-- Result: a system's rules of an index are right-ground exactly where their pairs of patterns are
pub IsRightGroundAt-patterns : (system : System) (index : ℕ) → IsRightGroundAt system index ↔ HasRightGroundPairsAt (pattern_system system) index
IsRightGroundAt-patterns system index =
    let same = at_index-map pattern_pair index system.rules in (
      (λ all. subst (λ pairs. All IsRightGroundPair pairs) (sym same) (All-pairs (at_index index system.rules) all)),
      (λ all. All-rules (at_index index system.rules) (subst (λ pairs. All IsRightGroundPair pairs) same all)),
    )

pub LeadsTo-RootStep : (signature : Signature) (rules : List Rule) → All IsRightGround rules → LeadsTo (targets_of rules) (RootStep signature rules)
LeadsTo-RootStep signature rules right s t h =
    LeadsTo-PatternStep signature (map pattern_pair rules) (All-pairs rules right) s t (PatternStep-from_RootStep signature rules s t h)

-- ---- Results: over right-ground rules, and over their patterns

pub IsTerminating-right_ground : (system : System) (index : ℕ) → IsRightGroundAt system index → (s : Tree) → IsGround system.signature s
    → IsTerminating (RootStepAt system index) s
    ↔ ((ReachesInfinitelyMany system.signature (RootStepAt system index) s → ⊥) × (ReachesCycle system.signature (RootStepAt system index) s → ⊥))
IsTerminating-right_ground system index right =
    IsTerminating-exact system.signature (RootStepAt system index) (targets_of (at_index index system.rules))
    (LeadsTo-RootStep system.signature (at_index index system.rules) right)
    (RelatesGround-RootStep system.signature (at_index index system.rules))

pub IsTerminating-right_ground_pairs : (system : PatternSystem) (index : ℕ) → HasRightGroundPairsAt system index → (s : Tree) → IsGround system.signature s
    → IsTerminating (PatternStepAt system index) s
    ↔ ((ReachesInfinitelyMany system.signature (PatternStepAt system index) s → ⊥) × (ReachesCycle system.signature (PatternStepAt system index) s → ⊥))
IsTerminating-right_ground_pairs system index right =
    IsTerminating-exact system.signature (PatternStepAt system index) (targets (at_index index system.rules))
    (LeadsTo-PatternStep system.signature (at_index index system.rules) right)
    (RelatesGround-PatternStep system.signature (at_index index system.rules))
