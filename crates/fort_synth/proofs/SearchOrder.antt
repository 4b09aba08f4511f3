-- The order of a family's rules: of two of them at most one comes before the other.
use Rattle.std.proofs.Common.{◌≡◌, subst, inl, inr, arith}
use Rattle.fort_theory.specs.Trees.{Tree, Trees, Node, Nil, More}
use Rattle.fort_theory.specs.Patterns.{Pattern, Patterns, Any, At, NoPattern, MorePatterns}
use Rattle.fort_theory.specs.PatternOrder.{PatternBefore, PatternsBefore}
use Rattle.fort_theory.proofs.ClosedPatterns.{PatternBefore-irreflexive}
use Rattle.fort_answers.specs.FamilyRules.{FamilyRule, RuleBefore, TreeBefore, TreesBefore}

mutual
  PatternBefore-one_way : (p q : Pattern) → PatternBefore p q → PatternBefore q p → ⊥
  PatternBefore-one_way p Any h k = h
  PatternBefore-one_way Any (At g qs) h k = k
  PatternBefore-one_way (At f ps) (At g qs) (inl h) (inl k) = omega (arith, h, k)
  PatternBefore-one_way (At f ps) (At g qs) (inl h) (inr k) = omega (arith, h, k.0)
  PatternBefore-one_way (At f ps) (At g qs) (inr h) (inl k) = omega (arith, h.0, k)
  PatternBefore-one_way (At f ps) (At g qs) (inr h) (inr k) = PatternsBefore-one_way ps qs h.1 k.1

  PatternsBefore-one_way : (ps qs : Patterns) → PatternsBefore ps qs → PatternsBefore qs ps → ⊥
  PatternsBefore-one_way ps NoPattern h k = h
  PatternsBefore-one_way NoPattern (MorePatterns q qs) h k = k
  PatternsBefore-one_way (MorePatterns p ps) (MorePatterns q qs) (inl h) (inl k) = PatternBefore-one_way p q h k
  PatternsBefore-one_way (MorePatterns p ps) (MorePatterns q qs) (inl h) (inr k) =
      let e : q ≡ p = k.0 in PatternBefore-irreflexive p (subst (PatternBefore p) e h)
  PatternsBefore-one_way (MorePatterns p ps) (MorePatterns q qs) (inr h) (inl k) =
      let e : p ≡ q = h.0 in PatternBefore-irreflexive q (subst (PatternBefore q) e k)
  PatternsBefore-one_way (MorePatterns p ps) (MorePatterns q qs) (inr h) (inr k) = PatternsBefore-one_way ps qs h.1 k.1

mutual
  TreeBefore-irreflexive : (t : Tree) → TreeBefore t t → ⊥
  TreeBefore-irreflexive (Node f ts) (inl h) = omega (arith, h)
  TreeBefore-irreflexive (Node f ts) (inr h) = TreesBefore-irreflexive ts h.1

  TreesBefore-irreflexive : (ts : Trees) → TreesBefore ts ts → ⊥
  TreesBefore-irreflexive Nil h = h
  TreesBefore-irreflexive (More t ts) (inl h) = TreeBefore-irreflexive t h
  TreesBefore-irreflexive (More t ts) (inr h) = TreesBefore-irreflexive ts h.1

mutual
  TreeBefore-one_way : (t u : Tree) → TreeBefore t u → TreeBefore u t → ⊥
  TreeBefore-one_way (Node f ts) (Node g us) (inl h) (inl k) = omega (arith, h, k)
  TreeBefore-one_way (Node f ts) (Node g us) (inl h) (inr k) = omega (arith, h, k.0)
  TreeBefore-one_way (Node f ts) (Node g us) (inr h) (inl k) = omega (arith, h.0, k)
  TreeBefore-one_way (Node f ts) (Node g us) (inr h) (inr k) = TreesBefore-one_way ts us h.1 k.1

  TreesBefore-one_way : (ts us : Trees) → TreesBefore ts us → TreesBefore us ts → ⊥
  TreesBefore-one_way ts Nil h k = h
  TreesBefore-one_way Nil (More u us) h k = k
  TreesBefore-one_way (More t ts) (More u us) (inl h) (inl k) = TreeBefore-one_way t u h k
  TreesBefore-one_way (More t ts) (More u us) (inl h) (inr k) =
      let e : u ≡ t = k.0 in TreeBefore-irreflexive t (subst (TreeBefore t) e h)
  TreesBefore-one_way (More t ts) (More u us) (inr h) (inl k) =
      let e : t ≡ u = h.0 in TreeBefore-irreflexive u (subst (TreeBefore u) e k)
  TreesBefore-one_way (More t ts) (More u us) (inr h) (inr k) = TreesBefore-one_way ts us h.1 k.1

pub RuleBefore-one_way : (r s : FamilyRule) → RuleBefore r s → RuleBefore s r → ⊥
RuleBefore-one_way r s (inl h) (inl k) = PatternBefore-one_way r.0 s.0 h k
RuleBefore-one_way r s (inl h) (inr k) = PatternBefore-irreflexive r.0 (subst (PatternBefore r.0) k.0 h)
RuleBefore-one_way r s (inr h) (inl k) = PatternBefore-irreflexive s.0 (subst (PatternBefore s.0) h.0 k)
RuleBefore-one_way r s (inr h) (inr k) = TreeBefore-one_way r.1 s.1 h.1 k.1

pub RuleBefore-irreflexive : (r : FamilyRule) → RuleBefore r r → ⊥
RuleBefore-irreflexive r h = RuleBefore-one_way r r h h
