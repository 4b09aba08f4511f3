-- The patterns within the sides of the rules of an index fit the signature.
use Rattle.std.specs.Prelude.{ℕ, [], Contains}
use Rattle.std.proofs.Common.{subst, inl, inr}
use Rattle.std.proofs.lemmas.List.Elements.{All-contains, Contains-append_cases}
use Rattle.fort_theory.specs.Signatures.{Signature}
use Rattle.fort_theory.specs.Sides.{at_index}
use Rattle.fort_theory.specs.Patterns.{Pattern, Patterns, Any, At, NoPattern, MorePatterns, FitsPattern, FitPatterns, Pair, FitsPair, PatternSystem, IsSystem}
use Rattle.fort_theory.specs.PatternOrder.{subpatterns, all_subpatterns}
use Rattle.fort_theory.proofs.IndexLaws.{All-at_index}
use Rattle.fort_theory.proofs.Lists.{Contains-map_from}
use Rattle.fort_theory.proofs.Members.{Contains-cons_cases, Contains-none}
use Rattle.fort_theory.specs.Conditions.{PatternWithin, left_sides, right_sides}

mutual
  subpatterns-fit : (signature : Signature) (p : Pattern) → FitsPattern signature p → (q : Pattern) → Contains (subpatterns p) q → FitsPattern signature q
  subpatterns-fit signature Any h q c =
      elim (Contains-cons_cases Any [] q c) [ inl e ↦ subst (FitsPattern signature) e tt | inr n ↦ absurd (Contains-none q n) ]
  subpatterns-fit signature (At f ps) h q c =
      elim (Contains-cons_cases (At f ps) (all_subpatterns ps) q c) [
        | inl e ↦ subst (FitsPattern signature) e h
        | inr n ↦ all_subpatterns-fit signature ps h.1 q n
      ]

  all_subpatterns-fit : (signature : Signature) (ps : Patterns) → FitPatterns signature ps → (q : Pattern) → Contains (all_subpatterns ps) q → FitsPattern signature q
  all_subpatterns-fit signature NoPattern h q c = absurd (Contains-none q c)
  all_subpatterns-fit signature (MorePatterns p ps) h q c =
      elim (Contains-append_cases (subpatterns p) (all_subpatterns ps) q c) [
        | inl l ↦ subpatterns-fit signature p h.0 q l
        | inr r ↦ all_subpatterns-fit signature ps h.1 q r
      ]

module _ (system : PatternSystem) (is : IsSystem system) (index : ℕ) where
  fits-pair : (pair : Pair) → Contains (at_index index system.rules) pair → FitsPair system.signature pair
  fits-pair pair c =
      All-contains (FitsPair system.signature) (at_index index system.rules) pair (All-at_index (FitsPair system.signature) index system.rules is.fits) c

  pub FitsPattern-left : (q : PatternWithin (left_sides system index)) → FitsPattern system.signature q.0
  FitsPattern-left q =
      let w = Contains-map_from (λ (pair : Pair). pair.0) (at_index index system.rules) q.1.0 q.1.1 in
      subpatterns-fit system.signature q.1.0 (subst (FitsPattern system.signature) w.2 (fits-pair w.0 w.1).0) q.0 q.1.2

  pub FitsPattern-right : (q : PatternWithin (right_sides system index)) → FitsPattern system.signature q.0
  FitsPattern-right q =
      let w = Contains-map_from (λ (pair : Pair). pair.1) (at_index index system.rules) q.1.0 q.1.1 in
      subpatterns-fit system.signature q.1.0 (subst (FitsPattern system.signature) w.2 (fits-pair w.0 w.1).1) q.0 q.1.2
