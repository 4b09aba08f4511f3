-- A pair of patterns is in the closure table over patterns exactly where the first reaches the second.
use Rattle.std.specs.Prelude.{◌↔◌, ℕ, List, All, Contains, Some, refl}
use Rattle.std.proofs.Common.{sym, ap, subst, ◌∙◌}
use Rattle.std.proofs.lemmas.List.Elements.{All-contains}
use Rattle.fort_theory.specs.Trees.{Tree, Trees, Node, Nil, More}
use Rattle.fort_theory.specs.Signatures.{Signature, IsGround, AreGround, HasConstant}
use Rattle.fort_theory.specs.Patterns.{Pattern, Patterns, Any, At, NoPattern, MorePatterns, IsInstance, AreInstances, FitsPattern, FitPatterns, Pair, FitsPair}
use Rattle.fort_theory.specs.PatternSteps.{PatternStep}
use Rattle.fort_reachability.specs.PatternReachability.{ReachesInstance}
use Rattle.fort_reachability.specs.PatternClosures.{InPatternClosure, AnyRight, AnyLeft, ByArguments, ThroughPair, AllInPatternClosure, NoneIn, MoreIn}
use Rattle.fort_reachability.proofs.Reductions.{Reduction, Below, ByRoot, Reductions, NoReduction, MoreReductions, Reduces-refl, Reduces-through_root, Reduces-from_Reduction, Reduction-from_Reduces}
use Rattle.fort_reachability.proofs.PatternInstances.{some-instance, tree_count-AreInstances}

-- Of a reduction between instances, the pair of patterns is in the table

module _ (signature : Signature) (pairs : List Pair) where
  node-in_table : (f : ℕ) {ss ts : Trees} → ((ps qs : Patterns) → AreInstances ps ss → AreInstances qs ts → AllInPatternClosure pairs ps qs)
      → (p q : Pattern) → IsInstance p (Node f ss) → IsInstance q (Node f ts) → InPatternClosure pairs p q
  node-in_table f children Any q a b = AnyRight
  node-in_table f children (At g ps) Any a b = AnyLeft
  node-in_table f children (At g ps) (At h qs) a b =
      subst (λ x. InPatternClosure pairs (At g ps) (At x qs)) (a.0 ∙ sym b.0) (ByArguments (children ps qs a.1 b.1))

  mutual
    in_table-from_Reduction : {s t : Tree} → Reduction (PatternStep signature pairs) s t → (p q : Pattern) → IsInstance p s → IsInstance q t
        → InPatternClosure pairs p q
    in_table-from_Reduction (Below {f = f} ks) p q a b = node-in_table f (in_table-from_Reductions ks) p q a b
    in_table-from_Reduction (ByRoot {f = f} ks one rest) p q a b =
        ThroughPair one.pair one.among (node-in_table f (in_table-from_Reductions ks) p one.pair.0 a one.left)
        (in_table-from_Reduction rest one.pair.1 q one.right b)

    in_table-from_Reductions : {ss ts : Trees} → Reductions (PatternStep signature pairs) ss ts → (ps qs : Patterns) → AreInstances ps ss → AreInstances qs ts
        → AllInPatternClosure pairs ps qs
    in_table-from_Reductions NoReduction NoPattern NoPattern a b = NoneIn
    in_table-from_Reductions NoReduction NoPattern (MorePatterns q qs) a b = absurd b
    in_table-from_Reductions NoReduction (MorePatterns p ps) qs a b = absurd a
    in_table-from_Reductions (MoreReductions k ks) NoPattern qs a b = absurd a
    in_table-from_Reductions (MoreReductions k ks) (MorePatterns p ps) NoPattern a b = absurd b
    in_table-from_Reductions (MoreReductions k ks) (MorePatterns p ps) (MorePatterns q qs) a b =
        MoreIn (in_table-from_Reduction k p q a.0 b.0) (in_table-from_Reductions ks ps qs a.1 b.1)

-- Of a pair in the table, there is such a reduction

-- the same, one by one
record AllReachInstances (signature : Signature) (pairs : List Pair) (ps qs : Patterns) : Type 0 where
  starts : Trees
  ends : Trees
  start_instances : AreInstances ps starts
  end_instances : AreInstances qs ends
  starts_grounded : AreGround signature starts
  ends_grounded : AreGround signature ends
  reduce : Reductions (PatternStep signature pairs) starts ends

module _ (signature : Signature) (constant : HasConstant signature) (pairs : List Pair) (fits : All (FitsPair signature) pairs) where
  at-one_tree : (p q : Pattern) (t : Tree) → IsGround signature t → IsInstance p t → IsInstance q t → ReachesInstance signature pairs p q
  at-one_tree p q t grounded a b = record {
    start = t;
    end = t;
    start_instance = a;
    end_instance = b;
    start_grounded = grounded;
    end_grounded = grounded;
    reduces = Reduces-refl (PatternStep signature pairs) t;
  }

  at-any_right : (q : Pattern) → FitsPattern signature q → ReachesInstance signature pairs Any q
  at-any_right q h = let w = some-instance signature constant q h in at-one_tree Any q w.0 w.1 tt w.2

  at-any_left : (p : Pattern) → FitsPattern signature p → ReachesInstance signature pairs p Any
  at-any_left p h = let w = some-instance signature constant p h in at-one_tree p Any w.0 w.1 w.2 tt

  at-arguments : (f : ℕ) (ps qs : Patterns) → FitsPattern signature (At f ps) → FitsPattern signature (At f qs) → AllReachInstances signature pairs ps qs
      → ReachesInstance signature pairs (At f ps) (At f qs)
  at-arguments f ps qs a b k = record {
    start = Node f k.starts;
    end = Node f k.ends;
    start_instance = (refl, k.start_instances);
    end_instance = (refl, k.end_instances);
    start_grounded = (a.0 ∙ ap Some (tree_count-AreInstances ps k.starts k.start_instances), k.starts_grounded);
    end_grounded = (b.0 ∙ ap Some (tree_count-AreInstances qs k.ends k.end_instances), k.ends_grounded);
    reduces = Reduces-from_Reduction (Below k.reduce);
  }

  at-pair : (p q : Pattern) (pair : Pair) → Contains pairs pair → ReachesInstance signature pairs p pair.0 → ReachesInstance signature pairs pair.1 q
      → ReachesInstance signature pairs p q
  at-pair p q pair among h k =
      let one : PatternStep signature pairs h.end k.start = record {
        pair = pair;
        among = among;
        left = h.end_instance;
        right = k.start_instance;
        left_grounded = h.end_grounded;
        right_grounded = k.start_grounded;
      } in
      record {
        start = h.start;
        end = k.end;
        start_instance = h.start_instance;
        end_instance = k.end_instance;
        start_grounded = h.start_grounded;
        end_grounded = k.end_grounded;
        reduces = Reduces-through_root (PatternStep signature pairs) h.start h.end k.start k.end h.reduces one k.reduces;
      }

  fits-pair : (pair : Pair) → Contains pairs pair → FitsPair signature pair
  fits-pair pair among = All-contains (FitsPair signature) pairs pair fits among

  mutual
    reaches-from_table : {p q : Pattern} → InPatternClosure pairs p q → FitsPattern signature p → FitsPattern signature q → ReachesInstance signature pairs p q
    reaches-from_table (AnyRight {q = q}) a b = at-any_right q b
    reaches-from_table (AnyLeft {p = p}) a b = at-any_left p a
    reaches-from_table (ByArguments {f = f} {ps = ps} {qs = qs} hs) a b = at-arguments f ps qs a b (all_reach-from_table hs a.1 b.1)
    reaches-from_table (ThroughPair {p = p} {q = q} pair among h k) a b =
        at-pair p q pair among (reaches-from_table h a (fits-pair pair among).0) (reaches-from_table k (fits-pair pair among).1 b)

    all_reach-from_table : {ps qs : Patterns} → AllInPatternClosure pairs ps qs → FitPatterns signature ps → FitPatterns signature qs
        → AllReachInstances signature pairs ps qs
    all_reach-from_table NoneIn a b = record {
      starts = Nil;
      ends = Nil;
      start_instances = tt;
      end_instances = tt;
      starts_grounded = tt;
      ends_grounded = tt;
      reduce = NoReduction;
    }
    all_reach-from_table (MoreIn {p = p} {q = q} h hs) a b =
        let k : ReachesInstance signature pairs p q = reaches-from_table h a.0 b.0 in
        let ks = all_reach-from_table hs a.1 b.1 in
        record {
          starts = More k.start ks.starts;
          ends = More k.end ks.ends;
          start_instances = (k.start_instance, ks.start_instances);
          end_instances = (k.end_instance, ks.end_instances);
          starts_grounded = (k.start_grounded, ks.starts_grounded);
          ends_grounded = (k.end_grounded, ks.ends_grounded);
          reduce = MoreReductions (Reduction-from_Reduces k.start k.end k.reduces) ks.reduce;
        }

  pub InPatternClosure-ReachesInstance : (p q : Pattern) → FitsPattern signature p → FitsPattern signature q
      → InPatternClosure pairs p q ↔ ReachesInstance signature pairs p q
  InPatternClosure-ReachesInstance p q a b = (
    (λ h. reaches-from_table h a b),
    (λ k. in_table-from_Reduction signature pairs (Reduction-from_Reduces k.start k.end k.reduces) p q k.start_instance k.end_instance),
  )
