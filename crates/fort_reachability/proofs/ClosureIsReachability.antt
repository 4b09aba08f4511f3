-- The closure of an anchored ground tree transducer is reachability over all ground terms.
use Rattle.std.specs.Prelude.{◌↔◌}
use Rattle.fort_theory.specs.Trees.{Tree, Trees, Node}
use Rattle.fort_theory.specs.Signatures.{Signature, IsGround}
use Rattle.fort_theory.specs.Rewriting.{Reduces, ReducesThroughRoot, RewritesInParallel, AllRewriteInParallel, AtRoot, Inside, End, Both}
use Rattle.fort_reachability.specs.Transducers.{Transducer, Transduces, FitsTransducer}
use Rattle.fort_reachability.specs.ClosedTransducers.{closed}
use Rattle.fort_reachability.specs.Reachability.{ClosureIsReachability}
use Rattle.fort_reachability.proofs.TransducersLaws.{Reduces-to_ground, Reduces-from_ground}
use Rattle.fort_reachability.proofs.Reductions.{Reduction, Below, ByRoot, Reductions, NoReduction, MoreReductions, Reduces-through_root, Reduces-from_Reduction, Reduction-from_Reduces}
use Rattle.fort_reachability.proofs.ClosureTableExact.{InClosure-Reaches}
use Rattle.fort_reachability.proofs.ClosedLeft.{Takes-closed_left}
use Rattle.fort_reachability.proofs.ClosedRight.{Takes-closed_right}

module _ {Left Right : Type 0} (signature : Signature) (transducer : Transducer Left Right) (fits : FitsTransducer signature transducer) where
  through_root-from_closed : (s t : Tree) → Transduces signature (closed transducer) s t → ReducesThroughRoot (Transduces signature transducer) s t
  through_root-from_closed s t h =
      let into = (Takes-closed_left signature transducer fits s h.left_grounded h.left_state).0 h.left_taken in
      let from = (Takes-closed_right signature transducer fits t h.right_grounded h.right_state).0 h.right_taken in
      let one : Transduces signature transducer into.0 from.0 = record {
        left_state = h.left_state;
        right_state = h.right_state;
        paired = h.paired;
        left_taken = into.2;
        right_taken = from.1;
        left_grounded = Reduces-to_ground signature transducer s into.0 into.1 h.left_grounded;
        right_grounded = Reduces-from_ground signature transducer from.0 t from.2 h.right_grounded;
      } in
      (into.0, from.0, into.1, one, from.2)

  closed-from_through_root : (s t : Tree) → ReducesThroughRoot (Transduces signature transducer) s t → Transduces signature (closed transducer) s t
  closed-from_through_root s t (u, v, h, one, k) =
      let gs : IsGround signature s =
      Reduces-from_ground signature transducer s u h one.left_grounded in
      let gt : IsGround signature t =
      Reduces-to_ground signature transducer v t k one.right_grounded in
      record {
        left_state = one.left_state;
        right_state = one.right_state;
        paired = one.paired;
        left_taken = (Takes-closed_left signature transducer fits s gs one.left_state).1 (u, h, one.left_taken);
        right_taken = (Takes-closed_right signature transducer fits t gt one.right_state).1 (v, one.right_taken, k);
        left_grounded = gs;
        right_grounded = gt;
      }

  -- the closed transducer relates what reduces with a step at the root
  pub Transduces-closed : (s t : Tree) → Transduces signature (closed transducer) s t ↔ ReducesThroughRoot (Transduces signature transducer) s t
  Transduces-closed s t = (through_root-from_closed s t, closed-from_through_root s t)

  mutual
    parallel-from_Reduction : {s t : Tree} → Reduction (Transduces signature transducer) s t
        → RewritesInParallel (Transduces signature (closed transducer)) s t
    parallel-from_Reduction (Below ks) = Inside (parallel-from_Reductions ks)
    parallel-from_Reduction (ByRoot {f = f} {ss = ss} {us = us} {v = v} {t = t} ks one rest) =
        AtRoot (closed-from_through_root (Node f ss) t (Node f us, v, Reduces-from_Reduction (Below ks), one, Reduces-from_Reduction rest))

    parallel-from_Reductions : {ss ts : Trees} → Reductions (Transduces signature transducer) ss ts
        → AllRewriteInParallel (Transduces signature (closed transducer)) ss ts
    parallel-from_Reductions NoReduction = End
    parallel-from_Reductions (MoreReductions k ks) = Both (parallel-from_Reduction k) (parallel-from_Reductions ks)

  reduces-from_through_root : (s t : Tree) → ReducesThroughRoot (Transduces signature transducer) s t → Reduces (Transduces signature transducer) s t
  reduces-from_through_root s t (u, v, h, one, k) = Reduces-through_root (Transduces signature transducer) s u v t h one k

  mutual
    Reduction-from_parallel : {s t : Tree} → RewritesInParallel (Transduces signature (closed transducer)) s t
        → Reduction (Transduces signature transducer) s t
    Reduction-from_parallel (AtRoot {s = s} {t = t} h) = Reduction-from_Reduces s t (reduces-from_through_root s t (through_root-from_closed s t h))
    Reduction-from_parallel (Inside ks) = Below (Reductions-from_parallel ks)

    Reductions-from_parallel : {ss ts : Trees} → AllRewriteInParallel (Transduces signature (closed transducer)) ss ts
        → Reductions (Transduces signature transducer) ss ts
    Reductions-from_parallel End = NoReduction
    Reductions-from_parallel (Both k ks) = MoreReductions (Reduction-from_parallel k) (Reductions-from_parallel ks)

  -- a reduction by the transducer is one parallel step by the closed one
  pub Reduces-closed : (s t : Tree)
      → Reduces (Transduces signature transducer) s t ↔ RewritesInParallel (Transduces signature (closed transducer)) s t
  Reduces-closed s t = (
    (λ h. parallel-from_Reduction (Reduction-from_Reduces s t h)),
    (λ h. Reduces-from_Reduction (Reduction-from_parallel h)),
  )

pub closure-is_reachability : {Left Right : Type 0} (signature : Signature) (transducer : Transducer Left Right) → FitsTransducer signature transducer
    → ClosureIsReachability signature transducer
closure-is_reachability signature transducer fits = record {
  table = InClosure-Reaches signature transducer fits;
  left = Takes-closed_left signature transducer fits;
  right = Takes-closed_right signature transducer fits;
  through_root = Transduces-closed signature transducer fits;
  everywhere = Reduces-closed signature transducer fits;
}
