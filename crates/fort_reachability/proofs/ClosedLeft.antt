-- The closed left automaton takes a ground term to the states of the terms that it reduces to.
use Rattle.std.specs.Prelude.{◌↔◌, ◌⊎◌, ℕ, List}
use Rattle.std.proofs.Common.{inl, inr}
use Rattle.fort_theory.specs.Trees.{Tree, Trees, Node, Nil, More}
use Rattle.fort_theory.specs.Signatures.{Signature, IsGround, AreGround}
use Rattle.fort_reachability.specs.TreeAutomata.{Takes, ByAny, ByMove, BySilentMove, AllTaken, NoneTaken, MoreTaken}
use Rattle.fort_reachability.specs.Transducers.{Transducer, Transduces, FitsTransducer}
use Rattle.fort_reachability.specs.ClosureTables.{InClosure}
use Rattle.fort_reachability.specs.ClosedTransducers.{closed_left}
use Rattle.fort_reachability.specs.Reachability.{Reaches, ReducesInto}
use Rattle.fort_reachability.proofs.TransducersLaws.{Reduces-to_ground}
use Rattle.fort_reachability.proofs.Reductions.{Reduction, Below, ByRoot, Reductions, NoReduction, MoreReductions, Reduces-refl, Reduces-through_root, Reduces-from_Reduction, Reduction-from_Reduces}
use Rattle.fort_reachability.proofs.ClosureTableExact.{InClosure-from_Reduction, Reaches-from_InClosure}

module _ {Left Right : Type 0} (signature : Signature) (transducer : Transducer Left Right) where
  -- what a term reduces to is taken by the left automaton: the closed one takes the term
  closed-at_node : (f : ℕ) {ss ts : Trees} → ((qs : List Left) → AllTaken transducer.left ts qs → AllTaken (closed_left transducer) ss qs)
      → {q : Left} → Takes transducer.left (Node f ts) q → Takes (closed_left transducer) (Node f ss) q
  closed-at_node f children (ByAny h) = ByAny h
  closed-at_node f children (ByMove m hs) = ByMove m (children _ hs)
  closed-at_node f children (BySilentMove m h) = BySilentMove (inl m) (closed-at_node f children h)

  closed-none : {qs : List Left} → AllTaken transducer.left Nil qs → AllTaken (closed_left transducer) Nil qs
  closed-none NoneTaken = NoneTaken

  closed-more : {s t : Tree} {ss ts : Trees} → ((q : Left) → Takes transducer.left t q → Takes (closed_left transducer) s q)
      → ((qs : List Left) → AllTaken transducer.left ts qs → AllTaken (closed_left transducer) ss qs)
      → {qs : List Left} → AllTaken transducer.left (More t ts) qs → AllTaken (closed_left transducer) (More s ss) qs
  closed-more first rest (MoreTaken h hs) = MoreTaken (first _ h) (rest _ hs)

  mutual
    closed_left-from_Reduction : {s t : Tree} → Reduction (Transduces signature transducer) s t
        → (q : Left) → Takes transducer.left t q → Takes (closed_left transducer) s q
    closed_left-from_Reduction (Below {f = f} ks) q h = closed-at_node f (all_closed_left-from_Reductions ks) h
    closed_left-from_Reduction (ByRoot {f = f} ks one rest) q h =
        BySilentMove
        (inr (
          one.right_state,
          one.paired,
          InClosure-from_Reduction signature transducer rest one.right_state q one.right_taken h,
        ))
        (closed-at_node f (all_closed_left-from_Reductions ks) one.left_taken)

    all_closed_left-from_Reductions : {ss ts : Trees} → Reductions (Transduces signature transducer) ss ts
        → (qs : List Left) → AllTaken transducer.left ts qs → AllTaken (closed_left transducer) ss qs
    all_closed_left-from_Reductions NoReduction qs h = closed-none h
    all_closed_left-from_Reductions (MoreReductions k ks) qs h =
        closed-more (closed_left-from_Reduction k) (all_closed_left-from_Reductions ks) h

-- the same, one by one
record AllReduceInto {Left Right : Type 0} (signature : Signature) (transducer : Transducer Left Right) (ss : Trees) (qs : List Left) : Type 0 where
  ends : Trees
  reduce : Reductions (Transduces signature transducer) ss ends
  taken : AllTaken transducer.left ends qs

module _ {Left Right : Type 0} (signature : Signature) (transducer : Transducer Left Right) (fits : FitsTransducer signature transducer) where
  -- what the closed automaton takes reduces to a term that the left one takes
  into-after_pair : {s : Tree} {a q : Left} {b : Right} → IsGround signature s → transducer.HasPair a b
      → ReducesInto (Transduces signature transducer) transducer.left s a → Reaches signature transducer b q
      → ReducesInto (Transduces signature transducer) transducer.left s q
  into-after_pair {s = s} {a = a} {b = b} grounded paired h k =
      let one : Transduces signature transducer h.0 k.start = record {
        left_state = a;
        right_state = b;
        paired = paired;
        left_taken = h.2;
        right_taken = k.start_taken;
        left_grounded = Reduces-to_ground signature transducer s h.0 h.1 grounded;
        right_grounded = k.start_grounded;
      } in
      (k.end, Reduces-through_root (Transduces signature transducer) s h.0 k.start k.end h.1 one k.reduces, k.end_taken)

  into-after_silent : {s : Tree} {o q : Left} → IsGround signature s
      → transducer.left.HasSilentMove o q ⊎ ((b : Right) × transducer.HasPair o b × InClosure transducer b q)
      → ReducesInto (Transduces signature transducer) transducer.left s o → ReducesInto (Transduces signature transducer) transducer.left s q
  into-after_silent grounded (inl m) h = (h.0, h.1, BySilentMove m h.2)
  into-after_silent grounded (inr w) h = into-after_pair grounded w.1 h (Reaches-from_InClosure signature transducer fits w.2)

  mutual
    ReducesInto-from_closed_left : {s : Tree} {q : Left} → Takes (closed_left transducer) s q → IsGround signature s
        → ReducesInto (Transduces signature transducer) transducer.left s q
    ReducesInto-from_closed_left (ByAny {t = t} h) grounded = (t, Reduces-refl (Transduces signature transducer) t, ByAny h)
    ReducesInto-from_closed_left (ByMove {f = f} m hs) grounded =
        let k = AllReduceInto-from_closed_left hs grounded.1 in
        (Node f k.ends, Reduces-from_Reduction (Below k.reduce), ByMove m k.taken)
    ReducesInto-from_closed_left (BySilentMove w h) grounded = into-after_silent grounded w (ReducesInto-from_closed_left h grounded)

    AllReduceInto-from_closed_left : {ss : Trees} {qs : List Left} → AllTaken (closed_left transducer) ss qs → AreGround signature ss
        → AllReduceInto signature transducer ss qs
    AllReduceInto-from_closed_left NoneTaken grounded = record { ends = Nil; reduce = NoReduction; taken = NoneTaken }
    AllReduceInto-from_closed_left (MoreTaken {t = s} {q = q} h hs) grounded =
        let k : ReducesInto (Transduces signature transducer) transducer.left s q = ReducesInto-from_closed_left h grounded.0 in
        let ks = AllReduceInto-from_closed_left hs grounded.1 in
        record {
          ends = More k.0 ks.ends;
          reduce = MoreReductions (Reduction-from_Reduces s k.0 k.1) ks.reduce;
          taken = MoreTaken k.2 ks.taken;
        }

  pub Takes-closed_left : (s : Tree) → IsGround signature s → (q : Left)
      → Takes (closed_left transducer) s q ↔ ReducesInto (Transduces signature transducer) transducer.left s q
  Takes-closed_left s grounded q = (
    (λ h. ReducesInto-from_closed_left h grounded),
    (λ w. closed_left-from_Reduction signature transducer (Reduction-from_Reduces s w.0 w.1) q w.2),
  )
