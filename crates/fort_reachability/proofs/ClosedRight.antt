-- The closed right automaton takes a ground term to the states of the terms that reduce to it.
use Rattle.std.specs.Prelude.{◌↔◌, ◌⊎◌, ℕ, List}
use Rattle.std.proofs.Common.{inl, inr}
use Rattle.fort_theory.specs.Trees.{Tree, Trees, Node, Nil, More}
use Rattle.fort_theory.specs.Signatures.{Signature, IsGround, AreGround}
use Rattle.fort_reachability.specs.TreeAutomata.{Takes, ByAny, ByMove, BySilentMove, AllTaken, NoneTaken, MoreTaken}
use Rattle.fort_reachability.specs.Transducers.{Transducer, Transduces, FitsTransducer}
use Rattle.fort_reachability.specs.ClosureTables.{InClosure}
use Rattle.fort_reachability.specs.ClosedTransducers.{closed_right}
use Rattle.fort_reachability.specs.Reachability.{Reaches, ReducesFrom}
use Rattle.fort_reachability.proofs.TransducersLaws.{Reduces-from_ground}
use Rattle.fort_reachability.proofs.Reductions.{Reduction, Below, ByRoot, Reductions, NoReduction, MoreReductions, Reduces-refl, Reduces-through_root, Reduces-from_Reduction, Reduction-from_Reduces}
use Rattle.fort_reachability.proofs.ClosureTableExact.{InClosure-from_Reduction, Reaches-from_InClosure}

module _ {Left Right : Type 0} (signature : Signature) (transducer : Transducer Left Right) where
  -- a term that the right automaton takes reduces to another one: the closed one takes that
  closed-at_node : (f : ℕ) {ss ts : Trees} → ((ps : List Right) → AllTaken transducer.right ss ps → AllTaken (closed_right transducer) ts ps)
      → {p : Right} → Takes transducer.right (Node f ss) p → Takes (closed_right transducer) (Node f ts) p
  closed-at_node f children (ByAny h) = ByAny h
  closed-at_node f children (ByMove m hs) = ByMove m (children _ hs)
  closed-at_node f children (BySilentMove m h) = BySilentMove (inl m) (closed-at_node f children h)

  closed-none : {ps : List Right} → AllTaken transducer.right Nil ps → AllTaken (closed_right transducer) Nil ps
  closed-none NoneTaken = NoneTaken

  closed-more : {s t : Tree} {ss ts : Trees} → ((p : Right) → Takes transducer.right s p → Takes (closed_right transducer) t p)
      → ((ps : List Right) → AllTaken transducer.right ss ps → AllTaken (closed_right transducer) ts ps)
      → {ps : List Right} → AllTaken transducer.right (More s ss) ps → AllTaken (closed_right transducer) (More t ts) ps
  closed-more first rest (MoreTaken h hs) = MoreTaken (first _ h) (rest _ hs)

  mutual
    closed_right-from_Reduction : {s t : Tree} → Reduction (Transduces signature transducer) s t
        → (p : Right) → Takes transducer.right s p → Takes (closed_right transducer) t p
    closed_right-from_Reduction (Below {f = f} ks) p h = closed-at_node f (all_closed_right-from_Reductions ks) h
    closed_right-from_Reduction (ByRoot ks one rest) p h =
        BySilentMove
        (inr (
          one.left_state,
          one.paired,
          InClosure-from_Reduction signature transducer (Below ks) p one.left_state h one.left_taken,
        ))
        (closed_right-from_Reduction rest one.right_state one.right_taken)

    all_closed_right-from_Reductions : {ss ts : Trees} → Reductions (Transduces signature transducer) ss ts
        → (ps : List Right) → AllTaken transducer.right ss ps → AllTaken (closed_right transducer) ts ps
    all_closed_right-from_Reductions NoReduction ps h = closed-none h
    all_closed_right-from_Reductions (MoreReductions k ks) ps h =
        closed-more (closed_right-from_Reduction k) (all_closed_right-from_Reductions ks) h

-- the same, one by one
record AllReduceFrom {Left Right : Type 0} (signature : Signature) (transducer : Transducer Left Right) (ps : List Right) (ts : Trees) : Type 0 where
  starts : Trees
  taken : AllTaken transducer.right starts ps
  reduce : Reductions (Transduces signature transducer) starts ts

module _ {Left Right : Type 0} (signature : Signature) (transducer : Transducer Left Right) (fits : FitsTransducer signature transducer) where
  -- to what the closed automaton takes, a term that the right one takes reduces
  from-after_pair : {t : Tree} {a : Left} {p b : Right} → IsGround signature t → transducer.HasPair a b → Reaches signature transducer p a
      → ReducesFrom (Transduces signature transducer) transducer.right b t → ReducesFrom (Transduces signature transducer) transducer.right p t
  from-after_pair {t = t} {a = a} {b = b} grounded paired k h =
      let one : Transduces signature transducer k.end h.0 = record {
        left_state = a;
        right_state = b;
        paired = paired;
        left_taken = k.end_taken;
        right_taken = h.1;
        left_grounded = k.end_grounded;
        right_grounded = Reduces-from_ground signature transducer h.0 t h.2 grounded;
      } in
      (k.start, k.start_taken, Reduces-through_root (Transduces signature transducer) k.start k.end h.0 t k.reduces one h.2)

  from-after_silent : {t : Tree} {o p : Right} → IsGround signature t
      → transducer.right.HasSilentMove o p ⊎ ((a : Left) × transducer.HasPair a o × InClosure transducer p a)
      → ReducesFrom (Transduces signature transducer) transducer.right o t → ReducesFrom (Transduces signature transducer) transducer.right p t
  from-after_silent grounded (inl m) h = (h.0, BySilentMove m h.1, h.2)
  from-after_silent grounded (inr w) h = from-after_pair grounded w.1 (Reaches-from_InClosure signature transducer fits w.2) h

  mutual
    ReducesFrom-from_closed_right : {t : Tree} {p : Right} → Takes (closed_right transducer) t p → IsGround signature t
        → ReducesFrom (Transduces signature transducer) transducer.right p t
    ReducesFrom-from_closed_right (ByAny {t = t} h) grounded = (t, ByAny h, Reduces-refl (Transduces signature transducer) t)
    ReducesFrom-from_closed_right (ByMove {f = f} m hs) grounded =
        let k = AllReduceFrom-from_closed_right hs grounded.1 in
        (Node f k.starts, ByMove m k.taken, Reduces-from_Reduction (Below k.reduce))
    ReducesFrom-from_closed_right (BySilentMove w h) grounded = from-after_silent grounded w (ReducesFrom-from_closed_right h grounded)

    AllReduceFrom-from_closed_right : {ts : Trees} {ps : List Right} → AllTaken (closed_right transducer) ts ps → AreGround signature ts
        → AllReduceFrom signature transducer ps ts
    AllReduceFrom-from_closed_right NoneTaken grounded = record { starts = Nil; taken = NoneTaken; reduce = NoReduction }
    AllReduceFrom-from_closed_right (MoreTaken {t = t} {q = p} h hs) grounded =
        let k : ReducesFrom (Transduces signature transducer) transducer.right p t = ReducesFrom-from_closed_right h grounded.0 in
        let ks = AllReduceFrom-from_closed_right hs grounded.1 in
        record {
          starts = More k.0 ks.starts;
          taken = MoreTaken k.1 ks.taken;
          reduce = MoreReductions (Reduction-from_Reduces k.0 t k.2) ks.reduce;
        }

  pub Takes-closed_right : (t : Tree) → IsGround signature t → (p : Right)
      → Takes (closed_right transducer) t p ↔ ReducesFrom (Transduces signature transducer) transducer.right p t
  Takes-closed_right t grounded p = (
    (λ h. ReducesFrom-from_closed_right h grounded),
    (λ w. closed_right-from_Reduction signature transducer (Reduction-from_Reduces w.0 t w.2) p w.1),
  )
