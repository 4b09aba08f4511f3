-- A pair of states is in the closure table exactly where some ground term of the right state reduces to some ground term of the left one.
use Rattle.std.specs.Prelude.{◌↔◌, ℕ, List, Some}
use Rattle.std.proofs.Common.{ap, ◌∙◌}
use Rattle.fort_theory.specs.Trees.{Tree, Trees, Node, Nil, More}
use Rattle.fort_theory.specs.Signatures.{Signature, IsGround, AreGround}
use Rattle.fort_reachability.specs.TreeAutomata.{Takes, ByAny, ByMove, BySilentMove, AllTaken, NoneTaken, MoreTaken}
use Rattle.fort_reachability.specs.Transducers.{Transducer, Transduces, FitsTransducer}
use Rattle.fort_reachability.specs.ClosureTables.{InClosure, AnyRight, AnyLeft, ByMoves, ThroughPair, SilentRight, SilentLeft, AllInClosure, NoneIn, MoreIn}
use Rattle.fort_reachability.specs.Reachability.{Reaches}
use Rattle.fort_reachability.proofs.TransducersLaws.{length-AllTaken}
use Rattle.fort_reachability.proofs.GroundTaken.{grounded-from_Takes}
use Rattle.fort_reachability.proofs.Reductions.{Reduction, Below, ByRoot, Reductions, NoReduction, MoreReductions, Reduces-refl, Reduces-through_root, Reduces-from_Reduction, Reduction-from_Reduces}

-- Of a reduction between terms of two states, the pair of states is in the table

module _ {Left Right : Type 0} (signature : Signature) (transducer : Transducer Left Right) where
  -- any two lists of states that take these trees are in the table
  abbrev ChildrenIn : Trees → Trees → Type 0
  ChildrenIn ss ts = (ps : List Right) (qs : List Left) → AllTaken transducer.right ss ps → AllTaken transducer.left ts qs
      → AllInClosure transducer ps qs

  -- at a node whose children are done, by what takes it on the left, and then on the right
  node-after_move : (f : ℕ) {ss ts : Trees} → ChildrenIn ss ts
      → {ps : List Right} {p : Right} → transducer.right.HasMove f ps p → AllTaken transducer.right ss ps
      → {q : Left} → Takes transducer.left (Node f ts) q → InClosure transducer p q
  node-after_move f {ss = ss} children m hs (ByAny h) = AnyLeft h (record { tree = Node f ss; taken = ByMove m hs })
  node-after_move f children m hs (ByMove n ks) = ByMoves m n (children _ _ hs ks)
  node-after_move f children m hs (BySilentMove n k) = SilentLeft n (node-after_move f children m hs k)

  node-in_table : (f : ℕ) {ss ts : Trees} → ChildrenIn ss ts
      → {p : Right} → Takes transducer.right (Node f ss) p → {q : Left} → Takes transducer.left (Node f ts) q → InClosure transducer p q
  node-in_table f {ts = ts} children (ByAny h) k = AnyRight h (record { tree = Node f ts; taken = k })
  node-in_table f children (ByMove m hs) k = node-after_move f children m hs k
  node-in_table f children (BySilentMove m h) k = SilentRight m (node-in_table f children h k)

  none-in_table : {ps : List Right} {qs : List Left} → AllTaken transducer.right Nil ps → AllTaken transducer.left Nil qs
      → AllInClosure transducer ps qs
  none-in_table NoneTaken NoneTaken = NoneIn

  more-in_table : {s t : Tree} {ss ts : Trees}
      → ((p : Right) (q : Left) → Takes transducer.right s p → Takes transducer.left t q → InClosure transducer p q)
      → ChildrenIn ss ts → {ps : List Right} {qs : List Left} → AllTaken transducer.right (More s ss) ps → AllTaken transducer.left (More t ts) qs
      → AllInClosure transducer ps qs
  more-in_table first rest (MoreTaken h hs) (MoreTaken k ks) = MoreIn (first _ _ h k) (rest _ _ hs ks)

  mutual
    pub InClosure-from_Reduction : {s t : Tree} → Reduction (Transduces signature transducer) s t
        → (p : Right) (q : Left) → Takes transducer.right s p → Takes transducer.left t q → InClosure transducer p q
    InClosure-from_Reduction (Below {f = f} ks) p q a b = node-in_table f (AllInClosure-from_Reductions ks) a b
    InClosure-from_Reduction (ByRoot {f = f} ks one rest) p q a b =
        ThroughPair one.paired
        (node-in_table f (AllInClosure-from_Reductions ks) a one.left_taken)
        (InClosure-from_Reduction rest one.right_state q one.right_taken b)

    AllInClosure-from_Reductions : {ss ts : Trees} → Reductions (Transduces signature transducer) ss ts
        → (ps : List Right) (qs : List Left) → AllTaken transducer.right ss ps → AllTaken transducer.left ts qs → AllInClosure transducer ps qs
    AllInClosure-from_Reductions NoReduction ps qs a b = none-in_table a b
    AllInClosure-from_Reductions (MoreReductions k ks) ps qs a b =
        more-in_table (InClosure-from_Reduction k) (AllInClosure-from_Reductions ks) a b

-- Of a pair in the table, there is such a reduction

-- the same, one by one
record AllReach {Left Right : Type 0} (signature : Signature) (transducer : Transducer Left Right) (ps : List Right) (qs : List Left) : Type 0 where
  starts : Trees
  ends : Trees
  starts_taken : AllTaken transducer.right starts ps
  ends_taken : AllTaken transducer.left ends qs
  starts_grounded : AreGround signature starts
  ends_grounded : AreGround signature ends
  reduce : Reductions (Transduces signature transducer) starts ends

module _ {Left Right : Type 0} (signature : Signature) (transducer : Transducer Left Right) (fits : FitsTransducer signature transducer) where
  at-one_tree : {p : Right} {q : Left} (t : Tree) → IsGround signature t → Takes transducer.right t p → Takes transducer.left t q
      → Reaches signature transducer p q
  at-one_tree t grounded h k = record {
    start = t;
    end = t;
    start_taken = h;
    end_taken = k;
    start_grounded = grounded;
    end_grounded = grounded;
    reduces = Reduces-refl (Transduces signature transducer) t;
  }

  at-moves : {f : ℕ} {ps : List Right} {p : Right} {qs : List Left} {q : Left} → transducer.right.HasMove f ps p → transducer.left.HasMove f qs q
      → AllReach signature transducer ps qs → Reaches signature transducer p q
  at-moves {f = f} {ps = ps} {p = p} {qs = qs} {q = q} m n k = record {
    start = Node f k.starts;
    end = Node f k.ends;
    start_taken = ByMove m k.starts_taken;
    end_taken = ByMove n k.ends_taken;
    start_grounded = (fits.right f ps p m ∙ ap Some (length-AllTaken k.starts_taken), k.starts_grounded);
    end_grounded = (fits.left f qs q n ∙ ap Some (length-AllTaken k.ends_taken), k.ends_grounded);
    reduces = Reduces-from_Reduction (Below k.reduce);
  }

  at-pair : {p : Right} {a : Left} {b : Right} {q : Left} → transducer.HasPair a b → Reaches signature transducer p a → Reaches signature transducer b q
      → Reaches signature transducer p q
  at-pair {a = a} {b = b} paired h k = record {
    start = h.start;
    end = k.end;
    start_taken = h.start_taken;
    end_taken = k.end_taken;
    start_grounded = h.start_grounded;
    end_grounded = k.end_grounded;
    reduces = Reduces-through_root (Transduces signature transducer) h.start h.end k.start k.end h.reduces
        (record {
          left_state = a;
          right_state = b;
          paired = paired;
          left_taken = h.end_taken;
          right_taken = k.start_taken;
          left_grounded = h.end_grounded;
          right_grounded = k.start_grounded;
        })
        k.reduces;
  }

  mutual
    pub Reaches-from_InClosure : {p : Right} {q : Left} → InClosure transducer p q → Reaches signature transducer p q
    Reaches-from_InClosure (AnyRight h i) =
        let w = grounded-from_Takes signature fits.constant transducer.left fits.left i.taken in
        at-one_tree w.0 w.1 (ByAny h) w.2
    Reaches-from_InClosure (AnyLeft h i) =
        let w = grounded-from_Takes signature fits.constant transducer.right fits.right i.taken in
        at-one_tree w.0 w.1 w.2 (ByAny h)
    Reaches-from_InClosure (ByMoves m n ks) = at-moves m n (AllReach-from_AllInClosure ks)
    Reaches-from_InClosure (ThroughPair paired h k) = at-pair paired (Reaches-from_InClosure h) (Reaches-from_InClosure k)
    Reaches-from_InClosure (SilentRight m h) =
        let k = Reaches-from_InClosure h in
        record {
          start = k.start;
          end = k.end;
          start_taken = BySilentMove m k.start_taken;
          end_taken = k.end_taken;
          start_grounded = k.start_grounded;
          end_grounded = k.end_grounded;
          reduces = k.reduces;
        }
    Reaches-from_InClosure (SilentLeft m h) =
        let k = Reaches-from_InClosure h in
        record {
          start = k.start;
          end = k.end;
          start_taken = k.start_taken;
          end_taken = BySilentMove m k.end_taken;
          start_grounded = k.start_grounded;
          end_grounded = k.end_grounded;
          reduces = k.reduces;
        }

    AllReach-from_AllInClosure : {ps : List Right} {qs : List Left} → AllInClosure transducer ps qs → AllReach signature transducer ps qs
    AllReach-from_AllInClosure NoneIn = record {
      starts = Nil;
      ends = Nil;
      starts_taken = NoneTaken;
      ends_taken = NoneTaken;
      starts_grounded = tt;
      ends_grounded = tt;
      reduce = NoReduction;
    }
    AllReach-from_AllInClosure (MoreIn {p = p} {q = q} h hs) =
        let k : Reaches signature transducer p q = Reaches-from_InClosure h in
        let ks = AllReach-from_AllInClosure hs in
        record {
          starts = More k.start ks.starts;
          ends = More k.end ks.ends;
          starts_taken = MoreTaken k.start_taken ks.starts_taken;
          ends_taken = MoreTaken k.end_taken ks.ends_taken;
          starts_grounded = (k.start_grounded, ks.starts_grounded);
          ends_grounded = (k.end_grounded, ks.ends_grounded);
          reduce = MoreReductions (Reduction-from_Reduces k.start k.end k.reduces) ks.reduce;
        }

  pub InClosure-Reaches : (p : Right) (q : Left) → InClosure transducer p q ↔ Reaches signature transducer p q
  InClosure-Reaches p q = (
    Reaches-from_InClosure,
    (λ h. InClosure-from_Reduction signature transducer (Reduction-from_Reduces h.start h.end h.reduces) p q h.start_taken h.end_taken),
  )
