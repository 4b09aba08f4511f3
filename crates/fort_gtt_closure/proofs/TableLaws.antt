-- The list of the passes has exactly the pairs of the closure table.
use Rattle.std.proofs.Common.{◌≡◌, ◌↔◌, ℕ, zero, suc, ◌<◌, List, [], ◌∷◌, Bool, true, false, length, take, refl, subst, arith, Some, inl, inr}
use Rattle.std.specs.Prelude.{slice_get}
use Rattle.std.proofs.lemmas.Option.{slice_get_within}
use Rattle.fort_theory.specs.Trees.{Tree}
use Rattle.fort_theory.specs.Signatures.{Signature}
use Rattle.fort_theory.proofs.Members.{Contains-head}
use Rattle.fort_reachability.specs.TreeAutomata.{Takes, ByAny, ByMove, BySilentMove}
use Rattle.fort_reachability.specs.Transducers.{FitsTransducer}
use Rattle.fort_reachability.specs.ClosureTables as table
use Rattle.fort_reachability.specs.ClosureTables.{InClosure, AllInClosure, AnyRight, AnyLeft, ByMoves, ThroughPair, NoneIn, MoreIn}
use Rattle.fort_reachability.specs.Reachability.{Reaches}
use Rattle.fort_reachability.proofs.ClosureTableExact.{InClosure-Reaches}
use Rattle.fort_tree_automata.specs.declared.nta.Nta.{Nta}
use Rattle.fort_tree_automata.specs.NtaView as automata
use Rattle.fort_tree_automata.specs.NtaView.{MoveParts, moves_of, automaton_of}
use Rattle.fort_tree_automata.proofs.Truths.{not_both}
use Rattle.fort_transducers.specs.declared.agtt.Agtt.{Agtt}
use Rattle.fort_transducers.specs.AgttView.{NamesItsStates, transducer_of}
use Rattle.fort_gtt_closure.specs.declared.entry.Entry.{Entry}
use Rattle.fort_gtt_closure.specs.declared.entry.Why.{Why}
use Rattle.fort_gtt_closure.specs.declared.entry.Why.TheVariants.{Any, Kids, SilentRight, SilentLeft, Pair}
use Rattle.fort_gtt_closure.specs.Grids.{is_listed}
use Rattle.fort_gtt_closure.specs.Reasons.{IsListed, AllListed, Follows}
use Rattle.fort_gtt_closure.specs.Passes.{IsListOfPasses}
use Rattle.fort_gtt_closure.proofs.Places.{Contains-place, place-Contains, place-take}
use Rattle.fort_gtt_closure.proofs.ListedLaws.{listed-from_test, test-from_listed, listed-place}

-- a state that takes some tree is one of the states
pub state-below : (nta : Nta) → automata.NamesItsStates nta → {t : Tree} {q : ℕ} → Takes (automaton_of nta) t q → q < nta.states
state-below nta named (ByAny {q = q} h) = named.any q h
state-below nta named (ByMove {f = f} {qs = qs} {q = q} m hs) = named.moves f qs q m q (Contains-head q qs)
state-below nta named (BySilentMove {o = o} {q = q} m h) = (named.silent o q m).1

module _ (agtt : Agtt) where
  abbrev InTable : ℕ → ℕ → Type 0
  InTable p q = InClosure (transducer_of agtt) p q

  -- what follows from pairs in the table is in the table

  all_in_table : (es : List Entry) → ((p q : ℕ) → IsListed es p q → InTable p q) → (ps qs : List ℕ) → AllListed es ps qs → AllInClosure (transducer_of agtt) ps qs
  all_in_table es known [] [] h = NoneIn
  all_in_table es known [] (q ∷ qs) h = absurd h
  all_in_table es known (p ∷ ps) [] h = absurd h
  all_in_table es known (p ∷ ps) (q ∷ qs) h = MoreIn (known p q h.0) (all_in_table es known ps qs h.1)

  in_table-from_Follows : (es : List Entry) → ((p q : ℕ) → IsListed es p q → InTable p q) → (p q : ℕ) (why : Why) → Follows agtt es p q why → InTable p q
  in_table-from_Follows es known p q Any (inl w) = AnyRight w.0 w.1
  in_table-from_Follows es known p q Any (inr w) = AnyLeft w.0 w.1
  in_table-from_Follows es known p q (Kids k j) h =
      ByMoves (Contains-place (moves_of agtt.right) k (h.symbol, h.rights, p) h.right_move) (Contains-place (moves_of agtt.left) j (h.symbol, h.lefts, q) h.left_move)
      (all_in_table es known h.rights h.lefts h.listed)
  in_table-from_Follows es known p q (SilentRight k) w = table.SilentRight (Contains-place agtt.right.silent.items k (w.0, p) w.1) (known w.0 q w.2)
  in_table-from_Follows es known p q (SilentLeft k) w = table.SilentLeft (Contains-place agtt.left.silent.items k (w.0, q) w.1) (known p w.0 w.2)
  in_table-from_Follows es known p q (Pair k) w = ThroughPair (Contains-place agtt.pairs.items k (w.0, w.1) w.2) (known p w.0 w.3) (known w.1 q w.4)

  module _ (es : List Entry) (list : IsListOfPasses agtt es) where
    -- the first n entries are in the table
    entries_in_table : (n k : ℕ) → k < n → (e : Entry) → slice_get es k ≡ Some e → InTable e.p e.q
    entries_in_table zero k lt e at = absurd (omega (arith, lt))
    entries_in_table (suc n) k lt e at =
        in_table-from_Follows (take k es)
        (λ p q h.
        let w = listed-place (take k es) p q h in
        let there = place-take es k w.0 w.1 w.2 in
        subst (λ x. InTable x q) w.3 (subst (λ x. InTable w.1.p x) w.4 (entries_in_table n w.0 (omega (arith, there.0, lt)) w.1 there.1)))
        e.p e.q (list.each k e at).due.why (list.each k e at).due.follows

    in_table-from_listed : (p q : ℕ) → IsListed es p q → InTable p q
    in_table-from_listed p q h =
        let w = listed-place es p q h in
        let low = slice_get_within es w.0 w.1 w.2 in
        subst (λ x. InTable x q) w.3 (subst (λ x. InTable w.1.p x) w.4 (entries_in_table (length es) w.0 low w.1 w.2))

    -- what is in the table is listed, since nothing is due

    record Found (p q : ℕ) : Type 0 where
      right : p < agtt.right.states
      left : q < agtt.left.states
      listed : IsListed es p q

    found-by_test : (p q : ℕ) → p < agtt.right.states → q < agtt.left.states → (why : Why) → Follows agtt es p q why
        → (b : Bool) → is_listed es p q ≡ b → Found p q
    found-by_test p q right left why h true e = record { right = right; left = left; listed = listed-from_test es p q e }
    found-by_test p q right left why h false e =
        absurd (list.done p q (record { right = right; left = left; unlisted = λ there. not_both (test-from_listed es p q there) e; why = why; follows = h }))

    found : (p q : ℕ) → p < agtt.right.states → q < agtt.left.states → (why : Why) → Follows agtt es p q why → Found p q
    found p q right left why h = found-by_test p q right left why h (is_listed es p q) refl

    module _ (named : NamesItsStates agtt) where
      mutual
        found-from_table : {p q : ℕ} → InTable p q → Found p q
        found-from_table (AnyRight {p = p} {q = q} h i) = found p q (named.right.any p h) (state-below agtt.left named.left i.taken) Any (inl (h, i))
        found-from_table (AnyLeft {p = p} {q = q} h i) = found p q (state-below agtt.right named.right i.taken) (named.left.any q h) Any (inr (h, i))
        found-from_table (ByMoves {f = f} {ps = ps} {p = p} {qs = qs} {q = q} m n hs) =
            let right = place-Contains (moves_of agtt.right) (f, ps, p) m in
            let left = place-Contains (moves_of agtt.left) (f, qs, q) n in
            found p q (named.right.moves f ps p m p (Contains-head p ps)) (named.left.moves f qs q n q (Contains-head q qs)) (Kids right.0 left.0)
            (record { symbol = f; rights = ps; lefts = qs; right_move = right.1; left_move = left.1; listed = all_listed-from_table hs })
        found-from_table (table.SilentRight {o = o} {p = p} {q = q} m h) =
            let source : Found o q = found-from_table h in
            let step = place-Contains agtt.right.silent.items (o, p) m in
            found p q (named.right.silent o p m).1 source.left (SilentRight step.0) (o, step.1, source.listed)
        found-from_table (table.SilentLeft {p = p} {o = o} {q = q} m h) =
            let source : Found p o = found-from_table h in
            let step = place-Contains agtt.left.silent.items (o, q) m in
            found p q source.right (named.left.silent o q m).1 (SilentLeft step.0) (o, step.1, source.listed)
        found-from_table (ThroughPair {p = p} {a = a} {b = b} {q = q} m h k) =
            let to : Found p a = found-from_table h in
            let on : Found b q = found-from_table k in
            let pair = place-Contains agtt.pairs.items (a, b) m in
            found p q to.right on.left (Pair pair.0) (a, b, pair.1, to.listed, on.listed)

        all_listed-from_table : {ps qs : List ℕ} → AllInClosure (transducer_of agtt) ps qs → AllListed es ps qs
        all_listed-from_table NoneIn = tt
        all_listed-from_table (MoreIn {p = p} {q = q} h hs) = let one : Found p q = found-from_table h in (one.listed, all_listed-from_table hs)

      pub listed-InClosure : (p q : ℕ) → IsListed es p q ↔ InClosure (transducer_of agtt) p q
      listed-InClosure p q = (in_table-from_listed p q, λ h. let w : Found p q = found-from_table h in w.listed)

      pub listed-Reaches : (signature : Signature) → FitsTransducer signature (transducer_of agtt) → (p q : ℕ)
          → IsListed es p q ↔ Reaches signature (transducer_of agtt) p q
      listed-Reaches signature fits p q =
          let exact = InClosure-Reaches signature (transducer_of agtt) fits p q in
          (λ h. exact.0 ((listed-InClosure p q).0 h), λ h. (listed-InClosure p q).1 (exact.1 h))
