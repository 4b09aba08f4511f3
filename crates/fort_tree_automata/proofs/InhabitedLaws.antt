-- What is marked once nothing changes are the states that take some tree.
use Rattle.std.proofs.Common.{◌≡◌, ℕ, List, [], ◌∷◌, Bool, true, false, length, get_or, ap, refl, arith, Some}
use Rattle.std.proofs.Math.ListN.{replicate}
use Rattle.fort_theory.specs.Trees.{Tree, Trees, Node, Nil, More}
use Rattle.fort_theory.proofs.Members.{Contains-head}
use Rattle.fort_reachability.specs.TreeAutomata.{Takes, ByAny, ByMove, BySilentMove, AllTaken, NoneTaken, MoreTaken, IsInhabited}
use Rattle.fort_tree_automata.specs.declared.nta.Nta.{Nta}
use Rattle.fort_tree_automata.specs.NtaView.{NamesItsStates, moves_of, automaton_of}
use Rattle.fort_tree_automata.specs.Marks.{all_marked, with_any, with_pass, with_silent, IsSettled}
use Rattle.fort_tree_automata.specs.InhabitedStates.{IsMarked, MarksInhabited}
use Rattle.fort_tree_automata.proofs.Truths.{and_left, and_right, and_both}
use Rattle.fort_tree_automata.proofs.MarksLaws.{trues, Have, Stays-any, any-marked, any-have, each-have, each-woken}
use Rattle.fort_tree_automata.proofs.SettledLaws.{none_marked, IsPass-both, Settled-stays, Settled-have, silent_woken, pass_parts}

module _ (nta : Nta) where
  abbrev Some_tree : ℕ → Type 0
  Some_tree = IsInhabited (automaton_of nta)

  pub kids-from_marked : (fs : List Bool) → Have Some_tree fs → (qs : List ℕ) → all_marked fs qs ≡ true → (ts : Trees) × AllTaken (automaton_of nta) ts qs
  kids-from_marked fs l [] h = (Nil, NoneTaken)
  kids-from_marked fs l (q ∷ qs) h =
      let i = l q (and_left (get_or fs q false) (all_marked fs qs) h) in
      let k = kids-from_marked fs l qs (and_right (get_or fs q false) (all_marked fs qs) h) in
      (More i.tree k.0, MoreTaken i.taken k.1)

  any_inhabited : (q : ℕ) → nta.any ≡ Some q → Some_tree q
  any_inhabited q e = record { tree = Node 0 Nil; taken = ByAny e }

  pass_inhabited : (fs : List Bool) → Have Some_tree fs → Have Some_tree (with_pass nta fs)
  pass_inhabited fs l =
      each-have _ _ Some_tree (moves_of nta) (with_silent nta.silent.items fs)
      (λ gs m c have w. let k = kids-from_marked gs have m.1 w in record { tree = Node m.0 k.0; taken = ByMove c k.1 })
      (each-have _ _ Some_tree nta.silent.items fs (λ gs m c have w. let i = have m.0 w in record { tree = i.tree; taken = BySilentMove c i.taken }) l)

  module _ (names : NamesItsStates nta) (fs : List Bool) (sized : length fs ≡ nta.states) (any : (q : ℕ) → nta.any ≡ Some q → IsMarked fs q)
      (steady : with_pass nta fs ≡ fs) where
    mutual
      marked-from_Takes : {t : Tree} {q : ℕ} → Takes (automaton_of nta) t q → IsMarked fs q
      marked-from_Takes (ByAny {q = q} h) = any q h
      marked-from_Takes (ByMove {f = f} {qs = qs} {q = q} m hs) =
          each-woken _ _ (moves_of nta) fs (ap trues (pass_parts nta fs steady).1) (f, qs, q) m (all_marked-from_AllTaken hs)
          (let l = names.moves f qs q m q (Contains-head q qs) in omega arith)
      marked-from_Takes (BySilentMove {o = o} {q = q} m h) =
          silent_woken nta.silent.items fs (pass_parts nta fs steady).0 o q m (marked-from_Takes h) (let l = names.silent o q m in omega (arith, l.1))

      all_marked-from_AllTaken : {ts : Trees} {qs : List ℕ} → AllTaken (automaton_of nta) ts qs → all_marked fs qs ≡ true
      all_marked-from_AllTaken NoneTaken = refl
      all_marked-from_AllTaken (MoreTaken {q = q} {qs = qs} h hs) =
          and_both (get_or fs q false) (all_marked fs qs) (marked-from_Takes h) (all_marked-from_AllTaken hs)

  pub MarksInhabited-settled : NamesItsStates nta → (none start fs : List Bool) → none ≡ replicate nta.states false → length none ≡ nta.states
      → start ≡ with_any none nta.any → IsSettled (with_pass nta) start fs → MarksInhabited nta fs
  MarksInhabited-settled names none start fs is_none long is_start s q =
      let any = Stays-any none nta.any in
      let stays = Settled-stays (with_pass nta) start fs (IsPass-both nta) s in
      let begun : length start ≡ length (with_any none nta.any) = ap length is_start in
      let sized : length fs ≡ nta.states = omega (arith, stays.length_same, any.length_same) in
      let before : Have Some_tree start = rw (is_start, is_none) (any-have Some_tree (replicate nta.states false) nta.any any_inhabited (none_marked nta.states Some_tree)) in (
        λ h. Settled-have (with_pass nta) Some_tree start fs pass_inhabited s before q h,
        λ i. marked-from_Takes names fs sized
            (λ p e. stays.keeps p (rw is_start (any-marked none nta.any p e (let l = names.any p e in omega arith)))) s.steady i.taken,
      )
