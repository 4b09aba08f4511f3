-- What is marked for a node, from the rows of its children, are the states to which it is taken.
use Rattle.std.proofs.Common.{◌≡◌, ℕ, ◌<◌, List, [], ◌∷◌, ◌++◌, Bool, true, false, length, get_or, ap, ◌∙◌, refl, arith, Some, suc, ◌+◌, map, take, nat_eq, eq-eqb, eqb-true, subst}
use Rattle.std.specs.Prelude.{Contains, ◌&&◌, vec_items}
use Rattle.std.specs.declared.alloc.Global.{Global}
use Rattle.std.specs.declared.vec.Vec.{Vec}
use Rattle.std.proofs.lemmas.List.{take_more, map-append}
use Rattle.std.proofs.Math.ListN.{replicate}
use Rattle.fort_theory.specs.Trees.{Tree, Trees, Node, Nil, More, trees}
use Rattle.fort_theory.proofs.Members.{Contains-head}
use Rattle.fort_reachability.specs.TreeAutomata.{Takes, ByAny, ByMove, BySilentMove, AllTaken, NoneTaken, MoreTaken}
use Rattle.fort_tree_automata.specs.declared.nta.Nta.{Nta}
use Rattle.fort_tree_automata.specs.NtaView.{NamesItsStates, MoveParts, moves_of, automaton_of}
use Rattle.fort_tree_automata.specs.Marks.{marked_in_rows, with_any, with_node, with_silent, IsSettled, MarksTaken, AllMarkTaken}
use Rattle.fort_tree_automata.specs.InhabitedStates.{IsMarked}
use Rattle.fort_tree_automata.proofs.MarksLaws.{Have, Stays-any, Stays-each, any-marked, any-have, each-have, each-marked}
use Rattle.fort_tree_automata.proofs.SettledLaws.{none_marked, IsPass-silent, Settled-stays, Settled-have, silent_woken}
use Rattle.fort_tree_automata.proofs.Truths.{and_left, and_right, and_both}

-- as many rows as states are wanted for a move
pub rows-unequal : (rows : List (List Bool)) (qs : List ℕ) → (length rows ≡ length qs → ⊥) → marked_in_rows rows qs ≡ false
rows-unequal [] [] h = absurd (h refl)
rows-unequal [] (q ∷ qs) h = refl
rows-unequal (row ∷ rows) [] h = refl
rows-unequal (row ∷ rows) (q ∷ qs) h = ap (λ b. get_or row q false && b) (rows-unequal rows qs (λ k. h (ap suc k))) ∙ and_no (get_or row q false)
  where
    and_no : (x : Bool) → x && false ≡ false
    and_no true = refl
    and_no false = refl

module _ (nta : Nta) where
  all_taken-from_rows : (ts : Trees) (rows : List (List Bool)) → AllMarkTaken nta ts rows → (qs : List ℕ) → marked_in_rows rows qs ≡ true
      → AllTaken (automaton_of nta) ts qs
  all_taken-from_rows Nil [] a [] h = NoneTaken
  all_taken-from_rows Nil [] a (q ∷ qs) h = cc
  all_taken-from_rows Nil (row ∷ rows) a qs h = absurd a
  all_taken-from_rows (More t ts) [] a qs h = absurd a
  all_taken-from_rows (More t ts) (row ∷ rows) a [] h = cc
  all_taken-from_rows (More t ts) (row ∷ rows) a (q ∷ qs) h =
      MoreTaken ((a.0 q).0 (and_left (get_or row q false) (marked_in_rows rows qs) h))
      (all_taken-from_rows ts rows a.1 qs (and_right (get_or row q false) (marked_in_rows rows qs) h))

  rows-from_AllTaken : {ts : Trees} {qs : List ℕ} → AllTaken (automaton_of nta) ts qs → (rows : List (List Bool)) → AllMarkTaken nta ts rows
      → marked_in_rows rows qs ≡ true
  rows-from_AllTaken NoneTaken [] a = refl
  rows-from_AllTaken NoneTaken (row ∷ rows) a = absurd a
  rows-from_AllTaken (MoreTaken h hs) [] a = absurd a
  rows-from_AllTaken (MoreTaken {q = q} {qs = qs} h hs) (row ∷ rows) a =
      and_both (get_or row q false) (marked_in_rows rows qs) ((a.0 q).1 h) (rows-from_AllTaken hs rows a.1)

  pub AllMarkTaken-push : (ts : List Tree) (rows : List (List Bool)) (t : Tree) (row : List Bool) → AllMarkTaken nta (trees ts) rows → MarksTaken nta t row
      → AllMarkTaken nta (trees (ts ++ t ∷ [])) (rows ++ row ∷ [])
  AllMarkTaken-push [] [] t row a h = (h, tt)
  AllMarkTaken-push [] (r ∷ rows) t row a h = absurd a
  AllMarkTaken-push (u ∷ ts) [] t row a h = absurd a
  AllMarkTaken-push (u ∷ ts) (r ∷ rows) t row a h = (a.0, AllMarkTaken-push ts rows t row a.1 h)

  -- the row of one more child
  pub AllMarkTaken-more : (kids : List Tree) (i : ℕ) (kid : Tree) (rows new : List (Vec Bool Global)) (row : Vec Bool Global) → i < length kids → kid ≡ get_or kids i kid
      → new ≡ rows ++ row ∷ [] → AllMarkTaken nta (trees (take i kids)) (map vec_items rows) → MarksTaken nta kid (vec_items row)
      → AllMarkTaken nta (trees (take (i + 1) kids)) (map vec_items new)
  AllMarkTaken-more kids i kid rows new row l at is a h =
      rw (is, take_more kids i kid l, ← at, map-append vec_items rows (row ∷ [])) (AllMarkTaken-push (take i kids) (map vec_items rows) kid (vec_items row) a h)

  module _ (f : ℕ) (ts : Trees) (rows : List (List Bool)) (kids : AllMarkTaken nta ts rows) where
    abbrev Taken : ℕ → Type 0
    Taken = Takes (automaton_of nta) (Node f ts)

    node_taken : (fs : List Bool) → Have Taken fs → Have Taken (with_node f rows (moves_of nta) fs)
    node_taken fs l =
        each-have _ _ Taken (moves_of nta) fs
        (λ gs m c have w.
        let is : m.0 ≡ f = eqb-true m.0 f (and_left (nat_eq m.0 f) (marked_in_rows rows m.1) w) in
        let all = all_taken-from_rows ts rows kids m.1 (and_right (nat_eq m.0 f) (marked_in_rows rows m.1) w) in
        subst (λ g. Takes (automaton_of nta) (Node g ts) m.2) is (ByMove c all))
        l

    silent_taken : (fs : List Bool) → Have Taken fs → Have Taken (with_silent nta.silent.items fs)
    silent_taken fs l = each-have _ _ Taken nta.silent.items fs (λ gs m c have w. BySilentMove c (have m.0 w)) l

    module _ (names : NamesItsStates nta) (fs : List Bool) (sized : length fs ≡ nta.states) (any : (q : ℕ) → nta.any ≡ Some q → IsMarked fs q)
        (moves : (qs : List ℕ) (q : ℕ) → Contains (moves_of nta) (f, qs, q) → marked_in_rows rows qs ≡ true → IsMarked fs q)
        (steady : with_silent nta.silent.items fs ≡ fs) where
      marked-from_Takes : {t : Tree} {q : ℕ} → Takes (automaton_of nta) t q → t ≡ Node f ts → IsMarked fs q
      marked-from_Takes (ByAny {q = q} h) e = any q h
      marked-from_Takes (ByMove {f = g} {ts = us} {qs = qs} {q = q} m hs) e =
          moves qs q (subst (λ x. Contains (moves_of nta) (x, qs, q)) (root_same e) m)
          (rows-from_AllTaken (subst (λ x. AllTaken (automaton_of nta) x qs) (kids_same e) hs) rows kids)
        where
          root_same : {g : ℕ} {us : Trees} → Node g us ≡ Node f ts → g ≡ f
          root_same h = cc

          kids_same : {g : ℕ} {us : Trees} → Node g us ≡ Node f ts → us ≡ ts
          kids_same h = cc
      marked-from_Takes (BySilentMove {o = o} {q = q} m h) e =
          silent_woken nta.silent.items fs steady o q m (marked-from_Takes h e) (let l = names.silent o q m in omega (arith, l.1))

  pub length-node : (f : ℕ) (rows : List (List Bool)) (none any start fs : List Bool) → length none ≡ nta.states → any ≡ with_any none nta.any
      → start ≡ with_node f rows (moves_of nta) any → IsSettled (with_silent nta.silent.items) start fs → length fs ≡ nta.states
  length-node f rows none any start fs long is_any is_start s =
      let first = Stays-any none nta.any in
      let second = Stays-each (λ _ m. nat_eq m.0 f && marked_in_rows rows m.1) (λ m. m.2) (moves_of nta) any in
      let third = Settled-stays (with_silent nta.silent.items) start fs (IsPass-silent nta.silent.items) s in
      let long_any : length any ≡ length (with_any none nta.any) = ap length is_any in
      let long_start : length start ≡ length (with_node f rows (moves_of nta) any) = ap length is_start in
      omega (arith, first.length_same, second.length_same, third.length_same)

  pub MarksTaken-node : NamesItsStates nta → (f : ℕ) (rows : List (List Bool)) (none any start fs : List Bool) → none ≡ replicate nta.states false
      → length none ≡ nta.states → any ≡ with_any none nta.any → start ≡ with_node f rows (moves_of nta) any → IsSettled (with_silent nta.silent.items) start fs
      → (ts : Trees) → AllMarkTaken nta ts rows → MarksTaken nta (Node f ts) fs
  MarksTaken-node names f rows none any start fs is_none long is_any is_start s ts kids q =
      let first = Stays-any none nta.any in
      let second = Stays-each (λ _ m. nat_eq m.0 f && marked_in_rows rows m.1) (λ m. m.2) (moves_of nta) any in
      let third = Settled-stays (with_silent nta.silent.items) start fs (IsPass-silent nta.silent.items) s in
      let long_any : length any ≡ length (with_any none nta.any) = ap length is_any in
      let sized_any : length any ≡ nta.states = omega (arith, first.length_same) in
      let sized : length fs ≡ nta.states = length-node f rows none any start fs long is_any is_start s in
      let P : ℕ → Type 0 = Takes (automaton_of nta) (Node f ts) in
      let any_taken : Have P any = rw (is_any, is_none) (any-have P (replicate nta.states false) nta.any (λ p e. ByAny e) (none_marked nta.states P)) in
      let before : Have P start = rw is_start (node_taken f ts rows kids any any_taken) in (
        λ h. Settled-have (with_silent nta.silent.items) P start fs (silent_taken f ts rows kids) s before q h,
        λ h. marked-from_Takes f ts rows kids names fs sized
            (λ p e. third.keeps p (rw is_start (second.keeps p (rw is_any (any-marked none nta.any p e (let l = names.any p e in omega arith))))))
            (λ qs p c w. third.keeps p (rw is_start (each-marked (λ (m : MoveParts). nat_eq m.0 f && marked_in_rows rows m.1) (λ (m : MoveParts). m.2) (moves_of nta) any (f, qs, p) c
            (and_both (nat_eq f f) (marked_in_rows rows qs) (eq-eqb f f refl) w) (let l = names.moves f qs p c p (Contains-head p qs) in omega arith))))
            s.steady h refl,
      )
