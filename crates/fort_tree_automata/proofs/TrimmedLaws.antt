-- The moves whose kids take some tree are those that are made; without the others each state takes the same trees.
use Rattle.std.proofs.Common.{◌≡◌, ℕ, List, [], ◌∷◌, Bool, true, get_or, sym, ◌∙◌, refl, subst, inl, inr}
use Rattle.std.specs.Prelude.{Contains, filter, slice_index_or, false}
use Rattle.fort_theory.specs.Trees.{Tree, Trees, Node}
use Rattle.fort_theory.proofs.Members.{Contains-head, Contains-behind, Contains-cons_cases, Contains-none, Contains-filter, Contains-from_filter}
use Rattle.fort_reachability.specs.TreeAutomata.{Takes, ByAny, ByMove, BySilentMove, AllTaken, NoneTaken, MoreTaken, IsInhabited}
use Rattle.fort_reachability.proofs.TakesWithin.{Takes-within}
use Rattle.fort_tree_automata.specs.declared.nta.Nta.{Nta}
use Rattle.fort_tree_automata.specs.NtaView.{MoveParts, moves_of, automaton_of}
use Rattle.fort_tree_automata.specs.Marks.{all_marked}
use Rattle.fort_tree_automata.specs.InhabitedStates.{IsMarked, MarksInhabited}
use Rattle.fort_tree_automata.specs.Trimmed.{AllInhabited, IsTrimmed}
use Rattle.fort_tree_automata.proofs.Truths.{and_left, and_right, and_both}
use Rattle.fort_tree_automata.proofs.InhabitedLaws.{kids-from_marked}

module _ (nta trimmed : Nta) (flags : List Bool) (exact : MarksInhabited nta flags) (any_same : trimmed.any ≡ nta.any)
    (moves_are : moves_of trimmed ≡ filter (λ m. all_marked flags m.1) (moves_of nta))
    (silent_are : trimmed.silent.items ≡ filter (λ m. slice_index_or flags m.0 false) nta.silent.items) where
  move_kept : (m : MoveParts) → Contains (moves_of nta) m → all_marked flags m.1 ≡ true → Contains (moves_of trimmed) m
  move_kept m c h =
      subst (λ (ms : List MoveParts). Contains ms m) (sym moves_are) (Contains-filter (λ (n : MoveParts). all_marked flags n.1) (moves_of nta) m c h)

  move_was : (m : MoveParts) → Contains (moves_of trimmed) m → Contains (moves_of nta) m × (all_marked flags m.1 ≡ true)
  move_was m c =
      Contains-from_filter (λ (n : MoveParts). all_marked flags n.1) (moves_of nta) m (subst (λ (ms : List MoveParts). Contains ms m) moves_are c)

  silent_kept : (o q : ℕ) → Contains nta.silent.items (o, q) → IsMarked flags o → Contains trimmed.silent.items (o, q)
  silent_kept o q c h =
      subst (λ (ms : List (ℕ × ℕ)). Contains ms (o, q)) (sym silent_are)
      (Contains-filter (λ (n : ℕ × ℕ). get_or flags n.0 false) nta.silent.items (o, q) c h)

  silent_was : (o q : ℕ) → Contains trimmed.silent.items (o, q) → Contains nta.silent.items (o, q) × IsMarked flags o
  silent_was o q c =
      Contains-from_filter (λ (n : ℕ × ℕ). get_or flags n.0 false) nta.silent.items (o, q)
      (subst (λ (ms : List (ℕ × ℕ)). Contains ms (o, q)) silent_are c)

  mutual
    kept_taken : {t : Tree} {q : ℕ} → Takes (automaton_of nta) t q → Takes (automaton_of trimmed) t q
    kept_taken (ByAny h) = ByAny (any_same ∙ h)
    kept_taken (ByMove {f = f} {qs = qs} {q = q} m hs) = ByMove (move_kept (f, qs, q) m (kids_marked hs)) (all_kept_taken hs)
    kept_taken (BySilentMove {t = t} {o = o} {q = q} m h) =
        BySilentMove (silent_kept o q m ((exact o).1 (record { tree = t; taken = h }))) (kept_taken h)

    all_kept_taken : {ts : Trees} {qs : List ℕ} → AllTaken (automaton_of nta) ts qs → AllTaken (automaton_of trimmed) ts qs
    all_kept_taken NoneTaken = NoneTaken
    all_kept_taken (MoreTaken h hs) = MoreTaken (kept_taken h) (all_kept_taken hs)

    kids_marked : {ts : Trees} {qs : List ℕ} → AllTaken (automaton_of nta) ts qs → all_marked flags qs ≡ true
    kids_marked NoneTaken = refl
    kids_marked (MoreTaken {t = t} {q = q} {qs = qs} h hs) =
        and_both (get_or flags q false) (all_marked flags qs) ((exact q).1 (record { tree = t; taken = h })) (kids_marked hs)

  inhabited-from_marked : (qs : List ℕ) → all_marked flags qs ≡ true → AllInhabited nta qs
  inhabited-from_marked [] h p c = absurd (Contains-none p c)
  inhabited-from_marked (q ∷ qs) h p c = elim (Contains-cons_cases q qs p c) [
    | inl e ↦ subst (IsInhabited (automaton_of nta)) e ((exact q).0 (and_left (get_or flags q false) (all_marked flags qs) h))
    | inr there ↦ inhabited-from_marked qs (and_right (get_or flags q false) (all_marked flags qs) h) p there
  ]

  marked-from_inhabited : (qs : List ℕ) → AllInhabited nta qs → all_marked flags qs ≡ true
  marked-from_inhabited [] h = refl
  marked-from_inhabited (q ∷ qs) h =
      and_both (get_or flags q false) (all_marked flags qs) ((exact q).1 (h q (Contains-head q qs)))
      (marked-from_inhabited qs (λ p c. h p (Contains-behind q qs p c)))

  target_too : (m : MoveParts) → Contains (moves_of nta) m → all_marked flags m.1 ≡ true → AllInhabited nta (m.2 ∷ m.1)
  target_too m c h p there = elim (Contains-cons_cases m.2 m.1 p there) [
    | inl e ↦
        let k = kids-from_marked nta flags (λ q. (exact q).0) m.1 h in
        subst (IsInhabited (automaton_of nta)) e (record { tree = Node m.0 k.0; taken = ByMove c k.1 })
    | inr kid ↦ inhabited-from_marked m.1 h p kid
  ]

  pub IsTrimmed-kept : trimmed.states ≡ nta.states → IsTrimmed nta trimmed
  IsTrimmed-kept same_states = record {
    states = same_states;
    any = any_same;
    same = λ t q. (
      λ h. Takes-within (automaton_of trimmed) (automaton_of nta) (λ f qs p m. (move_was (f, qs, p) m).0) (λ o p m. (silent_was o p m).0)
          (λ p e. sym any_same ∙ e) h,
      λ h. kept_taken h,
    );
    moves = λ f qs q. (
      λ c. let was = move_was (f, qs, q) c in (was.0, target_too (f, qs, q) was.0 was.1),
      λ h. move_kept (f, qs, q) h.0 (marked-from_inhabited qs (λ p c. h.1 p (Contains-behind q qs p c))),
    );
    silent = λ o q. (
      λ c.
          let was = silent_was o q c in
          let from = (exact o).0 was.1 in
          (was.0, from, record { tree = from.tree; taken = BySilentMove was.0 from.taken }),
      λ h. silent_kept o q h.0 ((exact o).1 h.1),
    );
  }
