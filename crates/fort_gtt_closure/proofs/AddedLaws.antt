-- The transducer with the silent moves that the entries of its closure add is the closed transducer.
use Rattle.std.proofs.Common.{◌≡◌, ◌↔◌, ℕ, ◌<◌, List, sym, ◌∙◌, subst, inl, inr}
use Rattle.std.specs.Prelude.{Contains}
use Rattle.fort_theory.specs.Trees.{Tree}
use Rattle.fort_theory.specs.Signatures.{Signature, IsGround}
use Rattle.fort_theory.proofs.Members.{Contains-head}
use Rattle.fort_reachability.specs.TreeAutomata.{Takes}
use Rattle.fort_reachability.specs.Transducers.{FitsTransducer, Transduces}
use Rattle.fort_reachability.specs.ClosureTables.{InClosure, AnyRight, AnyLeft, ByMoves, SilentRight, SilentLeft, ThroughPair}
use Rattle.fort_reachability.specs.ClosedTransducers.{closed, closed_left, closed_right}
use Rattle.fort_theory.specs.Rewriting.{ReducesThroughRoot}
use Rattle.fort_reachability.proofs.TakesWithin.{Takes-within}
use Rattle.fort_reachability.specs.Reachability.{ReducesInto, ReducesFrom}
use Rattle.fort_reachability.proofs.ClosureIsReachability.{Transduces-closed}
use Rattle.fort_reachability.proofs.ClosedLeft.{Takes-closed_left}
use Rattle.fort_reachability.proofs.ClosedRight.{Takes-closed_right}
use Rattle.fort_tree_automata.specs.NtaView.{automaton_of}
use Rattle.fort_transducers.specs.declared.agtt.Agtt.{Agtt}
use Rattle.fort_transducers.specs.MoreMoves.{HasMoreMoves}
use Rattle.fort_transducers.proofs.MoreMovesLaws.{silent_cases, silent_old, silent_new, move_old, move_was, FitsAutomaton-more, NamesItsStates-more}
use Rattle.fort_transducers.specs.AgttView.{NamesItsStates, transducer_of}
use Rattle.fort_gtt_closure.specs.declared.entry.Entry.{Entry}
use Rattle.fort_gtt_closure.specs.Reasons.{IsListed}
use Rattle.fort_gtt_closure.proofs.TableLaws.{state-below}
use Rattle.fort_gtt_closure.specs.Added.{AreOnward, AreBackward}
use Rattle.fort_gtt_closure.specs.ClosedStates.{HasClosedStates}

module _ (agtt larger : Agtt) (es : List Entry) (named : NamesItsStates agtt)
    (table : (p q : ℕ) → IsListed es p q ↔ InClosure (transducer_of agtt) p q)
    (onward backward : List (ℕ × ℕ)) (are_onward : AreOnward es agtt.pairs.items onward) (are_backward : AreBackward es agtt.pairs.items backward)
    (left : HasMoreMoves agtt.left larger.left onward) (right : HasMoreMoves agtt.right larger.right backward)
    (pairs : larger.pairs.items ≡ agtt.pairs.items) where
  left-closed : {t : Tree} {q : ℕ} → Takes (automaton_of larger.left) t q → Takes (closed_left (transducer_of agtt)) t q
  left-closed h =
      Takes-within (automaton_of larger.left) (closed_left (transducer_of agtt)) (λ f qs q m. move_was agtt.left larger.left onward left (f, qs, q) m)
      (λ o q m. elim (silent_cases agtt.left larger.left onward left o q m) [
        | inl old ↦ inl old
        | inr new ↦ let w = (are_onward o q).0 new in inr (w.0, w.1, (table w.0 q).0 w.2)
      ])
      (λ q m. sym left.any ∙ m) h

  closed-left : {t : Tree} {q : ℕ} → Takes (closed_left (transducer_of agtt)) t q → Takes (automaton_of larger.left) t q
  closed-left h =
      Takes-within (closed_left (transducer_of agtt)) (automaton_of larger.left) (λ f qs q m. move_old agtt.left larger.left onward left (f, qs, q) m)
      (λ o q m. elim m [
        | inl old ↦ silent_old agtt.left larger.left onward left o q old
        | inr w ↦ silent_new agtt.left larger.left onward left o q ((are_onward o q).1 (w.0, w.1, (table w.0 q).1 w.2))
      ])
      (λ q m. left.any ∙ m) h

  right-closed : {t : Tree} {p : ℕ} → Takes (automaton_of larger.right) t p → Takes (closed_right (transducer_of agtt)) t p
  right-closed h =
      Takes-within (automaton_of larger.right) (closed_right (transducer_of agtt)) (λ f ps p m. move_was agtt.right larger.right backward right (f, ps, p) m)
      (λ o p m. elim (silent_cases agtt.right larger.right backward right o p m) [
        | inl old ↦ inl old
        | inr new ↦ let w = (are_backward o p).0 new in inr (w.0, w.1, (table p w.0).0 w.2)
      ])
      (λ p m. sym right.any ∙ m) h

  closed-right : {t : Tree} {p : ℕ} → Takes (closed_right (transducer_of agtt)) t p → Takes (automaton_of larger.right) t p
  closed-right h =
      Takes-within (closed_right (transducer_of agtt)) (automaton_of larger.right) (λ f ps p m. move_old agtt.right larger.right backward right (f, ps, p) m)
      (λ o p m. elim m [
        | inl old ↦ silent_old agtt.right larger.right backward right o p old
        | inr w ↦ silent_new agtt.right larger.right backward right o p ((are_backward o p).1 (w.0, w.1, (table p w.0).1 w.2))
      ])
      (λ p m. right.any ∙ m) h

  -- the states of the closed automata
  pub Takes-larger_left : (signature : Signature) → FitsTransducer signature (transducer_of agtt) → (s : Tree) → IsGround signature s → (q : ℕ)
      → Takes (automaton_of larger.left) s q ↔ ReducesInto (Transduces signature (transducer_of agtt)) (automaton_of agtt.left) s q
  Takes-larger_left signature fits s grounded q =
      let exact = Takes-closed_left signature (transducer_of agtt) fits s grounded q in ((λ h. exact.0 (left-closed h)), (λ w. closed-left (exact.1 w)))

  pub Takes-larger_right : (signature : Signature) → FitsTransducer signature (transducer_of agtt) → (t : Tree) → IsGround signature t → (p : ℕ)
      → Takes (automaton_of larger.right) t p ↔ ReducesFrom (Transduces signature (transducer_of agtt)) (automaton_of agtt.right) p t
  Takes-larger_right signature fits t grounded p =
      let exact = Takes-closed_right signature (transducer_of agtt) fits t grounded p in ((λ h. exact.0 (right-closed h)), (λ w. closed-right (exact.1 w)))

  pub FitsTransducer-larger : (signature : Signature) → FitsTransducer signature (transducer_of agtt) → FitsTransducer signature (transducer_of larger)
  FitsTransducer-larger signature fits = record {
    constant = fits.constant;
    left = FitsAutomaton-more agtt.left larger.left onward left signature fits.left;
    right = FitsAutomaton-more agtt.right larger.right backward right signature fits.right;
  }

  pub HasClosedStates-larger : HasClosedStates agtt larger
  HasClosedStates-larger = record {
    left_count = left.states;
    right_count = right.states;
    fits = FitsTransducer-larger;
    left = Takes-larger_left;
    right = Takes-larger_right;
  }

  pub Transduces-larger : (signature : Signature) → FitsTransducer signature (transducer_of agtt) → (s t : Tree)
      → Transduces signature (transducer_of larger) s t ↔ ReducesThroughRoot (Transduces signature (transducer_of agtt)) s t
  Transduces-larger signature fits s t =
      let exact = Transduces-closed signature (transducer_of agtt) fits s t in (
        λ h. exact.0 (record {
          left_state = h.left_state;
          right_state = h.right_state;
          paired = subst (λ (ps : List (ℕ × ℕ)). Contains ps (h.left_state, h.right_state)) pairs h.paired;
          left_taken = left-closed h.left_taken;
          right_taken = right-closed h.right_taken;
          left_grounded = h.left_grounded;
          right_grounded = h.right_grounded;
        }),
        λ w.
            let h : Transduces signature (closed (transducer_of agtt)) s t = exact.1 w in
            record {
              left_state = h.left_state;
              right_state = h.right_state;
              paired = subst (λ (ps : List (ℕ × ℕ)). Contains ps (h.left_state, h.right_state)) (sym pairs) h.paired;
              left_taken = closed-left h.left_taken;
              right_taken = closed-right h.right_taken;
              left_grounded = h.left_grounded;
              right_grounded = h.right_grounded;
            },
      )

  -- the states of the closure table
  below-from_table : {p q : ℕ} → InClosure (transducer_of agtt) p q → (p < agtt.right.states) × (q < agtt.left.states)
  below-from_table (AnyRight {p = p} {q = q} h i) = (named.right.any p h, state-below agtt.left named.left i.taken)
  below-from_table (AnyLeft {p = p} {q = q} h i) = (state-below agtt.right named.right i.taken, named.left.any q h)
  below-from_table (ByMoves {f = f} {ps = ps} {p = p} {qs = qs} {q = q} m n hs) =
      (named.right.moves f ps p m p (Contains-head p ps), named.left.moves f qs q n q (Contains-head q qs))
  below-from_table (SilentRight {o = o} {p = p} {q = q} m h) = ((named.right.silent o p m).1, (below-from_table h).1)
  below-from_table (SilentLeft {p = p} {o = o} {q = q} m h) = ((below-from_table h).0, (named.left.silent o q m).1)
  below-from_table (ThroughPair {p = p} {a = a} {b = b} {q = q} m h k) = ((below-from_table h).0, (below-from_table k).1)

  pub NamesItsStates-larger : NamesItsStates larger
  NamesItsStates-larger = record {
    left = NamesItsStates-more agtt.left larger.left onward left named.left
        (λ o q c. let w = (are_onward o q).0 c in ((named.pairs o w.0 w.1).0, (below-from_table ((table w.0 q).0 w.2)).1));
    right = NamesItsStates-more agtt.right larger.right backward right named.right
        (λ o p c. let w = (are_backward o p).0 c in ((named.pairs w.0 o w.1).1, (below-from_table ((table p w.0).0 w.2)).0));
    pairs = λ a b c. rw (left.states, right.states) (named.pairs a b (subst (λ (ps : List (ℕ × ℕ)). Contains ps (a, b)) pairs c));
  }
