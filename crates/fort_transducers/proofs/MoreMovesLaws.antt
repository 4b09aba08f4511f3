-- An automaton with more silent moves takes no fewer trees, has the old moves and the added ones, and fits and names its states as before.
use Rattle.std.proofs.Common.{◌⊎◌, ℕ, ◌<◌, List, sym, ◌∙◌, subst, inl, inr}
use Rattle.std.specs.Prelude.{Contains}
use Rattle.std.proofs.lemmas.List.Elements.{Contains-append_left, Contains-append_right, Contains-append_cases}
use Rattle.fort_theory.specs.Trees.{Tree}
use Rattle.fort_theory.specs.Signatures.{Signature}
use Rattle.fort_reachability.specs.TreeAutomata.{Takes, FitsAutomaton}
use Rattle.fort_reachability.proofs.TakesWithin.{Takes-within}
use Rattle.fort_tree_automata.specs.declared.nta.Nta.{Nta}
use Rattle.fort_tree_automata.specs.NtaView.{MoveParts, moves_of, automaton_of, NamesItsStates}
use Rattle.fort_transducers.specs.MoreMoves.{HasMoreMoves}

module _ (old new : Nta) (added : List (ℕ × ℕ)) (more : HasMoreMoves old new added) where
  pub silent_cases : (o q : ℕ) → Contains new.silent.items (o, q) → Contains old.silent.items (o, q) ⊎ Contains added (o, q)
  silent_cases o q c =
      Contains-append_cases old.silent.items added (o, q) (subst (λ (ms : List (ℕ × ℕ)). Contains ms (o, q)) more.silent c)

  pub silent_old : (o q : ℕ) → Contains old.silent.items (o, q) → Contains new.silent.items (o, q)
  silent_old o q c =
      subst (λ (ms : List (ℕ × ℕ)). Contains ms (o, q)) (sym more.silent) (Contains-append_left old.silent.items added (o, q) c)

  pub silent_new : (o q : ℕ) → Contains added (o, q) → Contains new.silent.items (o, q)
  silent_new o q c =
      subst (λ (ms : List (ℕ × ℕ)). Contains ms (o, q)) (sym more.silent) (Contains-append_right old.silent.items added (o, q) c)

  pub move_old : (m : MoveParts) → Contains (moves_of old) m → Contains (moves_of new) m
  move_old m c = subst (λ (ms : List MoveParts). Contains ms m) (sym more.moves) c

  pub move_was : (m : MoveParts) → Contains (moves_of new) m → Contains (moves_of old) m
  move_was m c = subst (λ (ms : List MoveParts). Contains ms m) more.moves c

  pub Takes-more : {t : Tree} {q : ℕ} → Takes (automaton_of old) t q → Takes (automaton_of new) t q
  Takes-more h =
      Takes-within (automaton_of old) (automaton_of new) (λ f qs q m. move_old (f, qs, q) m) (λ o q m. silent_old o q m) (λ q m. more.any ∙ m) h

  pub FitsAutomaton-more : (signature : Signature) → FitsAutomaton signature (automaton_of old) → FitsAutomaton signature (automaton_of new)
  FitsAutomaton-more signature fits f qs q m = fits f qs q (move_was (f, qs, q) m)

  pub NamesItsStates-more : NamesItsStates old → ((o q : ℕ) → Contains added (o, q) → (o < old.states) × (q < old.states)) → NamesItsStates new
  NamesItsStates-more names low = record {
    any = λ q h. rw more.states (names.any q (sym more.any ∙ h));
    moves = λ f qs q m p c. rw more.states (names.moves f qs q (move_was (f, qs, q) m) p c);
    silent = λ o q m. rw more.states (elim (silent_cases o q m) [ inl was ↦ names.silent o q was | inr here ↦ low o q here ]);
  }
