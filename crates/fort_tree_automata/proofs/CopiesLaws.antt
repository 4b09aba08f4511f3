-- A copy takes the same trees to the same states.
use Rattle.std.proofs.Common.{ℕ, List, sym, subst, ◌∙◌}
use Rattle.std.specs.Prelude.{Contains}
use Rattle.fort_theory.specs.Trees.{Tree}
use Rattle.fort_reachability.specs.TreeAutomata.{Takes}
use Rattle.fort_reachability.proofs.TakesWithin.{Takes-within}
use Rattle.fort_tree_automata.specs.declared.nta.Nta.{Nta}
use Rattle.fort_tree_automata.specs.NtaView.{MoveParts, NamesItsStates, automaton_of}
use Rattle.fort_tree_automata.specs.Copies.{IsCopy}

module _ (nta copy : Nta) (is : IsCopy nta copy) where
  pub Takes-copied : {t : Tree} {q : ℕ} → Takes (automaton_of nta) t q → Takes (automaton_of copy) t q
  Takes-copied h =
      Takes-within (automaton_of nta) (automaton_of copy) (λ f qs q m. subst (λ (ms : List MoveParts). Contains ms (f, qs, q)) (sym is.moves) m)
      (λ o q m. subst (λ (ms : List (ℕ × ℕ)). Contains ms (o, q)) (sym is.silent) m) (λ q e. is.any ∙ e) h

  pub Takes-from_copy : {t : Tree} {q : ℕ} → Takes (automaton_of copy) t q → Takes (automaton_of nta) t q
  Takes-from_copy h =
      Takes-within (automaton_of copy) (automaton_of nta) (λ f qs q m. subst (λ (ms : List MoveParts). Contains ms (f, qs, q)) is.moves m)
      (λ o q m. subst (λ (ms : List (ℕ × ℕ)). Contains ms (o, q)) is.silent m) (λ q e. sym is.any ∙ e) h

pub NamesItsStates-copied : (nta copy : Nta) → IsCopy nta copy → NamesItsStates nta → NamesItsStates copy
NamesItsStates-copied nta copy is names = record {
  any = λ q e. rw is.states (names.any q (sym is.any ∙ e));
  moves = λ f qs q c p there. rw is.states (names.moves f qs q (subst (λ (ms : List MoveParts). Contains ms (f, qs, q)) is.moves c) p there);
  silent = λ o q c. rw is.states (names.silent o q (subst (λ (ms : List (ℕ × ℕ)). Contains ms (o, q)) is.silent c));
}
