-- From the contracts of the steps of compiling: what they make is compiled from the expression.
use Rattle.std.proofs.Common.{◌≡◌, ◌↔◌, ◌⊎◌, ℕ, ◌+◌, ◌<◌, List, length, sym, subst}
use Rattle.std.specs.Prelude.{Contains}
use Rattle.std.proofs.lemmas.Option.{slice_get_within, get_or_from_slice_get}
use Rattle.fort_theory.specs.Trees.{Tree}
use Rattle.fort_theory.specs.Signatures.{Signature}
use Rattle.fort_theory.specs.Sides.{at_index}
use Rattle.fort_theory.specs.Patterns.{Pattern, PatternSystem, IsSystem}
use Rattle.fort_reachability.specs.Transducers.{Transduces, FitsTransducer}
use Rattle.fort_theory.specs.Rewriting.{ReducesThroughRoot}
use Rattle.fort_reachability.proofs.PatternAutomata.{Takes-IsInstance, FitsAutomaton-from_patterns}
use Rattle.fort_tree_automata.specs.NtaView.{MoveParts, automaton_of}
use Rattle.fort_tree_automata.specs.PatternMoves.{StandsAt}
use Rattle.fort_tree_automata.specs.Copies.{IsCopy}
use Rattle.fort_tree_automata.proofs.CopiesLaws.{Takes-copied, Takes-from_copy}
use Rattle.fort_transducers.specs.declared.agtt.Agtt.{Agtt}
use Rattle.fort_transducers.specs.AgttView.{NamesItsStates, transducer_of}
use Rattle.fort_transducers.specs.RootSteps.{HasRootSteps}
use Rattle.fort_transducers.specs.UnionStates.{HasBothStates}
use Rattle.fort_transducers.proofs.RootStepsLaws.{IsPatternTransducer-rules, Transduces-rules}
use Rattle.fort_gtt_closure.specs.ClosedStates.{HasClosedStates}
use Rattle.fort_composition.specs.ComposedNumbers.{IsCompositionOf}
use Rattle.fort_theory.specs.Expressions.{Expression, RootSteps, Inverse, Union, Composition, Closure}
use Rattle.fort_reachability.specs.CompiledNumbers.{IsCompiledTo}
use Rattle.fort_reachability.proofs.SidePatterns.{FitsPattern-left, FitsPattern-right}
use Rattle.fort_reachability.proofs.CompiledNumbersLaws.{compiled_to-root, compiled_to-inverse, compiled_to-union, compiled_to-composition, compiled_to-closure}
use Rattle.fort_relation_exprs.specs.CompiledAgtt.{IsCompiledAgtt}

stands-among : (ps : List Pattern) (q : ℕ) (p : Pattern) → StandsAt ps q p → Contains ps p
stands-among ps q p h = (q, slice_get_within ps q p h, get_or_from_slice_get ps q p p h)

module _ (system : PatternSystem) where
  pub root-compiled : IsSystem system → (index : ℕ) (agtt : Agtt) → HasRootSteps (at_index index system.rules) agtt → NamesItsStates agtt
      → IsCompiledAgtt system (RootSteps index) agtt
  root-compiled is index agtt has named =
      let t = IsPatternTransducer-rules (at_index index system.rules) agtt has in
      let fits : FitsTransducer system.signature (transducer_of agtt) = record {
        constant = is.constant;
        left = FitsAutomaton-from_patterns system.signature (automaton_of agtt.left) (StandsAt has.lefts) t.left
            (λ q p h. FitsPattern-left system is index (p, (has.left_patterns.same p).0 (stands-among has.lefts q p h)));
        right = FitsAutomaton-from_patterns system.signature (automaton_of agtt.right) (StandsAt has.rights) t.right
            (λ q p h. FitsPattern-right system is index (p, (has.right_patterns.same p).0 (stands-among has.rights q p h)));
      } in
      let made : IsCompiledTo system (RootSteps index) (transducer_of agtt) (length has.lefts) (length has.rights) =
      compiled_to-root system index (transducer_of agtt) has.lefts has.rights has.left_patterns has.right_patterns fits
      (Transduces-rules (at_index index system.rules) agtt has system.signature)
      (λ a b c. let low = named.pairs a b c in (subst (λ n. a < n) has.left_states.states low.0, subst (λ n. b < n) has.right_states.states low.1))
      (λ k p h u. Takes-IsInstance (automaton_of agtt.left) (StandsAt has.lefts) t.left k p h u)
      (λ k p h u. Takes-IsInstance (automaton_of agtt.right) (StandsAt has.rights) t.right k p h u) in
      record {
        named = named;
        compiled = subst (λ n. IsCompiledTo system (RootSteps index) (transducer_of agtt) n agtt.right.states) (sym has.left_states.states)
            (subst (λ n. IsCompiledTo system (RootSteps index) (transducer_of agtt) (length has.lefts) n) (sym has.right_states.states) made);
      }

  pub inverse-compiled : (e : Expression) (agtt inverse : Agtt) → IsCompiledAgtt system e agtt → IsCopy agtt.right inverse.left → IsCopy agtt.left inverse.right
      → (NamesItsStates agtt → NamesItsStates inverse)
      → ((signature : Signature) (s t : Tree) → Transduces signature (transducer_of inverse) s t ↔ Transduces signature (transducer_of agtt) t s)
      → IsCompiledAgtt system (Inverse e) inverse
  inverse-compiled e agtt inverse is left right named related =
      let names = named is.named in
      let fits : FitsTransducer system.signature (transducer_of inverse) = record {
        constant = is.compiled.fits.constant;
        left = λ f qs q m. is.compiled.fits.right f qs q (subst (λ (ms : List MoveParts). Contains ms (f, qs, q)) left.moves m);
        right = λ f qs q m. is.compiled.fits.left f qs q (subst (λ (ms : List MoveParts). Contains ms (f, qs, q)) right.moves m);
      } in
      let made : IsCompiledTo system (Inverse e) (transducer_of inverse) agtt.right.states agtt.left.states =
      compiled_to-inverse system e (transducer_of agtt) (transducer_of inverse) agtt.left.states agtt.right.states is.compiled fits (related system.signature)
      (λ a b c. let low = names.pairs a b c in (subst (λ n. a < n) left.states low.0, subst (λ n. b < n) right.states low.1))
      (λ t q. (Takes-from_copy agtt.right inverse.left left, Takes-copied agtt.right inverse.left left))
      (λ t q. (Takes-from_copy agtt.left inverse.right right, Takes-copied agtt.left inverse.right right)) in
      record {
        named = names;
        compiled = subst (λ n. IsCompiledTo system (Inverse e) (transducer_of inverse) n inverse.right.states) (sym left.states)
            (subst (λ n. IsCompiledTo system (Inverse e) (transducer_of inverse) agtt.right.states n) (sym right.states) made);
      }

  pub union-compiled : (a b : Expression) (first second both : Agtt) → IsCompiledAgtt system a first → IsCompiledAgtt system b second → NamesItsStates both
      → both.left.states ≡ first.left.states + second.left.states → both.right.states ≡ first.right.states + second.right.states
      → HasBothStates first.left second.left both.left → HasBothStates first.right second.right both.right
      → ((signature : Signature) (s t : Tree) → Transduces signature (transducer_of both) s t
      ↔ (Transduces signature (transducer_of first) s t ⊎ Transduces signature (transducer_of second) s t))
      → IsCompiledAgtt system (Union a b) both
  union-compiled a b first second both is also named lefts rights left right related =
      let fits : FitsTransducer system.signature (transducer_of both) = record {
        constant = is.compiled.fits.constant;
        left = left.fits system.signature is.compiled.fits.left also.compiled.fits.left;
        right = right.fits system.signature is.compiled.fits.right also.compiled.fits.right;
      } in
      let made : IsCompiledTo system (Union a b) (transducer_of both) (first.left.states + second.left.states) (first.right.states + second.right.states) =
      compiled_to-union system a b (transducer_of first) (transducer_of second) (transducer_of both) first.left.states first.right.states second.left.states second.right.states
      is.compiled also.compiled fits (related system.signature)
      (λ x y c. let low = named.pairs x y c in (subst (λ n. x < n) lefts low.0, subst (λ n. y < n) rights low.1)) left.kept left.moved right.kept right.moved in
      record {
        named = named;
        compiled = subst (λ n. IsCompiledTo system (Union a b) (transducer_of both) n both.right.states) (sym lefts)
            (subst (λ n. IsCompiledTo system (Union a b) (transducer_of both) (first.left.states + second.left.states) n) (sym rights) made);
      }

  pub composition-compiled : (a b : Expression) (first second both : Agtt) → IsCompiledAgtt system a first → IsCompiledAgtt system b second → NamesItsStates both
      → both.left.states ≡ first.left.states + second.left.states → both.right.states ≡ second.right.states + first.right.states
      → ((signature : Signature) → FitsTransducer signature (transducer_of first) → FitsTransducer signature (transducer_of second) → IsCompositionOf first second both signature)
      → IsCompiledAgtt system (Composition a b) both
  composition-compiled a b first second both is also named lefts rights composition =
      let c = composition system.signature is.compiled.fits also.compiled.fits in
      let made : IsCompiledTo system (Composition a b) (transducer_of both) (first.left.states + second.left.states) (second.right.states + first.right.states) =
      compiled_to-composition system a b (transducer_of first) (transducer_of second) (transducer_of both) first.left.states first.right.states second.left.states second.right.states
      is.compiled also.compiled c.fits c.relates
      (λ x y d. let low = named.pairs x y d in (subst (λ n. x < n) lefts low.0, subst (λ n. y < n) rights low.1)) c.left_first c.left_second c.right_second c.right_first in
      record {
        named = named;
        compiled = subst (λ n. IsCompiledTo system (Composition a b) (transducer_of both) n both.right.states) (sym lefts)
            (subst (λ n. IsCompiledTo system (Composition a b) (transducer_of both) (first.left.states + second.left.states) n) (sym rights) made);
      }

  pub closure-compiled : (e : Expression) (agtt larger : Agtt) → IsCompiledAgtt system e agtt → NamesItsStates larger → HasClosedStates agtt larger
      → ((signature : Signature) → FitsTransducer signature (transducer_of agtt) → (s t : Tree)
      → Transduces signature (transducer_of larger) s t ↔ ReducesThroughRoot (Transduces signature (transducer_of agtt)) s t)
      → IsCompiledAgtt system (Closure e) larger
  closure-compiled e agtt larger is named has related =
      let fits = is.compiled.fits in
      let made : IsCompiledTo system (Closure e) (transducer_of larger) agtt.left.states agtt.right.states =
      compiled_to-closure system e (transducer_of agtt) (transducer_of larger) agtt.left.states agtt.right.states is.compiled (has.fits system.signature fits)
      (related system.signature fits)
      (λ a b c. let low = named.pairs a b c in (subst (λ n. a < n) has.left_count low.0, subst (λ n. b < n) has.right_count low.1))
      (has.left system.signature fits) (has.right system.signature fits) in
      record {
        named = named;
        compiled = subst (λ n. IsCompiledTo system (Closure e) (transducer_of larger) n larger.right.states) (sym has.left_count)
            (subst (λ n. IsCompiledTo system (Closure e) (transducer_of larger) agtt.left.states n) (sym has.right_count) made);
      }
