-- From the contracts of the steps of compiling: what they make is compiled from the expression, with few states, moves and pairs.
use Rattle.std.proofs.Common.{◌≡◌, ◌↔◌, ◌⊎◌, ℕ, ◌+◌, length, map, sym, subst, arith, refl}
use Rattle.std.proofs.lemmas.List.{length-append}
use Rattle.fort_theory.specs.Trees.{Tree}
use Rattle.fort_theory.specs.Signatures.{Signature}
use Rattle.fort_theory.specs.Sides.{at_index}
use Rattle.fort_theory.specs.Patterns.{PatternSystem}
use Rattle.fort_theory.specs.Rewriting.{ReducesThroughRoot}
use Rattle.fort_reachability.specs.Transducers.{Transduces, FitsTransducer}
use Rattle.fort_tree_automata.specs.Copies.{IsCopy}
use Rattle.fort_transducers.specs.declared.agtt.Agtt.{Agtt}
use Rattle.fort_transducers.specs.AgttView.{NamesItsStates, transducer_of}
use Rattle.fort_transducers.specs.RootSteps.{HasRootSteps}
use Rattle.fort_transducers.specs.Sizes.{SumsSizes, KeepsSizes}
use Rattle.fort_transducers.specs.UnionStates.{HasBothStates}
use Rattle.fort_gtt_closure.specs.ClosedStates.{HasClosedStates}
use Rattle.fort_composition.specs.ComposedNumbers.{IsCompositionOf}
use Rattle.fort_theory.specs.Expressions.{Expression, RootSteps, Inverse, Union, Composition, Closure, root_indices}
use Rattle.fort_relation_exprs.specs.CompiledWithin.{CanCompile, HasFewStates, IsCompiledWithin}
use Rattle.fort_relation_exprs.proofs.CompiledAgttLaws.{root-compiled, inverse-compiled, union-compiled, composition-compiled, closure-compiled}
use Rattle.fort_relation_exprs.proofs.FewStatesLaws.{HasFewStates-root, HasFewStates-inverse, HasFewStates-closure, HasFewStates-both}

module _ (system : PatternSystem) where
  pub root-within : (index : ℕ) (agtt : Agtt) → CanCompile system (RootSteps index) → HasRootSteps (at_index index system.rules) agtt → NamesItsStates agtt
      → IsCompiledWithin system (RootSteps index) agtt
  root-within index agtt can has named = record {
    compiled = root-compiled system can.lawful index agtt has named;
    few = HasFewStates-root (at_index index system.rules) agtt (can.over.few index (0, omega arith, refl)) has;
  }

  pub inverse-within : (e : Expression) (agtt inverse : Agtt) → IsCompiledWithin system e agtt → IsCopy agtt.right inverse.left → IsCopy agtt.left inverse.right
      → inverse.pairs.items ≡ map (λ p. (p.1, p.0)) agtt.pairs.items → (NamesItsStates agtt → NamesItsStates inverse)
      → ((signature : Signature) (s t : Tree) → Transduces signature (transducer_of inverse) s t ↔ Transduces signature (transducer_of agtt) t s)
      → IsCompiledWithin system (Inverse e) inverse
  inverse-within e agtt inverse is left right pairs named related = record {
    compiled = inverse-compiled system e agtt inverse is.compiled left right named related;
    few = HasFewStates-inverse (length (root_indices e)) agtt inverse is.few left right pairs;
  }

  pub union-within : (a b : Expression) (first second both : Agtt) → IsCompiledWithin system a first → IsCompiledWithin system b second → NamesItsStates both
      → both.left.states ≡ first.left.states + second.left.states → both.right.states ≡ first.right.states + second.right.states
      → SumsSizes first second both → HasBothStates first.left second.left both.left → HasBothStates first.right second.right both.right
      → ((signature : Signature) (s t : Tree) → Transduces signature (transducer_of both) s t
      ↔ (Transduces signature (transducer_of first) s t ⊎ Transduces signature (transducer_of second) s t))
      → IsCompiledWithin system (Union a b) both
  union-within a b first second both is also named lefts rights sizes left right related = record {
    compiled = union-compiled system a b first second both is.compiled also.compiled named lefts rights left right related;
    few = subst (λ n. HasFewStates n both) (sym (length-append (root_indices a) (root_indices b)))
        (HasFewStates-both (length (root_indices a)) (length (root_indices b)) first second both is.few also.few lefts rights sizes);
  }

  pub composition-within : (a b : Expression) (first second both : Agtt) → IsCompiledWithin system a first → IsCompiledWithin system b second
      → NamesItsStates both → both.left.states ≡ first.left.states + second.left.states → both.right.states ≡ second.right.states + first.right.states
      → SumsSizes first second both
      → ((signature : Signature) → FitsTransducer signature (transducer_of first) → FitsTransducer signature (transducer_of second) → IsCompositionOf first second both signature)
      → IsCompiledWithin system (Composition a b) both
  composition-within a b first second both is also named lefts rights sizes composition = record {
    compiled = composition-compiled system a b first second both is.compiled also.compiled named lefts rights composition;
    few = subst (λ n. HasFewStates n both) (sym (length-append (root_indices a) (root_indices b)))
        (HasFewStates-both (length (root_indices a)) (length (root_indices b)) first second both is.few also.few lefts (omega (arith, rights)) sizes);
  }

  pub closure-within : (e : Expression) (agtt larger : Agtt) → IsCompiledWithin system e agtt → NamesItsStates larger → HasClosedStates agtt larger
      → KeepsSizes agtt larger
      → ((signature : Signature) → FitsTransducer signature (transducer_of agtt) → (s t : Tree)
      → Transduces signature (transducer_of larger) s t ↔ ReducesThroughRoot (Transduces signature (transducer_of agtt)) s t)
      → IsCompiledWithin system (Closure e) larger
  closure-within e agtt larger is named has sizes related = record {
    compiled = closure-compiled system e agtt larger is.compiled named has related;
    few = HasFewStates-closure (length (root_indices e)) agtt larger is.few has.left_count has.right_count sizes;
  }
