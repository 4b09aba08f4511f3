-- The transducer over the patterns of a list of rules is one of their root steps; the entries that passes make list exactly the closure over patterns.
use Rattle.std.specs.Prelude.{◌≡◌, ◌↔◌, ℕ, List, map, get_or, Contains}
use Rattle.std.proofs.Common.{sym, ap, ◌∙◌, subst}
use Rattle.std.proofs.lemmas.Simd.{map-map}
use Rattle.std.proofs.lemmas.Option.{slice_get-get_or, get_or_from_slice_get}
use Rattle.std.proofs.lemmas.List.Elements.{Contains-get_or}
use Rattle.fort_theory.specs.Signatures.{Signature}
use Rattle.fort_theory.specs.Patterns.{Pattern, Any, Pair, FitsPattern}
use Rattle.fort_theory.specs.PatternOrder.{AreSubpatternsInOrder}
use Rattle.fort_reachability.specs.ClosureTables.{InClosure}
use Rattle.fort_reachability.specs.Transducers.{FitsTransducer}
use Rattle.fort_reachability.proofs.PatternAutomata.{FitsAutomaton-from_patterns}
use Rattle.fort_reachability.proofs.PatternTransducers.{IsPatternTransducer, InClosure-ReachesInstance}
use Rattle.fort_reachability.proofs.PatternClosureExact.{InPatternClosure-ReachesInstance}
use Rattle.fort_terms.specs.PatternView.{as_pattern}
use Rattle.fort_tree_automata.specs.PatternMoves.{StandsAt}
use Rattle.fort_tree_automata.proofs.PatternMovesLaws.{StandsAt-below}
use Rattle.fort_transducers.specs.declared.agtt.Agtt.{Agtt}
use Rattle.fort_transducers.specs.AgttView.{NamesItsStates, transducer_of}
use Rattle.fort_transducers.specs.RootSteps.{ArePlaces, HasRootSteps}
use Rattle.fort_transducers.proofs.RootStepsLaws.{IsPatternTransducer-rules, NamesItsStates-rules}
use Rattle.fort_gtt_closure.specs.declared.entry.Entry.{Entry}
use Rattle.fort_gtt_closure.proofs.TableLaws.{listed-InClosure}
use Rattle.fort_alike.specs.ListedClosures.{Pair as Item}
use Rattle.fort_findings.specs.declared.closure.ClosureEntry.{ClosureEntry}
use Rattle.fort_findings.specs.FindingView as findings
use Rattle.fort_context_closure.specs.ItemView.{as_item, as_items}
use Rattle.fort_alike.specs.Atoms.{Atom}
use Rattle.fort_alike.specs.ListedAtoms.{ListedAtom, listed, IsListedAtom}
use Rattle.fort_alike.specs.ClosureTests.{ListsClosure}
use Rattle.fort_alike.proofs.ClosedLists.{ArePatterns, ArePatterns-lefts, ArePatterns-rights}
use Rattle.fort_alike.proofs.OneInOrder.{subpatterns_one}
use Rattle.fort_context_closure.specs.ClosedAtoms.{ArePassed, numbers_of}
use Rattle.fort_context_closure.specs.Closures.{IsTransducerOf}
use Rattle.fort_context_closure.specs.declared.rule_list.RuleList.{RuleList}
use Rattle.fort_context_closure.specs.RuleLists.{ListsRules}

-- written entries have the numbers of those that were found
numbers_written : (es : List ClosureEntry) (found : List Entry) → map findings.as_pair es ≡ as_items found → numbers_of es ≡ map (λ (e : Entry). (e.p, e.q)) found
numbers_written es found written =
    let number : Item → ℕ × ℕ = λ (i : Item). (i.p, i.q) in
    sym (map-map number findings.as_pair es) ∙ (ap (map number) written ∙ map-map number as_item found)

abbrev lefts_of : RuleList → List Pattern
lefts_of list = map as_pattern list.lefts.items

abbrev rights_of : RuleList → List Pattern
rights_of list = map as_pattern list.rights.items

module _ (pairs : List Pair) (list : RuleList) (lists : ListsRules pairs list) (agtt : Agtt) (is : IsTransducerOf list agtt) where
  abbrev pub root_steps_of : HasRootSteps pairs agtt
  root_steps_of = record {
    lefts = lefts_of list;
    rights = rights_of list;
    left_patterns = lists.left_order;
    right_patterns = lists.right_order;
    left_states = is.left_states;
    right_states = is.right_states;
    places = subst (λ (ps : List Pair). ArePlaces (lefts_of list) (rights_of list) ps agtt.pairs.items) lists.rules is.places;
  }

  pub NamesItsStates-list : NamesItsStates agtt
  NamesItsStates-list = NamesItsStates-rules pairs agtt root_steps_of

-- what stands in a list of fitting patterns fits
fits-at : (sig : Signature) (ps : List Pattern) → ArePatterns sig ps → (q : ℕ) (p : Pattern) → StandsAt ps q p → FitsPattern sig p
fits-at sig ps are q p h =
    are.fit p (subst (Contains ps) (get_or_from_slice_get ps q p Any h) (Contains-get_or ps q Any (StandsAt-below ps q p h)))

-- the entries that passes make over the root steps of the atom's pairs list the closure over the patterns of its sides
pub ListsClosure-passes : (atom : Atom) (lefts rights : List Pattern) (es : List ClosureEntry) → IsListedAtom (listed atom lefts rights)
    → AreSubpatternsInOrder (map (λ (pair : Pair). pair.0) atom.pairs) lefts → AreSubpatternsInOrder (map (λ (pair : Pair). pair.1) atom.pairs) rights
    → (agtt : Agtt) → HasRootSteps atom.pairs agtt → ArePassed agtt es → ListsClosure (listed atom lefts rights) (numbers_of es)
ListsClosure-passes atom lefts rights es is left_order right_order agtt has made i j l m =
    let a : ListedAtom = listed atom lefts rights in
    let same_lefts : has.lefts ≡ lefts = subpatterns_one (map (λ (pair : Pair). pair.0) atom.pairs) has.lefts lefts has.left_patterns left_order in
    let same_rights : has.rights ≡ rights = subpatterns_one (map (λ (pair : Pair). pair.1) atom.pairs) has.rights rights has.right_patterns right_order in
    let steps : IsPatternTransducer (transducer_of agtt) (StandsAt lefts) (StandsAt rights) atom.pairs =
    subst (λ (ps : List Pattern). IsPatternTransducer (transducer_of agtt) (StandsAt ps) (StandsAt rights) atom.pairs) same_lefts
    (subst (λ (ps : List Pattern). IsPatternTransducer (transducer_of agtt) (StandsAt has.lefts) (StandsAt ps) atom.pairs) same_rights (IsPatternTransducer-rules atom.pairs agtt has)) in
    let fits : FitsTransducer atom.signature (transducer_of agtt) = record {
      constant = is.constant;
      left = FitsAutomaton-from_patterns atom.signature (transducer_of agtt).left (StandsAt lefts) steps.left (fits-at atom.signature lefts (ArePatterns-lefts a is));
      right = FitsAutomaton-from_patterns atom.signature (transducer_of agtt).right (StandsAt rights) steps.right (fits-at atom.signature rights (ArePatterns-rights a is));
    } in
    let p : Pattern = get_or rights i Any in
    let q : Pattern = get_or lefts j Any in
    let right_at : StandsAt rights i p = slice_get-get_or rights i Any l in
    let left_at : StandsAt lefts j q = slice_get-get_or lefts j Any m in
    let instances = InClosure-ReachesInstance atom.signature (transducer_of agtt) (StandsAt lefts) (StandsAt rights) atom.pairs steps fits i j p q right_at left_at in
    let patterns =
    InPatternClosure-ReachesInstance atom.signature is.constant atom.pairs is.fit p q (fits-at atom.signature rights (ArePatterns-rights a is) i p right_at)
    (fits-at atom.signature lefts (ArePatterns-lefts a is) j q left_at) in
    let table : Contains (numbers_of es) (i, j) ↔ InClosure (transducer_of agtt) i j =
    subst (λ (ns : List (ℕ × ℕ)). Contains ns (i, j) ↔ InClosure (transducer_of agtt) i j) (sym (numbers_written es made.found made.written))
    (listed-InClosure agtt made.found made.passes (NamesItsStates-rules atom.pairs agtt has) i j) in (
      (λ c. patterns.1 (instances.0 (table.0 c))),
      (λ h. table.1 (instances.1 (patterns.0 h))),
    )
