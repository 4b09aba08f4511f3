-- Inside: the transducer of a list of rules, and the entries of its closure.
use Rattle.std.specs.Prelude.{List, map}
use Rattle.fort_terms.specs.PatternView.{as_pair, as_pattern}
use Rattle.fort_transducers.specs.declared.agtt.Agtt.{Agtt}
use Rattle.fort_transducers.specs.RootSteps.{HasPatternStates, ArePlaces}
use Rattle.fort_findings.specs.declared.closure.ClosureEntry.{ClosureEntry}
use Rattle.fort_context_closure.specs.ClosedAtoms.{ArePassed}
use Rattle.fort_context_closure.specs.declared.rule_list.RuleList.{RuleList}

-- its states are the places in these lists of patterns
pub record IsTransducerOf (list : RuleList) (agtt : Agtt) : Type 0 where
  pub left_states : HasPatternStates (map as_pattern list.lefts.items) agtt.left
  pub right_states : HasPatternStates (map as_pattern list.rights.items) agtt.right
  pub places : ArePlaces (map as_pattern list.lefts.items) (map as_pattern list.rights.items) (map as_pair list.rules.items) agtt.pairs.items

-- the list that the passes over its transducer make
pub record IsClosureOf (list : RuleList) (es : List ClosureEntry) : Type 0 where
  pub agtt : Agtt
  pub is : IsTransducerOf list agtt
  pub passed : ArePassed agtt es
