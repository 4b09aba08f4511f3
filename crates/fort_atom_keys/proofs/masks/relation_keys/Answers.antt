use Rattle.std.proofs.Common.{List, sym, subst, ◌∙◌}
use Rattle.fort_theory.specs.Patterns.{Pattern}
use Rattle.fort_label_bits.specs.NumberedView.{AreNumbersOf}
use Rattle.fort_mark_keys.specs.AskedPlaces.{NoneListedTwice}
use Rattle.fort_atom_keys.proofs.masks.relation_keys.Goals as goal

pub new-left-requires-clause-numbers : goal.new-left-requires-clause-numbers
new-left-requires-clause-numbers c = subst (λ (ps : List Pattern). AreNumbersOf ps c.lefts.result.now) (sym c.left_patterns.ensures.patterns) c.lefts.ensures

pub new-left-requires-clause-once : goal.new-left-requires-clause-once
new-left-requires-clause-once c = subst NoneListedTwice (sym c.left_patterns.ensures.patterns) c.left_patterns.ensures.once

pub new-right-requires-clause-numbers : goal.new-right-requires-clause-numbers
new-right-requires-clause-numbers c = subst (λ (ps : List Pattern). AreNumbersOf ps c.rights.result.now) (sym c.right_patterns.ensures.patterns) c.rights.ensures

pub new-right-requires-clause-once : goal.new-right-requires-clause-once
new-right-requires-clause-once c = subst NoneListedTwice (sym c.right_patterns.ensures.patterns) c.right_patterns.ensures.once

pub returns : goal.returns
returns c =
    let made = c.related.ensures in
    record {
      sides = record { lefts = c.left_patterns.ensures.sides; rights = λ r apart m. c.right_patterns.ensures.sides r m };
      patterns = record {
        kind_is = made.kind_is ∙ c.rel.ensures;
        first_is = made.first_is ∙ c.arguments.ensures.first;
        second_is = made.second_is ∙ c.arguments.ensures.second;
        lefts_are = made.lefts_are ∙ (c.new-left.ensures ∙ c.left_patterns.ensures.patterns);
        rights_are = made.rights_are ∙ (c.new-right.ensures ∙ c.right_patterns.ensures.patterns);
      };
    }
