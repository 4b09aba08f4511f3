use Rattle.std.proofs.Common.{List, sym, subst, ◌∙◌}
use Rattle.fort_theory.specs.Patterns.{Pattern}
use Rattle.fort_label_bits.specs.NumberedView.{AreNumbersOf}
use Rattle.fort_mark_keys.specs.AskedPlaces.{NoneListedTwice}
use Rattle.fort_atom_keys.proofs.masks.normal_keys.Goals as goal

pub new-requires-clause-numbers : goal.new-requires-clause-numbers
new-requires-clause-numbers c = subst (λ (ps : List Pattern). AreNumbersOf ps c.lefts.result.now) (sym c.patterns.ensures.patterns) c.lefts.ensures

pub new-requires-clause-once : goal.new-requires-clause-once
new-requires-clause-once c = subst NoneListedTwice (sym c.patterns.ensures.patterns) c.patterns.ensures.once

pub returns : goal.returns
returns c =
    let made = c.normal.ensures in
    let own = c.patterns.ensures in
    record {
      sides = record { lefts = own.sides; rights = λ r apart m. absurd (apart own.kind) };
      patterns = record {
        kind_is = made.kind_is ∙ sym own.kind;
        first_is = made.first_is ∙ sym own.arguments.0;
        second_is = made.second_is ∙ sym own.arguments.1;
        lefts_are = made.lefts_are ∙ (c.new.ensures ∙ own.patterns);
        rights_are = made.rights_are ∙ sym own.one_side;
      };
    }
