use Rattle.std.proofs.Common.{◌∙◌, sym, map}
use Rattle.std.specs.Prelude.{vec_items}
use Rattle.std.proofs.lemmas.List.{length-map}
use Rattle.fort_tree_automata.proofs.TakenLaws.{rows-unequal}
use Rattle.fort_tree_automata.proofs.states_of.marked_in_rows.Goals as goal

pub returns-then-rows-states : goal.returns-then-rows-states
returns-then-rows-states c =
    sym (rows-unequal (map vec_items c.args.rows.now) c.args.states.now (λ e. c.if-rows-states.true (sym (length-map c.args.rows.now vec_items) ∙ e)))
