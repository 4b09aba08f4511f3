use Rattle.std.proofs.Common.{ap, sym, ◌∙◌, ◌++◌, map, get_or}
use Rattle.std.proofs.lemmas.Result.{on_ok_weaker}
use Rattle.fort_dues.specs.DueView.{as_due}
use Rattle.std.specs.Prelude.{not}
use Rattle.fort_theory.specs.Cores as core
use Rattle.fort_outline.specs.Roots.{root_core}
use Rattle.fort_dues.proofs.DueLists.{plain_root, columns_there, answer_value, answer_turned, answer_part, due_put, none_put}
use Rattle.fort_dues.proofs.dues.push_answer.Goals as goal

pub returns-then-is_empty : goal.returns-then-is_empty
returns-then-is_empty c = λ parts are.
    let f = root_core parts c.args.root.now in
    due_put c.args.dues.now.items c.push.new.self.items _ _ c.in_ok-push.ensures.items
    (answer_value (λ k. c.args.is_merged) c.args.number f (sym (columns_there f c.args.columns.now c.is_empty.result are c.is_empty.ensures) ∙ ap not c.if-is_empty.true))

pub returns-in-Not : goal.returns-in-Not
returns-in-Not c = λ parts are.
    let f = root_core parts c.args.root.now in
    none_put c.args.dues.now.items _
    (answer_turned (λ k. c.args.is_merged) c.args.number f (get_or parts c.in-Not.field-0 core.True) (ap (root_core parts) c.in-Not.is)
    (sym (columns_there f c.args.columns.now c.is_empty.result are c.is_empty.ensures) ∙ ap not c.if-is_empty.false))

pub returns-in_default : goal.returns-in_default
returns-in_default c = on_ok_weaker c.push_table.result (λ put parts are.
    let f = root_core parts c.args.root.now in
    put ∙ ap (λ ds. map as_due c.args.dues.now.items ++ ds)
    (sym (answer_part (λ k. c.args.is_merged) c.args.number f (plain_root parts c.args.root.now c.in_default.not-Not)
    (sym (columns_there f c.args.columns.now c.is_empty.result are c.is_empty.ensures) ∙ ap not c.if-is_empty.false)))) c.push_table.ensures
