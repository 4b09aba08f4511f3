use Rattle.std.proofs.Common.{length, ap, ◌∙◌, sym}
use Rattle.std.proofs.lemmas.Bool.{eqb-true, eq-eqb}
use Rattle.fort_sexpr.specs.Found.{run_from}
use Rattle.fort_sexpr.proofs.FormLists.{length-as_list}
use Rattle.fort_sexpr.proofs.NodesLaws.{none_left}
use Rattle.fort_sexpr.proofs.form.FormList.is_empty.Goals as goal

pub returns : goal.returns
returns c =
    let bytes = c.self.inside.arena.now.bytes.items in
    let list = c.self.inside in
    rw (← c.self.view_is) (
      λ yes. none_left bytes list.at list.list list.count c.self.invariant (eqb-true _ 0 yes),
      λ none. eq-eqb list.count 0
          (c.self.invariant.many ∙ (sym (length-as_list (run_from bytes list.at).0) ∙ ap (λ xs. length xs) none)),
    )
