use Rattle.std.proofs.Common.{◌∙◌, sym}
use Rattle.std.proofs.lemmas.List.{take_rest}
use Rattle.fort_sexpr.proofs.NodesLaws.{word-form_from}
use Rattle.fort_sexpr.proofs.form.Form.word_on.Goals as goal

pub returns-clause-some : goal.returns-clause-some
returns-clause-some c =
    let arena = c.self.inside.arena.now in
    let is = rw (← c.self.view_is) at c.is_list.ensures in
    rw (← c.self.view_is, c.deref.ensures.value, take_rest)
    (word-form_from arena.bytes.items c.self.inside.node.from (sym is ∙ c.if-is_list.false))
