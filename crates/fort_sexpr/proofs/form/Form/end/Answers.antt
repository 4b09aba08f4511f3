use Rattle.std.proofs.Common.{◌∙◌, sym, arith}
use Rattle.fort_sexpr.proofs.FoundLaws.{form_spans}
use Rattle.fort_sexpr.proofs.NodesLaws.{has_entry}
use Rattle.fort_sexpr.proofs.form.Form.end.Goals as goal

pub returns-then-is_list-clause-after : goal.returns-then-is_list-clause-after
returns-then-is_list-clause-after c =
    let arena = c.self.inside.arena.now in
    let node = c.self.inside.node in
    let is = rw (← c.self.view_is) at c.is_list.ensures in
    let entry = has_entry arena.bytes.items arena.lists.items node _ arena.listed c.self.invariant (sym is ∙ c.if-is_list.true) c.index.ensures in
    rw (← c.self.view_is)
    (omega (arith, entry.end, (form_spans arena.bytes.items _ c.self.invariant.form).some))
