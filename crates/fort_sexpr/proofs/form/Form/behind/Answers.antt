use Rattle.std.proofs.Common.{◌∙◌, sym}
use Rattle.fort_sexpr.proofs.NodesLaws.{has_entry, opens_behind_word}
use Rattle.fort_sexpr.proofs.form.Form.behind.Goals as goal

pub returns-then-is_list-clause-number : goal.returns-then-is_list-clause-number
returns-then-is_list-clause-number c =
    let arena = c.self.inside.arena.now in
    let is = rw (← c.self.view_is) at c.is_list.ensures in
    rw (← c.self.view_is)
    (has_entry arena.bytes.items arena.lists.items c.self.inside.node _ arena.listed c.self.invariant
    (sym is ∙ c.if-is_list.true) c.index-list.ensures).behind

pub returns-clause-number : goal.returns-clause-number
returns-clause-number c =
    let arena = c.self.inside.arena.now in
    let node = c.self.inside.node in
    let is = rw (← c.self.view_is) at c.is_list.ensures in
    rw (← c.self.view_is)
    (c.self.invariant.number ∙ sym (opens_behind_word arena.bytes.items node.from (sym is ∙ c.if-is_list.false) c.self.invariant.form))
