use Rattle.std.proofs.Common.{◌+◌, ◌∙◌, subst, sym, arith}
use Rattle.fort_sexpr.specs.Nodes.{StandOn}
use Rattle.fort_sexpr.proofs.FoundLaws.{form_spans}
use Rattle.fort_sexpr.proofs.NodesLaws.{has_entry, opens_within, from-form_from}
use Rattle.fort_sexpr.proofs.form.Form.elements.Goals as goal

pub overflow_add-result-2 : goal.overflow_add-result-2
overflow_add-result-2 c =
    let arena = c.self.inside.arena.now in
    let node = c.self.inside.node in
    let spans = form_spans arena.bytes.items _ c.self.invariant.form in
    omega (
      arith,
      arena.listed.few,
      c.self.invariant.number,
      opens_within arena.bytes.items node.from,
      from-form_from arena.bytes.items node.from,
      spans.some,
      spans.within,
    )

pub invariant_of-result : goal.invariant_of-result
invariant_of-result c =
    let arena = c.self.inside.arena.now in
    let node = c.self.inside.node in
    let is = rw (← c.self.view_is) at c.is_list.ensures in
    let entry = has_entry arena.bytes.items arena.lists.items node _ arena.listed c.self.invariant (sym is ∙ c.if-not-is_list.false) c.index-list.ensures in
    subst (λ n. StandOn arena.bytes.items (node.from + 1) (n + 1) c.index-list.result.now.count) (sym c.self.invariant.number) entry.inside
