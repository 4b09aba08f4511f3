use Rattle.std.proofs.Common.{length, get_or, ap, ◌∙◌, arith}
use Rattle.fort_sexpr.specs.Nodes.{text_forms}
use Rattle.fort_sexpr.proofs.NodesLaws.{length-nodes_of, node_at}
use Rattle.fort_sexpr.proofs.text.Forms.form.Goals as goal

pub index-requires : goal.index-requires
index-requires c =
    let bytes = c.self.inside.arena.bytes.items in
    let top = c.self.inside.top in
    omega (
      arith,
      rw (← c.self.view_is) at c.requires,
      ap (λ xs. length xs) c.self.invariant.nodes,
      length-nodes_of bytes (text_forms bytes),
      top.ok.0,
    )

pub invariant_of-result : goal.invariant_of-result
invariant_of-result c =
    let bytes = c.self.inside.arena.bytes.items in
    let n = c.index.result.now in
    (node_at bytes (text_forms bytes) _ _ c.args.i n c.self.invariant.forms.stand (rw (← c.self.view_is) at c.requires)
    (c.index.ensures ∙ ap (λ xs. get_or xs c.args.i n) c.self.invariant.nodes)).stands

pub returns-clause-form : goal.returns-clause-form
returns-clause-form c =
    let bytes = c.self.inside.arena.bytes.items in
    let n = c.index.result.now in
    rw (← c.self.view_is)
    (node_at bytes (text_forms bytes) _ _ c.args.i n c.self.invariant.forms.stand (rw (← c.self.view_is) at c.requires)
    (c.index.ensures ∙ ap (λ xs. get_or xs c.args.i n) c.self.invariant.nodes)).form
