use Rattle.std.proofs.Common.{length, ap, ◌∙◌}
use Rattle.fort_sexpr.specs.Nodes.{text_forms}
use Rattle.fort_sexpr.proofs.NodesLaws.{length-nodes_of}
use Rattle.fort_sexpr.proofs.text.Forms.len.Goals as goal

pub returns-clause-count : goal.returns-clause-count
returns-clause-count c =
    let bytes = c.self.inside.arena.bytes.items in
    let top = c.self.inside.top in
    rw (← c.self.view_is)
    (c.len.ensures ∙ (top.ok.0 ∙ (ap (λ xs. length xs) c.self.invariant.nodes ∙ length-nodes_of bytes (text_forms bytes))))
