use Rattle.std.proofs.Common.{◌≡◌, length, false, map, ap, ◌∙◌, rules}
use Rattle.std.specs.Prelude.{vec_items}
use Rattle.std.proofs.Math.ListN.{replicate}
use Rattle.std.proofs.lemmas.List.{length-replicate}
use Rattle.fort_tree_automata.proofs.TakenLaws.{length-node, MarksTaken-node}
use Rattle.fort_tree_automata.proofs.nta.Nta.node_row.Goals as goal

pub returns-clause-count : goal.returns-clause-count
returns-clause-count c =
    let made : c.in_ok-flags.flags.items ≡ replicate c.args.self.now.states false = search (rules, c.in_ok-flags.ensures.items_if_clones_equal) in
    length-node c.args.self.now c.args.sym.0 (map vec_items c.args.rows.now) c.in_ok-flags.flags.items c.mark_any.new.flags.items c.mark_node.new.flags.items c.settle.new.flags.items
    (ap length made ∙ length-replicate c.args.self.now.states false) c.mark_any.ensures c.mark_node.ensures (rw c.deref.ensures.value at c.settle.ensures)

pub returns-clause-exact : goal.returns-clause-exact
returns-clause-exact c =
    let made : c.in_ok-flags.flags.items ≡ replicate c.args.self.now.states false = search (rules, c.in_ok-flags.ensures.items_if_clones_equal) in
    MarksTaken-node c.args.self.now c.requires c.args.sym.0 (map vec_items c.args.rows.now) c.in_ok-flags.flags.items c.mark_any.new.flags.items c.mark_node.new.flags.items c.settle.new.flags.items
    made (ap length made ∙ length-replicate c.args.self.now.states false) c.mark_any.ensures c.mark_node.ensures (rw c.deref.ensures.value at c.settle.ensures)
