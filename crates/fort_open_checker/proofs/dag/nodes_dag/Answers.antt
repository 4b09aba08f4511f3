use Rattle.fort_open_checker.proofs.NodeTestLaws.{node_row, nodes_so_far}
use Rattle.fort_open_checker.proofs.dag.nodes_dag.Goals as goal

pub row_of-requires : goal.row_of-requires
row_of-requires c =
    let r = c.requires in
    (r.0, node_row r.0 r.1 c.args.nodes.now r.4 c.loop-node.node-index c.node-item.result c.loop-node-test.true c.node-item.is r.2 r.3)

pub push-requires : goal.push-requires
push-requires c =
    let r = c.requires in
    (r.0, r.1, nodes_so_far r.0 r.1 c.args.nodes.now r.4 c.loop-node.node-index c.node-item.result c.loop-node-test.true c.node-item.is c.loop-node.dag c.row_of.result c.loop-node.invariant c.row_of.ensures)
