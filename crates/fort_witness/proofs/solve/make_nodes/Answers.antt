use Rattle.std.specs.BinaryHeap.{heap_items}
use Rattle.fort_tables.specs.Tables.{listed_table}
use Rattle.fort_witness.specs.Solving.{IsTakenOut}
use Rattle.fort_witness.proofs.solve.make_nodes.Goals as goal

pub returns-then-branch-clause-more : goal.returns-then-branch-clause-more
returns-then-branch-clause-more c = λ e h height first up.
    let m = c.heads.invariant h first in
    let o = c.in-Some.ensures.heap_order m.ordered in
    let q : IsTakenOut (listed_table c.args.table.now) c.args.most h c.args.span.low c.args.span.end c.heads.kept c.in-Some.head (heap_items c.pop.new.self) =
    record { heads = heap_items c.heads.heads; making = m; permutation = c.in-Some.ensures.permutation; top = o.1; ordered = o.0 } in
    c.in_ok-make_node.ensures.more c.if-branch.true h height q up

pub heads-preserved : goal.heads-preserved
heads-preserved c = λ h first.
    let m = c.heads.invariant h first in
    let o = c.in-Some.ensures.heap_order m.ordered in
    let q : IsTakenOut (listed_table c.args.table.now) c.args.most h c.args.span.low c.args.span.end c.heads.kept c.in-Some.head (heap_items c.pop.new.self) =
    record { heads = heap_items c.heads.heads; making = m; permutation = c.in-Some.ensures.permutation; top = o.1; ordered = o.0 } in
    c.in_ok-make_node.ensures.done c.if-branch.false h q
