use Rattle.std.proofs.Common.{[], ◌∷◌, ◌++◌, map, sym, ◌∙◌, arith}
use Rattle.std.proofs.lemmas.List.{take_all, length-map}
use Rattle.fort_tables.specs.Entries.{tuples_of}
use Rattle.fort_tables.specs.Tables.{listed_table, state_of}
use Rattle.fort_tables.proofs.EntryLaws.{length-tuples_after}
use Rattle.fort_callers.proofs.NodeStateLaws.{node_before, node_is_entry, one_more}
use Rattle.fort_callers.proofs.lockstep.states_of.Goals as goal

pub state_over-requires-clause-before : goal.state_over-requires-clause-before
state_over-requires-clause-before c =
    node_before (listed_table c.args.table.now) c.states-states.ensures.lawful c.args.dag.now c.requires.nodes c.loop-k.k c.node.result c.node.ensures
    c.deref.result.now (c.deref.ensures.value ∙ c.loop-k.invariant)

pub state_over-requires-clause-entry : goal.state_over-requires-clause-entry
state_over-requires-clause-entry c =
    node_is_entry (listed_table c.args.table.now) c.states-states.ensures.lawful c.args.dag.now c.requires.nodes c.loop-k.k c.node.result c.node.ensures
    c.deref.result.now (c.deref.ensures.value ∙ c.loop-k.invariant)

pub loop-k-preserved : goal.loop-k-preserved
loop-k-preserved c =
    c.in_ok-push.ensures.items
    ∙ ((λ i. sym c.deref.ensures.value i ++ c.in_ok-state.ensures i ∷ [])
    ∙ one_more (listed_table c.args.table.now) c.states-states.ensures.lawful c.args.dag.now c.requires.nodes c.loop-k.k c.node.result c.node.ensures
    c.deref.result.now (c.deref.ensures.value ∙ c.loop-k.invariant))

pub returns : goal.returns
returns c =
    let all = map (state_of (listed_table c.args.table.now)) (tuples_of c.args.dag.now) in
    c.loop-k.invariant
    ∙ take_all c.loop-k.k all
    (omega (arith, length-map (tuples_of c.args.dag.now) (state_of (listed_table c.args.table.now)), length-tuples_after [] c.args.dag.now, c.loop-k-test.false, c.len-k-end.ensures))
