use Rattle.std.proofs.Common.{◌≡◌, ◌+◌, suc, List, map, sym, ◌∙◌, arith}
use Rattle.std.proofs.lemmas.List.{length-map}
use Rattle.fort_theory.specs.Trees.{Tree}
use Rattle.fort_context_closure.proofs.NodeLaws.{AreFirstNodes-first, AreFirstNodes-again, AreNodesOf-all, listed-at}
use Rattle.fort_context_closure.proofs.nodes.first_nodes.Goals as goal
use Rattle.fort_context_closure.proofs.nodes.first_nodes.Goals.{then-number_of-place+in_ok-node_of+in_ok-push, else-number_of-place}

pub loop-place-preserved : goal.loop-place-preserved
loop-place-preserved c =
    let listed : List Tree = map (λ t. t.now) c.args.listed.now in
    let t = c.index-listed-place.result in
    let at = listed-at (λ r. r.now) c.args.listed.now c.loop-place.place t c.loop-place-test.true c.index-listed-place.is in
    let number = c.number_of.ensures listed c.requires in
    let next : c.loop-place.place + 1 ≡ suc c.loop-place.place = omega arith in
    elim c.if-number_of-place.branch [
      | then-number_of-place+in_ok-node_of+in_ok-push w ↦
          rw (w.nodes-is, w.in_ok-push.ensures.items)
          (AreFirstNodes-first listed c.loop-place.place t.now c.loop-place.nodes.items at c.loop-place.invariant _ (w.in_ok-node_of.ensures listed c.requires))
      | else-number_of-place w ↦
          rw w.nodes-is
          (AreFirstNodes-again listed c.loop-place.place t.now c.loop-place.nodes.items at c.loop-place.invariant (λ first. w.if-number_of-place.false (number ∙ (first ∙ sym next))))
    ]

pub returns : goal.returns
returns c =
    let listed : List Tree = map (λ t. t.now) c.args.listed.now in
    AreNodesOf-all listed c.loop-place.place c.loop-place.nodes.items (omega (arith, c.loop-place-test.false, length-map c.args.listed.now (λ t. t.now))) c.loop-place.invariant
