use Rattle.std.specs.Prelude.{Contains}
use Rattle.std.proofs.Common.{refl, sym, ap, subst, inl, inr, ⊎_elim}
use Rattle.std.proofs.lemmas.Bool.{false≢true}
use Rattle.std.proofs.lemmas.List.{take_more, take_all}
use Rattle.std.proofs.lemmas.List.Elements.{Contains-get_or, Contains-push_cases}
use Rattle.fort_context_closure.specs.TermNodes.{TermNode, IsNode, numbers_told}
use Rattle.fort_context_closure.proofs.term_labels.number_over.Goals as goal

pub loop-node-preserved : goal.loop-node-preserved
loop-node-preserved c node among is =
    let one = rw (take_more _ _ c.node-item.result c.loop-node-test.true, ← c.node-item.is) at among in
    ⊎_elim
    (λ before. c.loop-node.invariant node before is)
    (λ here. false≢true (c.if-is_node.ensures.1 (subst (IsNode c.args.sym.0 (numbers_told c.args.rows.now.labels c.args.row.now.kids)) (sym here) is)))
    (Contains-push_cases _ _ node one)

pub returns-then-is_node : goal.returns-then-is_node
returns-then-is_node c = inl (
  c.node-item.result,
  subst (λ (n : TermNode). Contains c.args.nodes.now n) (sym c.node-item.is) (Contains-get_or c.args.nodes.now c.loop-node.node-index c.node-item.result c.loop-node-test.true),
  c.if-is_node.ensures.0 refl,
  ap (λ (n : TermNode). n.number) c.node.view_is,
)

pub returns : goal.returns
returns c = inr (refl, (rw (take_all _ _ c.loop-node-test.false) at c.loop-node.invariant))
