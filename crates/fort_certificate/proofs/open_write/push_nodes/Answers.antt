use Rattle.std.proofs.Common.{◌++◌, ap, subst, ◌∙◌, arith}
use Rattle.std.specs.List.{AllByRecursion}
use Rattle.std.proofs.lemmas.List.{take_all}
use Rattle.fort_certificate_theory.specs.CertificateText.{line_of}
use Rattle.fort_certificate_theory.specs.OpenText.{node_elements, nodes_text, CanNodeBeWritten}
use Rattle.fort_certificate.proofs.SmallLaws.{all_small_more}
use Rattle.fort_certificate.proofs.LineLaws.{nodes_more}
use Rattle.fort_certificate.proofs.open_write.push_nodes.Goals as goal

pub loop-node-preserved : goal.loop-node-preserved
loop-node-preserved c =
    let i = c.loop-node.invariant in
    let nodes = c.args.dag.now in
    let k = c.loop-node.node in
    let n = c.node.result in
    record {
      text = c.in_ok-push_node.ensures.text
          ∙ (ap (λ xs. xs ++ line_of (node_elements n)) i.text ∙ nodes_more c.args.out.now.items nodes k n c.node.ensures);
      small = all_small_more CanNodeBeWritten nodes k n c.node.ensures i.small c.in_ok-push_node.ensures.small;
    }

pub returns-clause-text : goal.returns-clause-text
returns-clause-text c =
    c.loop-node.invariant.text
    ∙ ap (λ ns. c.args.out.now.items ++ nodes_text ns)
    (take_all c.loop-node.node c.args.dag.now (omega (arith, c.loop-node-test.false, c.len-node-end.ensures)))

pub returns-clause-small : goal.returns-clause-small
returns-clause-small c =
    subst (AllByRecursion CanNodeBeWritten) (take_all c.loop-node.node c.args.dag.now (omega (arith, c.loop-node-test.false, c.len-node-end.ensures)))
    c.loop-node.invariant.small
