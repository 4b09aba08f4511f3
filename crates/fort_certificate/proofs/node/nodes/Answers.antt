use Rattle.std.proofs.Common.{◌≤◌, length, drop, arith}
use Rattle.fort_grammar.specs.Forms.{Form}
use Rattle.fort_grammar.specs.Declarations.{as_list}
use Rattle.fort_certificate_theory.specs.OpenForms.{IsNodeForm}
use Rattle.fort_steps.specs.declared.open_certificate.Node.{Node}
use Rattle.fort_steps.specs.OpenView.{as_node}
use Rattle.fort_certificate.proofs.StepsLaws.{form_at-list, form_count-list}
use Rattle.fort_certificate.proofs.BuildLaws.{between_none, each_more, each_end, each_map}
use Rattle.fort_certificate.proofs.NodeLaws.{some_at}
use Rattle.fort_certificate.proofs.node.nodes.Goals as goal

pub nodes-init : goal.nodes-init
nodes-init c = (
  rw (between_none c.args.from (as_list c.args.forms.now.forms), c.in_ok-nodes.ensures.items) tt,
  omega (arith, c.in_ok-nodes.ensures.len),
  omega (arith, c.in_ok-nodes.ensures.capacity, c.len.ensures.count),
)

pub push_reserved-requires : goal.push_reserved-requires
push_reserved-requires c = omega (arith, c.nodes.invariant.1, c.nodes.invariant.2, c.nodes-test.true, c.len-i-end.ensures.count)

pub node-requires : goal.node-requires
node-requires c =
    let here = form_at-list c.args.forms.now.forms c.nodes.i c.form.result.form c.form.ensures.form in
    rw c.form.ensures.bytes
    (some_at (IsNodeForm c.args.forms.now.bytes) (as_list c.args.forms.now.forms) c.args.from c.nodes.i c.form.result.form c.requires.are.0
    c.nodes.auto.i here c.requires.are.1)

pub nodes-preserved : goal.nodes-preserved
nodes-preserved c =
    let bytes = c.args.forms.now.bytes in
    let R : Form → Node → Type 0 = λ f x. IsNodeForm bytes f (as_node x) in
    let here = form_at-list c.args.forms.now.forms c.nodes.i c.form.result.form c.form.ensures.form in (
      rw c.push_reserved.ensures.items
          (each_more R (as_list c.args.forms.now.forms) c.args.from c.nodes.i c.form.result.form c.nodes.nodes.items c.in_ok-node.field-0 c.nodes.auto.i
          here c.nodes.invariant.0 (rw c.form.ensures.bytes at c.in_ok-node.ensures)),
      omega (arith, c.nodes.invariant.1, c.push_reserved.ensures.len),
      omega (arith, c.nodes.invariant.2, c.push_reserved.ensures.capacity),
    )

pub returns : goal.returns
returns c =
    let bytes = c.args.forms.now.bytes in
    let all = as_list c.args.forms.now.forms in
    let R : Form → Node → Type 0 = λ f x. IsNodeForm bytes f (as_node x) in
    let end : length all ≤ c.nodes.i = omega (arith, c.nodes-test.false, c.len-i-end.ensures.count, form_count-list c.args.forms.now.forms) in
    each_map (IsNodeForm bytes) as_node (drop c.args.from all) c.nodes.nodes.items
    (each_end R all c.args.from c.nodes.i c.nodes.nodes.items end c.nodes.invariant.0)
