use Rattle.std.proofs.Common.{◌≡◌, ◌+◌, ◌-◌, ◌≤◌, vec_len, vec_capacity}
use Rattle.std.specs.List.{AllZip}
use Rattle.fort_sexpr.specs.FormView.{form_count}
use Rattle.fort_grammar.specs.Declarations.{as_list}
use Rattle.fort_certificate_theory.specs.OpenForms.{IsNodeForm}
use Rattle.fort_steps.specs.OpenView.{as_node}
use Rattle.fort_certificate.specs.Checking.{between}
use Rattle.fort_certificate.proofs.node.nodes.Given as goal

abbrev pub invariant-nodes : goal.invariant-nodes
invariant-nodes l =
    AllZip (λ f x. IsNodeForm l.forms.bytes f (as_node x)) (between l.from l.i (as_list l.forms.forms)) l.nodes.items
    × (l.from + vec_len l.nodes ≡ l.i) × (form_count l.forms.forms - l.from ≤ vec_capacity l.nodes)
