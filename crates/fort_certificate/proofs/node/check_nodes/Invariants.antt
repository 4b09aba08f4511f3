use Rattle.fort_grammar.specs.Declarations.{as_list}
use Rattle.fort_certificate_theory.specs.OpenForms.{IsNodeForm}
use Rattle.fort_certificate.proofs.StepsLaws.{AreSomeUpTo}
use Rattle.fort_certificate.proofs.node.check_nodes.Given as goal

abbrev pub invariant-nodes : goal.invariant-nodes
invariant-nodes l = AreSomeUpTo (IsNodeForm l.forms.bytes) (as_list l.forms.forms) l.from l.i
