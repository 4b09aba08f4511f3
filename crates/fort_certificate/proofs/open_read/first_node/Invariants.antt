use Rattle.std.specs.List.{AllByRecursion}
use Rattle.fort_grammar.specs.Declarations.{as_list, IsHeaded}
use Rattle.fort_certificate_theory.specs.OpenForms.{node_word}
use Rattle.fort_certificate.specs.Checking.{between}
use Rattle.fort_certificate.proofs.open_read.first_node.Given as goal

abbrev pub invariant-forms : goal.invariant-forms
invariant-forms l = AllByRecursion (λ f. IsHeaded l.forms.bytes node_word f → ⊥) (between l.from l.i (as_list l.forms.forms))
