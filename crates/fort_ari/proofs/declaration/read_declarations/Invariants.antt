use Rattle.std.proofs.Common.{◌-◌}
use Rattle.fort_grammar.specs.Declarations.{as_list}
use Rattle.fort_sexpr.specs.FormView.{form_count}
use Rattle.fort_ari.specs.Reading.{DeclareUpTo}
use Rattle.fort_ari.proofs.declaration.read_declarations.Given as goal

abbrev pub invariant-declarations : goal.invariant-declarations
invariant-declarations l = DeclareUpTo l.forms.bytes (as_list l.forms.forms) l.signature l.next

abbrev pub decreases-declarations : goal.decreases-declarations
decreases-declarations l = form_count l.forms.forms - l.next
