use Rattle.std.proofs.Common.{◌-◌}
use Rattle.fort_grammar.specs.Declarations.{as_list}
use Rattle.fort_sexpr.specs.FormView.{form_count}
use Rattle.fort_ari.specs.Reading.{HasRulesUpTo}
use Rattle.fort_ari.proofs.problem.read_rules.Given as goal

abbrev pub invariant-rules : goal.invariant-rules
invariant-rules l = HasRulesUpTo l.forms.bytes (as_list l.forms.forms) l.fn.number l.fn.declarations.signature l.fn.declarations.next l.next l.system

abbrev pub decreases-rules : goal.decreases-rules
decreases-rules l = form_count l.forms.forms - l.next
