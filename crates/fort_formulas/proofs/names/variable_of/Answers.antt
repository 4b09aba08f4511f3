use Rattle.std.specs.Prelude.{[]}
use Rattle.fort_formulas.proofs.names.variable_of.Goals as goal

pub returns : goal.returns
returns c = c.in_ok-push_variable.ensures [] c.new-names.ensures.items
