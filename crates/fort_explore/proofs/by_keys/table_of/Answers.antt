use Rattle.std.proofs.Common.{Bool, sym, subst}
use Rattle.std.specs.Prelude.{IfOk}
use Rattle.fort_explore.specs.ListedTargets.{AreListedTargets}
use Rattle.fort_explore.proofs.by_keys.table_of.Goals as goal

pub returns-then-are_few_places-clause-targets : goal.returns-then-are_few_places-clause-targets
returns-then-are_few_places-clause-targets g c = subst (λ (b : Bool). IfOk c.classed_table.result (AreListedTargets b)) (sym c.if-lists.false) c.classed_table.ensures.targets
