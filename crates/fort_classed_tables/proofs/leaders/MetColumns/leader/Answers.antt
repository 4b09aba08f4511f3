use Rattle.std.proofs.Common.{List, ℕ, subst}
use Rattle.std.proofs.lemmas.Result.{IfOk-weaker}
use Rattle.fort_classed_tables.specs.ColumnLeaders.{GivesFirst}
use Rattle.fort_classed_tables.proofs.leaders.MetColumns.leader.Goals as goal

pub returns-clause-there : goal.returns-clause-there
returns-clause-there c =
    IfOk-weaker c.first_with.result _ _
    (λ l gives _. subst (λ (column : List ℕ). GivesFirst c.args.self.now c.first_with.new.self column c.args.state l) c.in_ok-column.ensures gives)
    c.first_with.ensures
