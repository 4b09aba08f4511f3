use Rattle.std.proofs.Common.{◌≡◌, ℕ, ◌<◌, [], length, get_or, subst}
use Rattle.fort_labels.specs.RowsView.{Labels}
use Rattle.fort_labels.proofs.RowLaws.{width-pieces}
use Rattle.fort_labels.proofs.rows.Rows.width.Goals as goal

pub returns-clause-each : goal.returns-clause-each
returns-clause-each c =
    let a = c.self.inside in
    subst (λ (r : Labels). (q : ℕ) → q < length r.labels → length (get_or r.labels q []) ≡ r.width) c.self.view_is
    (width-pieces a.width a.count a.words.items c.self.invariant.words)
