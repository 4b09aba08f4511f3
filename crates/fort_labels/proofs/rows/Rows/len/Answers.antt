use Rattle.std.proofs.Common.{ap, sym, ◌∙◌, length}
use Rattle.fort_labels.specs.RowsView.{Labels}
use Rattle.fort_tables.proofs.PieceLaws.{length-pieces}
use Rattle.fort_labels.proofs.rows.Rows.len.Goals as goal

pub returns : goal.returns
returns c = sym (length-pieces c.self.inside.width c.self.inside.count c.self.inside.words.items) ∙ ap (λ (r : Labels). length r.labels) c.self.view_is
