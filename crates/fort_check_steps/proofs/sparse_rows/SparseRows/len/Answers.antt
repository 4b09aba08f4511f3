use Rattle.std.proofs.Common.{length, ap, arith}
use Rattle.fort_tables.proofs.TupleLaws.{length-tabulate}
use Rattle.fort_check_steps.specs.SparseWords.{label_at}
use Rattle.fort_check_steps.specs.SparseRowsView.{SparseLabels}
use Rattle.fort_check_steps.proofs.sparse_rows.SparseRows.len.Goals as goal

pub returns : goal.returns
returns c =
    let a = c.self.inside in
    omega (arith, c.len.ensures, a.ends.ok.0, length-tabulate (length a.ends.items) (label_at a.width a.ends.items a.places.items a.words.items), ap (λ (l : SparseLabels). length l.labels) c.self.view_is)
