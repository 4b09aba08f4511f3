use Rattle.std.proofs.Common.{arith, ◌∙◌, sym}
use Rattle.fort_explore.proofs.table.finals_of.Goals as goal

pub is_final-requires : goal.is_final-requires
is_final-requires g c =
    let h = c.requires.labels.2 c.loop-q.q (omega arith) in
    (c.requires.labels.0, c.requires.labels.1, (h.0, h.1, h.2 ∙ sym c.label.ensures))
