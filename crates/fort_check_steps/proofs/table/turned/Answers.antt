use Rattle.std.proofs.Common.{Bool, not, ◌&&◌, sym, ap, ◌∙◌}
use Rattle.fort_check_steps.proofs.TableLaws.{turned_more}
use Rattle.fort_check_steps.proofs.table.turned.Goals as goal
use Rattle.fort_check_steps.proofs.table.turned.Goals.{then-is_full, else-is_full}

pub loop-turn-preserved : goal.loop-turn-preserved
loop-turn-preserved c =
    let more = turned_more c.loop-turn.turn c.args.is_full c.args.is_final c.loop-turn.truth c.loop-turn.invariant in
    elim c.if-is_full.branch [
      | then-is_full w ↦ w.truth-is ∙ (sym (ap (λ (b : Bool). b && not c.loop-turn.truth) w.if-is_full.true) ∙ more)
      | else-is_full w ↦ w.truth-is ∙ (w.if-is_full.false ∙ (sym (ap (λ (b : Bool). b && not c.loop-turn.truth) w.if-is_full.false) ∙ more))
    ]
