use Rattle.std.proofs.Common.{◌≡◌, ℕ, List, Bool, get_or, sym, subst}
use Rattle.fort_gtt_closure.specs.Marks.{IsMarked, KeepsSet}
use Rattle.fort_gtt_closure.proofs.ElementLaws.{each_more}
use Rattle.fort_gtt_closure.proofs.marks.mark_meeting_one.Goals as goal
use Rattle.fort_gtt_closure.proofs.marks.mark_meeting_one.Goals.{then-right-left, else-right-left}

pub loop-left-preserved : goal.loop-left-preserved
loop-left-preserved c =
    let here : ℕ × ℕ = get_or c.args.lefts.now c.loop-left.left-index (0, 0) in
    let right : ℕ × ℕ = c.args.right in
    let Step : List Bool → Type 0 = λ new. KeepsSet c.loop-left.cells new × (right.0 ≡ here.0 → IsMarked c.args.shape new right.1 here.1) in
    let step : Step c.if-right-left.cells =
    elim c.if-right-left.branch [
      | then-right-left w ↦ subst Step (sym w.cells-is) (w.mark.ensures.kept, λ e. w.mark.ensures.marked)
      | else-right-left w ↦ subst Step (sym w.cells-is) (λ i h. h, λ e. absurd (w.if-right-left.false e))
    ] in
    record {
      kept = λ i h. step.0 i (c.loop-left.invariant.kept i h);
      marked = each_more (λ (left : ℕ × ℕ). right.0 ≡ left.0 → IsMarked c.args.shape c.if-right-left.cells right.1 left.1) c.args.lefts.now c.loop-left.left-index (0, 0) c.loop-left-test.true
          (λ left there e a b. step.0 _ (c.loop-left.invariant.marked left there e a b)) step.1;
    }
