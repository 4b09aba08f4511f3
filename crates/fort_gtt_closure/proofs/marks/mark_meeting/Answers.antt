use Rattle.std.proofs.Common.{◌≡◌, ℕ}
use Rattle.std.specs.Prelude.{Contains}
use Rattle.fort_gtt_closure.specs.Marks.{IsMarked}
use Rattle.fort_gtt_closure.proofs.ElementLaws.{each_more}
use Rattle.fort_gtt_closure.proofs.marks.mark_meeting.Goals as goal

pub loop-right-preserved : goal.loop-right-preserved
loop-right-preserved c = record {
  kept = λ i h. c.mark_meeting_one.ensures.kept i (c.loop-right.invariant.kept i h);
  marked = each_more (λ (right : ℕ × ℕ). (left : ℕ × ℕ) → Contains c.args.lefts.now left → right.0 ≡ left.0 → IsMarked c.args.shape c.mark_meeting_one.new.cells right.1 left.1)
      c.args.rights.now c.loop-right.right-index (0, 0) c.loop-right-test.true
      (λ right there left c2 e a b. c.mark_meeting_one.ensures.kept _ (c.loop-right.invariant.marked right there left c2 e a b)) c.mark_meeting_one.ensures.marked;
}
