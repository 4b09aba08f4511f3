use Rattle.std.proofs.Common.{ℕ}
use Rattle.fort_gtt_closure.specs.Marks.{IsMarked}
use Rattle.fort_gtt_closure.proofs.ElementLaws.{each_more}
use Rattle.fort_gtt_closure.proofs.marks.mark_lefts.Goals as goal

pub loop-left-preserved : goal.loop-left-preserved
loop-left-preserved c = record {
  kept = λ i h. c.mark.ensures.kept i (c.loop-left.invariant.kept i h);
  marked = each_more (λ (left : ℕ × ℕ). IsMarked c.args.shape c.mark.new.cells c.args.p left.1) c.args.lefts.now c.loop-left.left-index (0, 0) c.loop-left-test.true
      (λ left there a b. c.mark.ensures.kept _ (c.loop-left.invariant.marked left there a b)) c.mark.ensures.marked;
}
