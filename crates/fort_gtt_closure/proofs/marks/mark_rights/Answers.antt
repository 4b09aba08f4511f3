use Rattle.std.proofs.Common.{ℕ}
use Rattle.fort_gtt_closure.specs.Marks.{IsMarked}
use Rattle.fort_gtt_closure.proofs.ElementLaws.{each_more}
use Rattle.fort_gtt_closure.proofs.marks.mark_rights.Goals as goal

pub loop-right-preserved : goal.loop-right-preserved
loop-right-preserved c = record {
  kept = λ i h. c.mark.ensures.kept i (c.loop-right.invariant.kept i h);
  marked = each_more (λ (right : ℕ × ℕ). IsMarked c.args.shape c.mark.new.cells right.1 c.args.q) c.args.rights.now c.loop-right.right-index (0, 0) c.loop-right-test.true
      (λ right there a b. c.mark.ensures.kept _ (c.loop-right.invariant.marked right there a b)) c.mark.ensures.marked;
}
