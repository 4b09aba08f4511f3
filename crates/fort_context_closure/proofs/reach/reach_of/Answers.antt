use Rattle.std.proofs.Common.{arith}
use Rattle.std.proofs.lemmas.List.{get_or_default}
use Rattle.fort_context_closure.proofs.ReachRowLaws.{IsReach-clear, IsReach-entry}
use Rattle.fort_context_closure.proofs.reach.reach_of.Goals as goal

pub loop-entry-init : goal.loop-entry-init
loop-entry-init c = IsReach-clear _ _ _ _ (omega arith) c.in_ok-clear_rows.ensures c.in_ok-clear_rows-2.ensures

pub loop-entry-preserved : goal.loop-entry-preserved
loop-entry-preserved c =
    IsReach-entry c.args.lefts c.args.rights c.loop-entry.reach c.mark_entry.new.reach c.args.entries.now c.loop-entry.entry-index _ c.loop-entry-test.true
    (get_or_default c.args.entries.now c.loop-entry.entry-index _ _ c.loop-entry-test.true) c.loop-entry.invariant c.mark_entry.ensures
