use Rattle.std.proofs.Common.{arith, ap, length, ◌∙◌, ◌+◌, ◌≤◌, replicate, sym, refl}
use Rattle.std.proofs.lemmas.List.{length-replicate}
use Rattle.fort_entry_walk.proofs.WalkLaws.{later_next, AreUpTo-zeros}
use Rattle.fort_entry_walk.proofs.walk.Walk.find_after.Goals as goal

pub stages-preserved : goal.stages-preserved
stages-preserved c =
    let i = c.stages.invariant in
    let none = c.if-find_in_stage.ensures.none refl in
    let z = c.zeros-self.ensures ∙ ap (λ n. replicate n 0) (sym i.width) in
    let l : c.stages.stage + 1 ≤ length c.args.presences.now = omega arith in
    record {
      stage = l;
      width = ap length c.zeros-self.ensures ∙ length-replicate (length c.digits-columns.result.now) 0;
      arities = c.if-find_in_stage.ensures.arities ∙ i.arities;
      columns = i.columns;
      digits = rw c.zeros-self.ensures (AreUpTo-zeros (length c.args.sig.now) (length c.digits-columns.result.now));
      others = record { stage = none.stage ∙ i.others.stage; kids = none.kids ∙ i.others.kids; wanted = none.wanted ∙ i.others.wanted };
      same = rw z (later_next c.args.sig.now c.args.presences.now c.stages.stage c.stages.self.digits (omega arith) c.if-find_in_stage.ensures.next ∙ i.same);
    }
