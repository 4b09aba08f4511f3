use Rattle.std.proofs.Common.{arith, ◌∙◌, sym}
use Rattle.fort_entry_walk.proofs.KidLaws.{first_tried-same, lists_past, lists_none}
use Rattle.fort_entry_walk.proofs.kid_lists.+kids.Goals as goal
use Rattle.fort_entry_walk.proofs.kid_lists.+kids.Goals.{first_kids_from-then-from-want+in-None-first_kids, first_kids_from-else-from-want}

pub first_kids_from-loop-q-preserved : goal.first_kids_from-loop-q-preserved
first_kids_from-loop-q-preserved t c =
    let ps = c.args.presences.now in
    let wants = c.args.wants.now in
    elim c.if-from-want.branch [
      | first_kids_from-then-from-want+in-None-first_kids w ↦
          lists_none ps c.args.want c.loop-q.q c.args.greatest wants c.args.has_greatest _ (omega arith) (sym c.from.ensures ∙ w.if-from-want.true)
          (rw (← w.has_greatest_with.ensures) w.in-None-first_kids.ensures.next) c.loop-q.invariant
      | first_kids_from-else-from-want w ↦
          lists_past ps c.args.want c.loop-q.q c.args.greatest wants c.args.has_greatest _ (omega arith) (λ e. w.if-from-want.false (c.from.ensures ∙ e)) c.loop-q.invariant
    ]

pub first_kids_from-loop-q-init : goal.first_kids_from-loop-q-init
first_kids_from-loop-q-init t c =
    rw c.jump-q.ensures (first_tried-same c.args.presences.now c.args.want c.args.from c.args.greatest c.args.wants.now c.args.has_greatest (omega arith))
