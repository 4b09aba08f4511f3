use Rattle.std.proofs.Common.{arith, ◌∙◌, sym, [], ◌∷◌, false}
use Rattle.fort_entry_walk.proofs.KidLaws.{first_tried-same, lists_past, pair_here, pair_none}
use Rattle.fort_entry_walk.proofs.kid_lists.first_pair_from.Goals as goal
use Rattle.fort_entry_walk.proofs.kid_lists.first_pair_from.Goals.{then-from-want+in-None, else-from-want}

pub loop-q-init : goal.loop-q-init
loop-q-init c =
    rw c.jump-q.ensures (first_tried-same c.args.presences.now c.args.want c.args.from c.args.greatest (c.args.last ∷ []) false (omega arith))

pub returns-in-Some-clause-next : goal.returns-in-Some-clause-next
returns-in-Some-clause-next c =
    pair_here c.args.presences.now c.args.want c.args.last c.loop-q.q c.in-Some.other c.args.greatest _ (omega arith) (sym c.from.ensures ∙ c.if-from-want.true) c.in-Some.ensures.next c.loop-q.invariant

pub loop-q-preserved : goal.loop-q-preserved
loop-q-preserved c =
    let ps = c.args.presences.now in
    elim c.if-from-want.branch [
      | then-from-want+in-None w ↦
          pair_none ps c.args.want c.args.last c.loop-q.q c.args.greatest _ (omega arith) (sym c.from.ensures ∙ w.if-from-want.true) w.in-None.ensures.next c.loop-q.invariant
      | else-from-want w ↦
          lists_past ps c.args.want c.loop-q.q c.args.greatest (c.args.last ∷ []) false _ (omega arith) (λ e. w.if-from-want.false (c.from.ensures ∙ e)) c.loop-q.invariant
    ]
