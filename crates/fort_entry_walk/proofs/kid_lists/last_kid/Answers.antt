use Rattle.std.proofs.Common.{arith, ◌∙◌, sym, ap, []}
use Rattle.fort_entry_walk.specs.Walks.{kid_lists_from}
use Rattle.fort_entry_walk.proofs.KidLaws.{first_tried-same, lists_past, last_here}
use Rattle.fort_entry_walk.proofs.kid_lists.last_kid.Goals as goal

pub loop-q-preserved : goal.loop-q-preserved
loop-q-preserved c =
    lists_past c.args.presences.now c.args.want c.loop-q.q c.args.greatest [] c.args.has_greatest _ (omega arith) (λ e. c.if-from-want.false (c.from.ensures ∙ e)) c.loop-q.invariant

pub loop-q-init : goal.loop-q-init
loop-q-init c =
    ap (kid_lists_from c.args.presences.now c.args.greatest [] c.args.has_greatest) c.skip_fours-q.ensures.same
    ∙ rw c.jump-tried.ensures (first_tried-same c.args.presences.now c.args.want c.args.from c.args.greatest [] c.args.has_greatest (omega arith))

pub returns-then-from-want-clause-next : goal.returns-then-from-want-clause-next
returns-then-from-want-clause-next c =
    last_here c.args.presences.now c.args.want c.loop-q.q c.args.from c.args.greatest c.args.has_greatest _ (omega arith) (sym c.from.ensures ∙ c.if-from-want.true)
    (rw (← c.jump-tried.ensures) (omega (arith, c.skip_fours-q.ensures.from, c.loop-q.auto.q))) c.loop-q.invariant
