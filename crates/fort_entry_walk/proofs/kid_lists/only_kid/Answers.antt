use Rattle.std.proofs.Common.{sym, ◌∙◌}
use Rattle.fort_entry_walk.proofs.KidLaws.{one_list, no_list}
use Rattle.fort_entry_walk.proofs.kid_lists.only_kid.Goals as goal

pub returns-then-from-want-clause-next : goal.returns-then-from-want-clause-next
returns-then-from-want-clause-next c = rw (c.with_first.ensures, c.empty.ensures) (one_list c.args.presences.now c.args.want c.args.greatest (sym c.from.ensures ∙ c.if-from-want.true))

pub returns-else-from-want-clause-next : goal.returns-else-from-want-clause-next
returns-else-from-want-clause-next c = no_list c.args.presences.now c.args.want c.args.greatest (λ e. c.if-from-want.false (c.from.ensures ∙ e))
