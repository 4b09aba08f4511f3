use Rattle.std.proofs.Common.{ℕ, List, ◌∙◌, length, sym, subst}
use Rattle.fort_tree_automata.specs.declared.nta.Move.{Move}
use Rattle.fort_gtt_closure.specs.Links.{AreWithin}
use Rattle.fort_gtt_closure.proofs.TargetLaws.{group-within, by_places-is}
use Rattle.fort_gtt_closure.proofs.reasons.by_moves.Goals as goal

pub by_kids_at-requires-clause-right : goal.by_kids_at-requires-clause-right
by_kids_at-requires-clause-right c =
    let links = c.args.links.now in
    let moves = c.args.agtt.now.right.moves.items in
    subst (λ (zs : List Move). AreWithin (length zs) c.get-rights.result.now) (sym c.deref.ensures.value)
    (subst (λ (xs : List (ℕ × ℕ)). AreWithin (length moves) xs) (sym c.get-rights.ensures)
    (group-within c.args.agtt.now.right.states moves links.right_targets c.args.p c.requires.leads.right_targets c.requires.right))

pub by_kids_at-requires-clause-left : goal.by_kids_at-requires-clause-left
by_kids_at-requires-clause-left c =
    let links = c.args.links.now in
    let moves = c.args.agtt.now.left.moves.items in
    subst (λ (zs : List Move). AreWithin (length zs) c.get-lefts.result.now) (sym c.deref-2.ensures.value)
    (subst (λ (xs : List (ℕ × ℕ)). AreWithin (length moves) xs) (sym c.get-lefts.ensures)
    (group-within c.args.agtt.now.left.states moves links.left_targets c.args.q c.requires.leads.left_targets c.requires.left))

pub returns : goal.returns
returns c =
    let links = c.args.links.now in
    let agtt = c.args.agtt.now in
    (rw (c.deref.ensures.value, c.deref-2.ensures.value) at c.by_kids_at.ensures)
    ∙ by_places-is c.args.grid.now.entries.items c.args.p c.args.q agtt.right.moves.items agtt.left.moves.items c.get-rights.result.now c.get-lefts.result.now
    (c.get-rights.ensures ∙ c.requires.leads.right_targets.each c.args.p c.requires.right)
    (c.get-lefts.ensures ∙ c.requires.leads.left_targets.each c.args.q c.requires.left)
