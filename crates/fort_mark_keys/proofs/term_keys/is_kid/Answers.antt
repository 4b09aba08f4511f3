use Rattle.std.proofs.Common.{sym, ◌∙◌}
use Rattle.fort_mark_keys.proofs.SubtermListLaws.{tree_eq-same, child-past, child-found}
use Rattle.fort_mark_keys.proofs.term_keys.is_kid.Goals as goal

pub returns-in-None : goal.returns-in-None
returns-in-None c = sym (child-past c.args.child.now c.args.kids.now c.args.place c.in-None.ensures.lookup.3)

pub returns-in-Some : goal.returns-in-Some
returns-in-Some c =
    let at = c.in-Some.ensures.lookup.3 in
    c.eq.ensures ∙ (tree_eq-same c.in-Some.kid.now c.args.child.now ∙ child-found c.args.child.now c.args.kids.now c.args.place c.in-Some.kid.now at.0 (at.1 c.in-Some.kid.now))
