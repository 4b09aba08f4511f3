use Rattle.std.proofs.Common.{drop, subst}
use Rattle.fort_leading_walk.specs.Choices.{AreIn}
use Rattle.fort_leading_walk.proofs.ChoiceLaws.{room_before, stands_at, none_after_none}
use Rattle.fort_leading_walk.proofs.choices.+next_from.Goals as goal

pub with_first-requires : goal.with_first-requires
with_first-requires g t c =
    let lists = g.L.LeaderLists.lists c.args.lists.now in
    let stands = stands_at lists c.args.place c.in-Some.index.now c.in-Some.later.now (subst (AreIn (drop c.args.place lists)) c.in-Some.ensures.cases.0 c.requires.within) in
    room_before lists c.args.place c.in-Some-next_from.rest.indices stands.low c.requires.lists.few c.in-Some-next_from.ensures.within

pub returns-in-None : goal.returns-in-None
returns-in-None g t c = none_after_none c.args.newest (drop c.args.place (g.L.LeaderLists.lists c.args.lists.now)) c.args.has_newest c.args.indices.now c.in-None.ensures.cases
