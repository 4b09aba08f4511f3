use Rattle.std.proofs.Common.{false, refl, arith}
use Rattle.fort_leading_walk.proofs.ChoiceLaws.{none_at, none_at_all, comes_at_all}
use Rattle.fort_leading_walk.proofs.choices.first.Goals as goal

pub returns-then-not-has_each : goal.returns-then-not-has_each
returns-then-not-has_each g c =
    let lists = g.L.LeaderLists.lists c.args.lists.now in
    let none = c.if-not-has_each.ensures.none refl in
    none_at c.args.newest lists none.0 none.1 none.2 false

pub returns-then-until-eq0 : goal.returns-then-until-eq0
returns-then-until-eq0 g c = none_at_all c.args.newest (g.L.LeaderLists.lists c.args.lists.now) c.places_until-until.result c.places_until-until.ensures (omega (arith, c.if-until-eq0.true))

pub first_rest-picks-requires-clause-may_come : goal.first_rest-picks-requires-clause-may_come
first_rest-picks-requires-clause-may_come g c = comes_at_all c.args.newest (g.L.LeaderLists.lists c.args.lists.now) c.places_until-until.result c.places_until-until.ensures (omega (arith, c.if-until-eq0.false))
