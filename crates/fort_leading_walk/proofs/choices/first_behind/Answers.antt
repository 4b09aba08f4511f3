use Rattle.std.proofs.Common.{◌<◌, length, sym, ◌∙◌, arith}
use Rattle.fort_leading_walk.proofs.ChoiceLaws.{room_before, are_here, IsTried, first_from, none_from_last}
use Rattle.fort_leading_walk.proofs.choices.first_behind.Goals as goal

pub with_first-requires : goal.with_first-requires
with_first-requires g c = room_before (g.L.LeaderLists.lists c.args.lists.now) c.args.place c.first_rest-rest.result.indices c.requires.within c.requires.lists.few c.first_rest-rest.ensures.within

pub returns-then-may_come : goal.returns-then-may_come
returns-then-may_come g c =
    let lists = g.L.LeaderLists.lists c.args.lists.now in
    let qs = c.leaders-leaders.result.now in
    let here = c.has_newest_with-has_newest_here.result in
    let low : c.args.from < length qs = omega (arith, c.if-from-leaders.false) in
    let tried : IsTried c.args.newest c.args.until c.args.place c.args.from qs c.args.has_newest c.first_tried-index.result here = record {
      may = c.may_come-may_come_later.result;
      may_come = c.may_come-may_come_later.ensures;
      index_is = c.first_tried-index.ensures;
      here_is = c.has_newest_with-has_newest_here.ensures;
    } in
    rw (c.with_first.ensures.indices, c.with_first.ensures.leaders)
    (first_from c.args.newest lists c.args.until c.args.place c.args.from qs c.args.has_newest c.first_tried-index.result here c.first_rest-rest.result.indices c.first_rest-rest.result.leaders
    (are_here c.args.newest lists c.args.until c.args.place qs c.requires.lists c.requires.within c.leaders-leaders.ensures) low tried c.first_rest-rest.ensures)

pub returns-else-may_come : goal.returns-else-may_come
returns-else-may_come g c =
    let lists = g.L.LeaderLists.lists c.args.lists.now in
    let qs = c.leaders-leaders.result.now in
    let here = c.has_newest_with-has_newest_here.result in
    let low : c.args.from < length qs = omega (arith, c.if-from-leaders.false) in
    let tried : IsTried c.args.newest c.args.until c.args.place c.args.from qs c.args.has_newest c.first_tried-index.result here = record {
      may = c.may_come-may_come_later.result;
      may_come = c.may_come-may_come_later.ensures;
      index_is = c.first_tried-index.ensures;
      here_is = c.has_newest_with-has_newest_here.ensures;
    } in
    none_from_last c.args.newest lists c.args.until c.args.place c.args.from qs c.args.has_newest c.first_tried-index.result here
    (are_here c.args.newest lists c.args.until c.args.place qs c.requires.lists c.requires.within c.leaders-leaders.ensures) low tried (sym c.may_come.ensures ∙ c.if-may_come.false)
