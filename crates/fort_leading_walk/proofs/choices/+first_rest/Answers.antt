use Rattle.std.proofs.Common.{◌<◌, length, arith}
use Rattle.fort_leading_walk.proofs.ChoiceLaws.{room_before, are_here, IsTried, first_of_rest, comes_later}
use Rattle.fort_leading_walk.proofs.choices.+first_rest.Goals as goal

pub first_rest-rest-requires : goal.first_rest-rest-requires
first_rest-rest-requires g t c κs within =
    let lists = g.L.LeaderLists.lists c.args.lists.now in
    let low : c.args.place < length lists = omega (arith, c.requires.within, c.places.ensures.count, c.if-place-places.false) in
    let qs = c.leaders-leaders.result.now in
    let here = c.has_newest_with-has_newest_here.result in
    let tried : IsTried c.args.newest c.args.until c.args.place 0 qs c.args.has_newest c.first_tried-index.result here = record {
      may = c.may_come-may_come_later.result;
      may_come = c.may_come-may_come_later.ensures;
      index_is = c.first_tried-index.ensures;
      here_is = c.has_newest_with-has_newest_here.ensures;
    } in (
      omega (arith, c.decreases, low),
      (
        within,
        (
          c.requires.lists,
          (
            omega (arith, low),
            comes_later c.args.newest lists c.args.until c.args.place qs c.args.has_newest c.first_tried-index.result here (are_here c.args.newest lists c.args.until c.args.place qs c.requires.lists low c.leaders-leaders.ensures) tried c.requires.may_come,
          ),
        ),
      ),
    )

pub with_first-requires : goal.with_first-requires
with_first-requires g t c =
    let lists = g.L.LeaderLists.lists c.args.lists.now in
    let low : c.args.place < length lists = omega (arith, c.requires.within, c.places.ensures.count, c.if-place-places.false) in
    room_before lists c.args.place c.first_rest-rest.result.indices low c.requires.lists.few c.first_rest-rest.ensures.within

pub returns : goal.returns
returns g t c =
    let lists = g.L.LeaderLists.lists c.args.lists.now in
    let low : c.args.place < length lists = omega (arith, c.requires.within, c.places.ensures.count, c.if-place-places.false) in
    let qs = c.leaders-leaders.result.now in
    let here = c.has_newest_with-has_newest_here.result in
    let tried : IsTried c.args.newest c.args.until c.args.place 0 qs c.args.has_newest c.first_tried-index.result here = record {
      may = c.may_come-may_come_later.result;
      may_come = c.may_come-may_come_later.ensures;
      index_is = c.first_tried-index.ensures;
      here_is = c.has_newest_with-has_newest_here.ensures;
    } in
    rw (c.with_first.ensures.indices, c.with_first.ensures.leaders)
    (first_of_rest c.args.newest lists c.args.until c.args.place qs c.args.has_newest c.first_tried-index.result here c.first_rest-rest.result.indices c.first_rest-rest.result.leaders
    (are_here c.args.newest lists c.args.until c.args.place qs c.requires.lists low c.leaders-leaders.ensures) tried c.first_rest-rest.ensures)
