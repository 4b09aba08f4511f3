use Rattle.std.proofs.Common.{◌≡◌, ◌≤◌, length, sym, arith}
use Rattle.std.proofs.lemmas.List.{length-take-le}
use Rattle.fort_target_lists.proofs.ClassListLaws.{count_listed, number_low, kid_classed, classes_read}
use Rattle.fort_target_lists.proofs.ClassRowLaws.{first_few, first_classes, row_is}
use Rattle.fort_target_lists.proofs.class_list.ClassList.row.Goals as goal

pub kid_classes-classes-requires-clause-few : goal.kid_classes-classes-requires-clause-few
kid_classes-classes-requires-clause-few c =
    let r = c.requires in
    omega (arith, count_listed r.0 c.args.self.now r.2.list r.1 r.2.symbol c.args.number r.2.number, r.3.count, c.len-blocks.ensures.places c.args.number)

pub kid_classes-classes-requires-clause-classed : goal.kid_classes-classes-requires-clause-classed
kid_classes-classes-requires-clause-classed c =
    let r = c.requires in
    let l = c.args.self.now in
    kid_classed r.0 l r.2.list r.1 r.2.symbol c.args.number r.2.number c.args.kids.now r.3.first (first_few r.0 l r.1 c.args.number r.2 c.args.kids.now r.3)

pub slice_bounds-classes-end : goal.slice_bounds-classes-end
slice_bounds-classes-end c =
    let r = c.requires in
    let room : length c.kid_classes-classes.result ≡ 8 = omega arith in
    omega (arith, room, count_listed r.0 c.args.self.now r.2.list r.1 r.2.symbol c.args.number r.2.number, r.3.count, c.len-blocks.ensures.places c.args.number)

pub slice_bounds-row-end : goal.slice_bounds-row-end
slice_bounds-row-end c =
    let r = c.requires in
    let room : length c.kid_classes-classes.result ≡ 8 = omega arith in
    sym (length-take-le (length c.args.kids.now) c.kid_classes-classes.result (omega (arith, room, count_listed r.0 c.args.self.now r.2.list r.1 r.2.symbol c.args.number r.2.number, r.3.count, c.len-blocks.ensures.places c.args.number)))

pub row-requires-clause-block : goal.row-requires-clause-block
row-requires-clause-block c =
    let r = c.requires in
    omega (arith, number_low r.0 c.args.self.now r.2.list r.1 r.2.symbol c.args.number r.2.number, r.2.list.blocks_all)

pub row-requires-clause-classes : goal.row-requires-clause-classes
row-requires-clause-classes c =
    let r = c.requires in
    let l = c.args.self.now in
    let ks = c.args.kids.now in
    let room : length c.kid_classes-classes.result ≡ 8 = omega arith in
    let few : length ks ≤ length c.kid_classes-classes.result = omega (arith, room, count_listed r.0 l r.2.list r.1 r.2.symbol c.args.number r.2.number, r.3.count, c.len-blocks.ensures.places c.args.number) in
    let read = classes_read r.0 l r.2.list r.1 r.2.symbol c.args.number r.2.number ks r.3.first (first_few r.0 l r.1 c.args.number r.2 ks r.3) c.kid_classes-classes.result few c.kid_classes-classes.ensures in
    first_classes r.0 l r.1 c.args.number r.2 ks r.3 _ read

pub returns : goal.returns
returns c = λ body f at first.
    let l = c.args.self.now in
    let n = c.args.number in
    let ks = c.args.kids.now in
    let room : length c.kid_classes-classes.result ≡ 8 = omega arith in
    let few : length ks ≤ length c.kid_classes-classes.result = omega (arith, room, count_listed body l at.list f at.symbol n at.number, first.count, c.len-blocks.ensures.places n) in
    let read = classes_read body l at.list f at.symbol n at.number ks first.first (first_few body l f n at ks first) c.kid_classes-classes.result few c.kid_classes-classes.ensures in
    row_is body l f n at ks first _ c.row.result.now read c.row.ensures.count c.row.ensures.targets
