use Rattle.std.proofs.Common.{◌≡◌, ◌≤◌, length, sym, ◌∙◌, arith}
use Rattle.std.proofs.lemmas.List.{length-take-le}
use Rattle.fort_target_lists.proofs.ClassListLaws.{count_listed, number_low, entry_classed, entry_classes, entry_target}
use Rattle.fort_target_lists.proofs.class_list.ClassList.target.Goals as goal

pub kid_classes-classes-requires-clause-few : goal.kid_classes-classes-requires-clause-few
kid_classes-classes-requires-clause-few c =
    let r = c.requires in
    omega (arith, count_listed r.0 c.args.self.now r.2 r.1 r.4.symbol c.args.number r.3, r.4.count, c.len-blocks.ensures.places c.args.number)

pub kid_classes-classes-requires-clause-classed : goal.kid_classes-classes-requires-clause-classed
kid_classes-classes-requires-clause-classed c =
    let r = c.requires in
    entry_classed r.0 c.args.self.now r.2 r.1 c.args.kids.now c.args.number r.3 r.4

pub slice_bounds-classes-end : goal.slice_bounds-classes-end
slice_bounds-classes-end c =
    let r = c.requires in
    let room : length c.kid_classes-classes.result ≡ 8 = omega arith in
    omega (arith, room, count_listed r.0 c.args.self.now r.2 r.1 r.4.symbol c.args.number r.3, r.4.count, c.len-blocks.ensures.places c.args.number)

pub slice_bounds-target-end : goal.slice_bounds-target-end
slice_bounds-target-end c =
    let r = c.requires in
    let room : length c.kid_classes-classes.result ≡ 8 = omega arith in
    sym (length-take-le (length c.args.kids.now) c.kid_classes-classes.result (omega (arith, room, count_listed r.0 c.args.self.now r.2 r.1 r.4.symbol c.args.number r.3, r.4.count, c.len-blocks.ensures.places c.args.number)))

pub target-requires-clause-block : goal.target-requires-clause-block
target-requires-clause-block c =
    let r = c.requires in
    omega (arith, number_low r.0 c.args.self.now r.2 r.1 r.4.symbol c.args.number r.3, r.2.blocks_all)

pub target-requires-clause-classes : goal.target-requires-clause-classes
target-requires-clause-classes c =
    let r = c.requires in
    let room : length c.kid_classes-classes.result ≡ 8 = omega arith in
    let few : length c.args.kids.now ≤ length c.kid_classes-classes.result = omega (arith, room, count_listed r.0 c.args.self.now r.2 r.1 r.4.symbol c.args.number r.3, r.4.count, c.len-blocks.ensures.places c.args.number) in
    entry_classes r.0 c.args.self.now r.2 r.1 c.args.kids.now c.args.number r.3 r.4 c.kid_classes-classes.result few c.kid_classes-classes.ensures

pub returns : goal.returns
returns c = λ body f is at whole.
    let room : length c.kid_classes-classes.result ≡ 8 = omega arith in
    let few : length c.args.kids.now ≤ length c.kid_classes-classes.result = omega (arith, room, count_listed body c.args.self.now is f whole.symbol c.args.number at, whole.count, c.len-blocks.ensures.places c.args.number) in
    c.target.ensures ∙ entry_target body c.args.self.now is f c.args.kids.now c.args.number at whole c.kid_classes-classes.result few c.kid_classes-classes.ensures
