use Rattle.std.proofs.Common.{map, vec_items, take, length, sym, arith}
use Rattle.std.proofs.lemmas.List.{length-map}
use Rattle.fort_tight_lists.proofs.PickLaws.{picks_read, number_low}
use Rattle.fort_tight_lists.proofs.picks.Firsts.classes.Goals as goal

pub bounds-of-numbers : goal.bounds-of-numbers
bounds-of-numbers c =
    let lists = c.args.self.now.lists.now in
    number_low (map vec_items lists) c.args.numbers c.of.result.now (length lists) c.loop-place.place (sym (length-map lists vec_items)) (omega arith) c.requires.numbers c.of.ensures

pub returns : goal.returns
returns c =
    let lists = c.args.self.now.lists.now in
    picks_read (map vec_items lists) c.loop-place.classes (take (length lists) c.args.numbers) (length lists) (sym (length-map lists vec_items)) (omega (arith, c.requires.few, c.loop-place.invariant.size))
    (λ j l. c.loop-place.invariant.are j (omega (arith, l, c.loop-place-test.false)))
