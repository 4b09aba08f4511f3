use Rattle.std.proofs.Common.{◌<◌, ℕ, [], map, length, take, get_or, ap, sym, arith}
use Rattle.std.proofs.lemmas.List.{length-map, get_or-map, get_or-take}
use Rattle.fort_target_lists.specs.ClassLists.{leaders_in}
use Rattle.fort_class_targets.specs.FilledBlocks.{leaders_of}
use Rattle.fort_class_blocks.proofs.CombinationLaws.{class_low}
use Rattle.fort_class_targets.proofs.FillLaws.{over_read, places_count}
use Rattle.fort_class_targets.proofs.place_leaders.PlaceLeaders.over.Goals as goal

pub bounds-leaders-classes : goal.bounds-leaders-classes
bounds-leaders-classes c =
    let own = c.args.self.now in
    let place = c.loop-place.place in
    let lss = leaders_of own.views.now own.numbers.now in
    let n = length own.numbers.now in
    let there : place < n = omega arith in
    let low = class_low (map (length {A = ℕ}) lss) (take n c.args.classes) place c.requires.classes (omega (arith, places_count own.views.now own.numbers.now, there)) in
    let count = get_or-map (length {A = ℕ}) lss place [] 0 (omega (arith, there, length-map own.numbers.now (λ n. get_or (map leaders_in own.views.now) n []))) in
    omega (arith, low, count, ap length c.leaders.ensures, get_or-take n c.args.classes place 0 there)

pub returns : goal.returns
returns c =
    let own = c.args.self.now in
    over_read (leaders_of own.views.now own.numbers.now) c.loop-place.kids (take (length own.numbers.now) c.args.classes) (length own.numbers.now) (sym (length-map own.numbers.now (λ n. get_or (map leaders_in own.views.now) n []))) (omega (arith, c.requires.places.few, c.loop-place.invariant.size))
    (λ j l. c.loop-place.invariant.are j (omega (arith, l, c.loop-place-test.false)))
