use Rattle.std.proofs.Common.{[], map, length, get_or, ap, sym, ◌∙◌, arith}
use Rattle.std.proofs.lemmas.List.{length-map, get_or-map}
use Rattle.fort_target_lists.specs.ClassLists.{leaders_in}
use Rattle.fort_class_targets.specs.FilledBlocks.{leaders_of}
use Rattle.fort_class_targets.proofs.FillLaws.{counts_read}
use Rattle.fort_class_targets.proofs.place_leaders.PlaceLeaders.counts.Goals as goal

pub overflow_cast-counts : goal.overflow_cast-counts
overflow_cast-counts c =
    let own = c.args.self.now in
    let place = c.loop-place.place in
    let at = get_or-map (λ n. get_or (map leaders_in own.views.now) n []) own.numbers.now place 0 [] (omega arith) in
    omega (arith, ap length (c.leaders.ensures ∙ at), c.requires.leaders (get_or own.numbers.now place 0))

pub returns : goal.returns
returns c =
    let own = c.args.self.now in
    counts_read (leaders_of own.views.now own.numbers.now) c.loop-place.counts (length own.numbers.now) (sym (length-map own.numbers.now (λ n. get_or (map leaders_in own.views.now) n []))) (omega (arith, c.requires.few, c.loop-place.invariant.size))
    (λ j l. c.loop-place.invariant.are j (omega (arith, l, c.loop-place-test.false)))
