use Rattle.std.proofs.Common.{arith}
use Rattle.std.proofs.lemmas.List.Elements.{Contains-get_or}
use Rattle.fort_transducers.proofs.beside.push_pairs.Goals as goal

pub overflow_add-pair : goal.overflow_add-pair
overflow_add-pair c =
    let fits = c.requires _ _ (Contains-get_or c.args.pairs.now c.loop-pair.pair-index (0, 0) c.loop-pair-test.true) in
    omega (arith, fits.0)

pub overflow_add-pair-in-loop-pair : goal.overflow_add-pair-in-loop-pair
overflow_add-pair-in-loop-pair c =
    let fits = c.requires _ _ (Contains-get_or c.args.pairs.now c.loop-pair.pair-index (0, 0) c.loop-pair-test.true) in
    omega (arith, fits.1)
