use Rattle.std.proofs.Common.{arith}
use Rattle.std.proofs.lemmas.List.Elements.{Contains-get_or}
use Rattle.fort_transducers.proofs.beside.shifted.Goals as goal

pub overflow_add-state : goal.overflow_add-state
overflow_add-state c =
    let fits = c.requires _ (Contains-get_or c.args.states.now c.loop-state.state-index 0 c.loop-state-test.true) in
    omega (arith, fits)
