use Rattle.fort_relation_exprs.proofs.CompiledWithinLaws.{composition-within}
use Rattle.fort_relation_exprs.proofs.compiling_two.compiled_composition.Goals as goal

pub returns : goal.returns
returns c system a b is also =
    let made = c.in_ok-both.ensures in
    composition-within system a b c.args.first.now c.args.second.now c.in_ok-both.both is also made.named made.left made.right made.sizes made.composition
