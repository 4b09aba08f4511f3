use Rattle.fort_relation_exprs.proofs.CompiledWithinLaws.{union-within}
use Rattle.fort_relation_exprs.proofs.compiling_two.compiled_union.Goals as goal

pub returns : goal.returns
returns c system a b is also =
    let made = c.in_ok-both.ensures in
    union-within system a b c.args.first.now c.args.second.now c.in_ok-both.both is also made.named made.left made.right made.sizes made.lefts made.rights made.related
