use Rattle.std.proofs.Common.{◌<◌, length, sym, ◌∙◌, arith, true≢false}
use Rattle.std.proofs.lemmas.Bool.Decides.{nat_tests}
use Rattle.fort_tree_automata.proofs.PlaceLaws.{any-there, any-absent}
use Rattle.fort_tree_automata.proofs.of_patterns.any_place.Goals as goal

pub returns-then-is_any : goal.returns-then-is_any
returns-then-is_any c =
    let some : 0 < length c.args.patterns.now = grind (arith, nat_tests, c.is_empty.ensures, c.if-is_empty.false) in
    any-there c.args.patterns.now c.index-patterns-0.result c.requires some c.index-patterns-0.is (c.is_any.ensures.0 c.if-is_any.true)

pub returns-else-is_any : goal.returns-else-is_any
returns-else-is_any c =
    let some : 0 < length c.args.patterns.now = grind (arith, nat_tests, c.is_empty.ensures, c.if-is_empty.false) in
    any-absent c.args.patterns.now c.index-patterns-0.result c.requires some c.index-patterns-0.is
    (λ is. true≢false (sym (c.is_any.ensures.1 is) ∙ c.if-is_any.false))
