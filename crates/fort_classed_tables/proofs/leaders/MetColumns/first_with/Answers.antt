use Rattle.std.proofs.Common.{◌<◌, length, refl, ◌∙◌, arith}
use Rattle.std.proofs.lemmas.List.{get_or_default}
use Rattle.fort_classed_tables.specs.ColumnLeaders.{Met}
use Rattle.fort_classed_tables.proofs.leaders.MetColumns.first_with.Goals as goal

pub returns-in-Some : goal.returns-in-Some
returns-in-Some c =
    let k = c.in-Some.number in
    let firsts = c.args.self.now.firsts.items in
    let low : k < length firsts = omega (arith, c.in-Some.ensures.0, c.requires.one) in
    Met k low (c.in-Some.ensures.1 ∙ c.as_slice.ensures.value) (c.index.ensures ∙ get_or_default firsts k c.index.result.now 0 low) refl refl
