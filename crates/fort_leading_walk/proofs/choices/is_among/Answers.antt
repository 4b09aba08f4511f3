use Rattle.std.proofs.Common.{arith, length, sym, ◌∙◌}
use Rattle.std.proofs.lemmas.Bool.{eqb-false}
use Rattle.fort_leading_walk.proofs.NewestLaws.{last_among}
use Rattle.fort_leading_walk.proofs.choices.is_among.Goals as goal

pub returns : goal.returns
returns c =
    let some = eqb-false (length c.args.leaders.now) 0 (sym c.is_empty.ensures ∙ c.if-is_empty.false) in
    last_among c.args.newest c.args.leaders.now c.requires (omega (arith, some))
