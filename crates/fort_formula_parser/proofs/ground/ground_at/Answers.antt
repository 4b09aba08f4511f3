use Rattle.std.proofs.Common.{refl, arith}
use Rattle.fort_formula_parser.proofs.GroundTexts.{IsSpottedAt-run, BeginsWithNoToken-behind}
use Rattle.fort_formula_parser.proofs.PlacesLaws.{drop-slice}
use Rattle.fort_formula_parser.proofs.ground.ground_at.Goals as goal
use Rattle.fort_formula_parser.proofs.ground.ground_at.Goals.{then-len-inside-via-then-len-inside, then-len-inside-via-else-len-inside+then-inside-len-ne125, then-len-inside-via-else-len-inside+else-inside-len-ne125+then-len-gt-LONGEST}

pub returns-then-len-inside-clause-none : goal.returns-then-len-inside-clause-none
returns-then-len-inside-clause-none c =
    BeginsWithNoToken-behind c.args.text.now _ _ c.requires (drop-slice c.args.text.now 1) c.run_length-len.ensures
    (λ lt closes short. elim c.then-len-inside.branch [
      | then-len-inside-via-then-len-inside w ↦ omega (arith, lt, w.if-len-inside.true)
      | then-len-inside-via-else-len-inside+then-inside-len-ne125 w ↦ w.if-inside-len-ne125.true closes
      | then-len-inside-via-else-len-inside+else-inside-len-ne125+then-len-gt-LONGEST w ↦ omega (arith, short, w.if-len-gt-LONGEST.true)
    ])

pub returns-clause-some : goal.returns-clause-some
returns-clause-some c =
    IsSpottedAt-run c.args.place c.args.text.now _ _ _ c.requires (drop-slice c.args.text.now 1) c.run_length-len.ensures
    (omega (arith, c.run_length-len.ensures.within, c.if-len-inside.false)) c.if-inside-len-ne125.false (omega (arith, c.if-len-gt-LONGEST.false)) refl refl
