use Rattle.std.proofs.Common.{◌++◌, ◌∷◌, map, get_or, decimal, ap, ◌∙◌, arith}
use Rattle.std.proofs.lemmas.List.{take_all}
use Rattle.fort_certificate.specs.Lines.{tails}
use Rattle.fort_certificate.proofs.LineLaws.{tails_more}
use Rattle.fort_certificate.proofs.SmallLaws.{all_small}
use Rattle.fort_certificate.proofs.write.push_numbers.Goals as goal

pub loop-number-preserved : goal.loop-number-preserved
loop-number-preserved c =
    c.in_ok-push_number.ensures.text
    ∙ (ap (λ xs. xs ++ (32 ∷ decimal (get_or c.args.numbers.now c.loop-number.number-index 0))) c.loop-number.invariant
    ∙ tails_more c.args.out.now.items decimal c.args.numbers.now c.loop-number.number-index 0 c.loop-number-test.true)

pub returns-clause-small : goal.returns-clause-small
returns-clause-small c = all_small c.args.numbers.now (λ i. omega (arith, c.type_inv.numbers i))

pub returns-clause-text : goal.returns-clause-text
returns-clause-text c =
    c.loop-number.invariant
    ∙ ap (λ ns. c.args.out.now.items ++ tails (map decimal ns)) (take_all c.loop-number.number-index c.args.numbers.now (omega arith))
