use Rattle.fort_sexpr.specs.FormView.{word_ahead}
use Rattle.fort_certificate.proofs.NumberWords.{word_has_value}
use Rattle.fort_certificate.proofs.word.number_ahead.Goals as goal

pub returns-in_err-digits_ahead-clause-none : goal.returns-in_err-digits_ahead-clause-none
returns-in_err-digits_ahead-clause-none c =
    rw c.from_residual.ensures
    (λ n is. c.in_err-digits_ahead.ensures.none (word_has_value (word_ahead c.args.bytes.now) n is))
