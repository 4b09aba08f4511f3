use Rattle.std.proofs.Common.{arith}
use Rattle.fort_ari.proofs.Words.{IsNumber-at, length-IsNumber, low_from_IsNumber, high_from_IsNumber}
use Rattle.fort_ari.proofs.word.parse_number.Goals as goal
use Rattle.fort_ari.proofs.word.parse_number.Goals.{then-digit-lt49-via-then-digit-lt49, then-digit-lt49-via-else-digit-lt49+then-digit-gt57}

pub returns-in_default-clause-none : goal.returns-in_default-clause-none
returns-in_default-clause-none c = λ n h. let one = length-IsNumber c.args.word.now n h in absurd (omega arith)

pub returns-in_default-2-clause-none : goal.returns-in_default-2-clause-none
returns-in_default-2-clause-none c = λ n h. let one = length-IsNumber c.args.word.now n h in absurd (omega arith)

pub returns-then-digit-lt49-clause-none : goal.returns-then-digit-lt49-clause-none
returns-then-digit-lt49-clause-none c = λ n h.
    let low = low_from_IsNumber c.args.word.now n h in
    let high = high_from_IsNumber c.args.word.now n h in
    elim c.then-digit-lt49.branch [
      | then-digit-lt49-via-then-digit-lt49 w ↦ absurd (omega arith)
      | then-digit-lt49-via-else-digit-lt49+then-digit-gt57 w ↦ absurd (omega arith)
    ]

pub returns-clause-some : goal.returns-clause-some
returns-clause-some c = IsNumber-at c.args.word.now (omega arith) (omega arith) (omega arith)
