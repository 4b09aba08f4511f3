use Rattle.std.proofs.Common.{inl, inr}
use Rattle.std.proofs.lemmas.Result.{err_from_is_err_and}
use Rattle.fort_sexpr.proofs.Fronts.{byte_brings}
use Rattle.fort_sexpr.proofs.Tallies.{over_comment, over_plain, over_mark, over_open, over_close, over_fault}
use Rattle.fort_sexpr.proofs.ahead.past.Goals as goal

pub returns-then-tally-clause-tally : goal.returns-then-tally-clause-tally
returns-then-tally-clause-tally c = λ text here tally. over_comment text c.args.at c.args.byte here c.args.tally tally c.if-tally.true

pub returns-in_err-token_of-clause-fault : goal.returns-in_err-token_of-clause-fault
returns-in_err-token_of-clause-fault c = λ text here tally.
    let p = err_from_is_err_and c.from_residual.result c.from_residual.ensures.1 in
    rw (p.1, p.2)
    (over_fault text c.args.at c.args.byte here c.args.tally tally c.if-tally.false c.in_err-token_of.field-0.0 c.in_err-token_of.ensures.fault)

pub returns-in_err-token_of-clause-byte : goal.returns-in_err-token_of-clause-byte
returns-in_err-token_of-clause-byte c =
    let p = err_from_is_err_and c.from_residual.result c.from_residual.ensures.1 in
    rw (p.1, p.2) (byte_brings c.args.byte c.args.at c.args.tally.height c.in_err-token_of.field-0.0 c.in_err-token_of.ensures.fault)

pub returns-in-Blank-clause-tally : goal.returns-in-Blank-clause-tally
returns-in-Blank-clause-tally c = λ text here tally.
    over_plain text c.args.at c.args.byte here c.args.tally tally c.if-tally.false
    (elim c.in-Blank.is [
      | inl e ↦ inl (rw e at c.in_ok-token_of.ensures.token)
      | inr e ↦ inr (rw e at c.in_ok-token_of.ensures.token)
    ])

pub returns-in-Comment-clause-tally : goal.returns-in-Comment-clause-tally
returns-in-Comment-clause-tally c = λ text here tally.
    over_mark text c.args.at c.args.byte here c.args.tally tally c.if-tally.false (rw c.in-Comment.is at c.in_ok-token_of.ensures.token)

pub returns-in-Open-clause-tally : goal.returns-in-Open-clause-tally
returns-in-Open-clause-tally c = λ text here tally.
    let begun = rw c.in-Open.is at c.in_ok-token_of.ensures.token in
    over_open text c.args.at c.args.byte here c.args.tally tally c.if-tally.false begun.0 begun.1

pub returns-in-Close-clause-tally : goal.returns-in-Close-clause-tally
returns-in-Close-clause-tally c = λ text here tally.
    let begun = rw c.in-Close.is at c.in_ok-token_of.ensures.token in
    over_close text c.args.at c.args.byte here c.args.tally tally c.if-tally.false begun.0 begun.1
