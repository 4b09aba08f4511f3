use Rattle.std.proofs.Common.{◌≡◌, true, false, sym, subst}
use Rattle.std.specs.Prelude.{Some}
use Rattle.std.proofs.lemmas.Result.{on_ok_weaker}
use Rattle.fort_words.specs.RequestView.{as_options, as_bounds, as_family, as_request}
use Rattle.fort_answers.specs.Requests.{Witness, Check, Sample, Solutions, Confirm, Synth}
use Rattle.fort_answers.specs.Answer.{needed}
use Rattle.fort_run.specs.Replies.{IsReplyTo}
use Rattle.fort_run.proofs.Replies.{no_limit}
use Rattle.fort_run.proofs.Told.{told_any}
use Rattle.fort_run.proofs.top.reply_to_request.Goals as goal

pub returns-in-Decide-default-false-default-clause-whole : goal.returns-in-Decide-default-false-default-clause-whole
returns-in-Decide-default-false-default-clause-whole g c =
    on_ok_weaker c.ask-in-Decide-default-false-default.result (λ whole is_needed.
    let there = subst (λ r. needed (Some (as_request r))) c.in-Decide-default-false-default.is is_needed in
    whole (there.0, rw c.in-Decide-default-false-default.formula-is there.1))
    c.ask-in-Decide-default-false-default.ensures.whole

pub returns-in-Decide-default-true-default-clause-whole : goal.returns-in-Decide-default-true-default-clause-whole
returns-in-Decide-default-true-default-clause-whole g c =
    on_ok_weaker c.ask.result (λ whole is_needed.
    let there = subst (λ r. needed (Some (as_request r))) c.in-Decide-default-true-default.is is_needed in
    whole (there.0, rw c.in-Decide-default-true-default.formula-is there.1))
    c.ask.ensures.whole

pub returns-in-Witness-default-false-default-clause-whole : goal.returns-in-Witness-default-false-default-clause-whole
returns-in-Witness-default-false-default-clause-whole g c =
    on_ok_weaker c.ask-in-Witness-default-false-default.result (λ whole is_needed.
    let e : as_request c.args.request.now ≡ Witness (as_options c.in-Witness-default-false-default.options) false c.in-Witness-default-false-default.formula.now = cc in
    let there = subst (λ r. needed (Some r)) e is_needed in
    whole (there.0, rw c.in-Witness-default-false-default.formula-is there.1))
    c.ask-in-Witness-default-false-default.ensures.whole

pub returns-in-Witness-default-true-default-clause-whole : goal.returns-in-Witness-default-true-default-clause-whole
returns-in-Witness-default-true-default-clause-whole g c =
    on_ok_weaker c.ask-in-Witness-default-true-default.result (λ whole is_needed.
    let e : as_request c.args.request.now ≡ Witness (as_options c.in-Witness-default-true-default.options) true c.in-Witness-default-true-default.formula.now = cc in
    let there = subst (λ r. needed (Some r)) e is_needed in
    whole (there.0, rw c.in-Witness-default-true-default.formula-is there.1))
    c.ask-in-Witness-default-true-default.ensures.whole

pub returns-in-Check-clause-whole : goal.returns-in-Check-clause-whole
returns-in-Check-clause-whole g c =
    on_ok_weaker c.ask-in-Check.result (λ whole is_needed.
    let e : as_request c.args.request.now ≡ Check c.in-Check.formula.now = cc in
    whole (subst (λ r. needed (Some r)) e is_needed))
    c.ask-in-Check.ensures.whole

pub returns-in_ok-sample-in-Sample-clause-ok : goal.returns-in_ok-sample-in-Sample-clause-ok
returns-in_ok-sample-in-Sample-clause-ok g c =
    let reply = c.in_ok-sample-in-Sample.field-0 in
    let e : as_request c.args.request.now ≡ Sample c.in-Sample.n = cc in
    told_any (λ bytes. IsReplyTo (Some (as_request c.args.request.now)) bytes reply) _ (λ bytes.
    subst (λ r. IsReplyTo (Some r) bytes reply) (sym e)
    (record { is_owed = c.in_ok-sample-in-Sample.ensures.answer; says = λ done. tt; limit = no_limit (Some (Sample c.in-Sample.n)) bytes reply c.in_ok-sample-in-Sample.ensures.limit }))

pub returns-in-Solutions-clause-whole : goal.returns-in-Solutions-clause-whole
returns-in-Solutions-clause-whole g c =
    on_ok_weaker c.ask-in-Solutions.result (λ whole is_needed.
    let e : as_request c.args.request.now ≡ Solutions (as_options c.in-Solutions.options) (as_bounds c.in-Solutions.bounds) c.in-Solutions.formula.now = cc in
    whole (subst (λ r. needed (Some r)) e is_needed))
    c.ask-in-Solutions.ensures.whole

pub returns-in-Confirm-clause-whole : goal.returns-in-Confirm-clause-whole
returns-in-Confirm-clause-whole g c =
    on_ok_weaker c.ask-in-Confirm.result (λ whole is_needed.
    let e : as_request c.args.request.now ≡ Confirm c.in-Confirm.formula.now = cc in
    whole (subst (λ r. needed (Some r)) e is_needed))
    c.ask-in-Confirm.ensures.whole

pub returns-in-Synth-clause-whole : goal.returns-in-Synth-clause-whole
returns-in-Synth-clause-whole g c =
    on_ok_weaker c.ask-in-Synth.result (λ whole is_needed.
    let e : as_request c.args.request.now ≡ Synth (as_options c.in-Synth.options) (as_family c.in-Synth.family) c.in-Synth.formula.now = cc in
    whole (subst (λ r. needed (Some r)) e is_needed))
    c.ask-in-Synth.ensures.whole
