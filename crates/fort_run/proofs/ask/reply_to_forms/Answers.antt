use Rattle.std.proofs.Common.{length, refl, sym, ◌∙◌, subst}
use Rattle.std.specs.Prelude.{Some}
use Rattle.std.proofs.lemmas.Result.{IfOk-weaker}
use Rattle.fort_formulas.specs.FormulaView.{as_formula}
use Rattle.fort_answers.specs.InputAnswer.{IsInputRefused}
use Rattle.fort_answers.specs.FitAnswer.{IsUnfit}
use Rattle.fort_answers.proofs.FewPatterns.{AreFewRules-with}
use Rattle.fort_questions.specs.Inputs.{IsReadFrom}
use Rattle.fort_run.specs.Posed.{Settles}
use Rattle.fort_questions.specs.Questions.{openness_of, tail_of, request_for}
use Rattle.fort_run.specs.Ready.{IsReady}
use Rattle.fort_questions.specs.Refusals.{Refuses}
use Rattle.fort_questions.proofs.Fitting.{number_is}
use Rattle.fort_questions.proofs.PlainFormats.{single_index}
use Rattle.fort_run.proofs.LinearRules.{IsInputWith-lawful}
use Rattle.fort_run.proofs.Readiness.{ready}
use Rattle.fort_run.proofs.Replies.{input_refused, unfit, told_refusal, verdict_replies}
use Rattle.fort_run.proofs.ask.reply_to_forms.Goals as goal

pub returns-in-Err : goal.returns-in-Err
returns-in-Err c =
    IfOk-weaker c.refused_reply.result _ _ (λ r tells. λ text is.
    let question = c.args.question in
    let bytes = c.args.forms.now.bytes in
    let refusal = c.in-Err.refusal in
    told_refusal (Some (request_for question text)) bytes (IsInputRefused (tail_of question) bytes) refusal r
    (input_refused question text (as_formula c.args.parsed.now.formula) is.accepted bytes)
    (subst (λ t. Refuses (IsInputRefused t bytes) refusal) c.tail.ensures c.in-Err.ensures.refused) tells)
    c.refused_reply.ensures

pub returns : goal.returns
returns c =
    IfOk-weaker c.refused_reply-in-Err-terms_of.result _ _ (λ r tells. λ text is.
    let question = c.args.question in
    let bytes = c.args.forms.now.bytes in
    let f = as_formula c.args.parsed.now.formula in
    let read = subst (λ t. IsReadFrom t bytes c.in-Ok.input) c.tail.ensures c.in-Ok.ensures.ok in
    told_refusal (Some (request_for question text)) bytes (IsUnfit text f read.system) c.in-Err-terms_of.refusal r
    (λ line. unfit question text f is.accepted bytes line read.system read.behind read.is)
    (c.in-Err-terms_of.ensures.refused text read.system is.grounds read.input_is.same) tells)
    c.refused_reply-in-Err-terms_of.ensures

pub verdict-requires-clause-ready : goal.verdict-requires-clause-ready
verdict-requires-clause-ready c =
    let bytes = c.args.forms.now.bytes in
    let read = subst (λ t. IsReadFrom t bytes c.in-Ok.input) c.tail.ensures c.in-Ok.ensures.ok in
    let fits = c.in-Ok-terms_of.ensures.ok c.requires.read.text read.system c.requires.read.is.grounds read.input_is.same in
    subst (IsReady (as_formula c.args.parsed.now.formula) c.in-Ok.input.system) (sym c.deref.ensures.value)
    (ready (openness_of c.args.question) c.args.parsed.now c.requires.read read.system c.in-Ok.input.system c.in-Ok-terms_of.terms.items read.input_is.same fits
    (AreFewRules-with (tail_of c.args.question) bytes read.system read.behind read.is))

pub verdict-requires-clause-taken : goal.verdict-requires-clause-taken
verdict-requires-clause-taken c = c.requires.read.is.accepted.taken

pub verdict-requires-clause-behind : goal.verdict-requires-clause-behind
verdict-requires-clause-behind c =
    let read = subst (λ t. IsReadFrom t c.args.forms.now.bytes c.in-Ok.input) c.tail.ensures c.in-Ok.ensures.ok in
    (read.behind, read.input_is.behind_is)

pub returns-in-Ok-terms_of : goal.returns-in-Ok-terms_of
returns-in-Ok-terms_of c =
    IfOk-weaker c.verdict.result _ _ (λ r settles. λ text is.
    let question = c.args.question in
    let bytes = c.args.forms.now.bytes in
    let f = as_formula c.args.parsed.now.formula in
    let read = subst (λ t. IsReadFrom t bytes c.in-Ok.input) c.tail.ensures c.in-Ok.ensures.ok in
    let terms = c.in-Ok-terms_of.terms.items in
    let fits = c.in-Ok-terms_of.ensures.ok text read.system is.grounds read.input_is.same in
    let there = subst (λ ts. Settles question c.in-Ok.input ts f r) c.deref.ensures.value settles in
    verdict_replies question text bytes f read.system read.behind terms r is.accepted read.is fits
    (there read.system read.behind (IsInputWith-lawful (tail_of question) bytes read.system read.behind read.is) read.input_is))
    c.verdict.ensures

pub verdict-requires-clause-single : goal.verdict-requires-clause-single
verdict-requires-clause-single c = λ none.
    let bytes = c.args.forms.now.bytes in
    let read = subst (λ t. IsReadFrom t bytes c.in-Ok.input) c.tail.ensures c.in-Ok.ensures.ok in
    number_is (length c.in-Ok.input.system.rules) c.in-Ok.input.system read.system refl read.input_is.same
    ∙ single_index (tail_of c.args.question) bytes read.system read.behind read.is none
