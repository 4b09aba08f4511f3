use Rattle.std.proofs.Common.{◌≡◌, map, string_bytes, sym, ap, subst, ◌∙◌}
use Rattle.std.specs.Prelude.{None, option_map}
use Rattle.fort_words.specs.RequestView.{as_request}
use Rattle.fort_answers.specs.CommandGrammar.{request_of}
use Rattle.fort_answers.specs.Lines.{usage, usage_text}
use Rattle.fort_answers.specs.PossibleRequests.{IsPossible}
use Rattle.fort_answers.proofs.PossibleRequests.{words_possible}
use Rattle.fort_run.specs.Replies.{IsReplyTo}
use Rattle.fort_run.specs.StatusView.{code_of}
use Rattle.fort_run.proofs.Replies.{are, plain_replies}
use Rattle.fort_run.proofs.Told.{told_any}
use Rattle.fort_run.proofs.top.reply_to.Goals as goal

pub reply_to_request-requires : goal.reply_to_request-requires
reply_to_request-requires g c =
    subst IsPossible (sym (rw c.in-Some.is at c.in_ok-request.ensures.grammar)) (words_possible (map string_bytes c.args.words.now))

pub returns-in_ok-line-in-None-clause-ok : goal.returns-in_ok-line-in-None-clause-ok
returns-in_ok-line-in-None-clause-ok g c =
    let reply = c.in_ok-line-in-None.field-0 in
    let made = c.in_ok-line-in-None.ensures in
    let asked : None ≡ request_of (map string_bytes c.args.words.now) = ap (option_map as_request) (sym c.in-None.is) ∙ c.in_ok-request.ensures.grammar in
    told_any (λ bytes. IsReplyTo (request_of (map string_bytes c.args.words.now)) bytes reply) _ (λ bytes.
    subst (λ r. IsReplyTo r bytes reply) asked
    (plain_replies None bytes reply usage usage_text (are usage usage_text) (λ done. tt) (ap code_of made.status) (made.text ∙ c.as_bytes.ensures.value) made.limit))
