use Rattle.std.proofs.Common.{inl, map, string_bytes}
use Rattle.fort_run.proofs.PrintedCertificates.{printed_accepted, printed_terms_accepted}
use Rattle.fort_run.proofs.OneAnswer.{Answers-told, Answers-early, Answers-decided, Answers-kept, Answers-checked, Answers-confirmed, Answers-searched, Answers-searched_within}
use Rattle.fort_run.proofs.SaidClauses.{says_yes, says_no, says_certified, says_terms, says_no_terms, says_confirmed, says_first_terms, says_system, says_no_system}
use Rattle.fort_run.proofs.WrittenReplies.{answers, certifies, prints, confirms, prints_terms, limit_written, cuts_short, limit_shown, status_low, decided_status}
use Rattle.fort_run.proofs.top.run.Goals as goal

-- ---- all of the text was written

pub returns-in-Ok-write_all-clause-answered : goal.returns-in-Ok-write_all-clause-answered
returns-in-Ok-write_all-clause-answered g c = λ low.
    answers (map string_bytes c.args.words.now) (g.S.Source.rest c.args.input.now) (g.K.Sink.taken c.args.output.now) (g.K.Sink.taken c.write_all.new.sink)
    c.in-Ok.reply c.in-Ok.ensures.ok c.of_reply.result.status c.deref.result.now c.of_reply.ensures.status c.deref.ensures.value c.in-Ok-write_all.ensures.all

pub returns-in-Ok-write_all-clause-only : goal.returns-in-Ok-write_all-clause-only
returns-in-Ok-write_all-clause-only g c = λ low.
    Answers-told (map string_bytes c.args.words.now) (g.S.Source.rest c.args.input.now) (g.K.Sink.taken c.args.output.now) (g.K.Sink.taken c.write_all.new.sink)
    c.of_reply.result.status
    (answers (map string_bytes c.args.words.now) (g.S.Source.rest c.args.input.now) (g.K.Sink.taken c.args.output.now) (g.K.Sink.taken c.write_all.new.sink) c.in-Ok.reply c.in-Ok.ensures.ok c.of_reply.result.status c.deref.result.now c.of_reply.ensures.status c.deref.ensures.value c.in-Ok-write_all.ensures.all)

pub returns-in-Ok-write_all-clause-early : goal.returns-in-Ok-write_all-clause-early
returns-in-Ok-write_all-clause-early g c = λ low.
    Answers-early (map string_bytes c.args.words.now) (g.S.Source.rest c.args.input.now) (g.K.Sink.taken c.args.output.now) (g.K.Sink.taken c.write_all.new.sink)
    c.of_reply.result.status
    (answers (map string_bytes c.args.words.now) (g.S.Source.rest c.args.input.now) (g.K.Sink.taken c.args.output.now) (g.K.Sink.taken c.write_all.new.sink) c.in-Ok.reply c.in-Ok.ensures.ok c.of_reply.result.status c.deref.result.now c.of_reply.ensures.status c.deref.ensures.value c.in-Ok-write_all.ensures.all)

pub returns-in-Ok-write_all-clause-decided : goal.returns-in-Ok-write_all-clause-decided
returns-in-Ok-write_all-clause-decided g c = λ read write is.
    decided_status c.of_reply.result.status
    (Answers-decided (map string_bytes c.args.words.now) (g.S.Source.rest c.args.input.now) (g.K.Sink.taken c.args.output.now) (g.K.Sink.taken c.write_all.new.sink)
    c.of_reply.result.status
    (answers (map string_bytes c.args.words.now) (g.S.Source.rest c.args.input.now) (g.K.Sink.taken c.args.output.now) (g.K.Sink.taken c.write_all.new.sink) c.in-Ok.reply c.in-Ok.ensures.ok c.of_reply.result.status c.deref.result.now c.of_reply.ensures.status c.deref.ensures.value c.in-Ok-write_all.ensures.all) is)

pub returns-in-Ok-write_all-clause-kept : goal.returns-in-Ok-write_all-clause-kept
returns-in-Ok-write_all-clause-kept g c = λ read write is.
    inl (Answers-kept (map string_bytes c.args.words.now) (g.S.Source.rest c.args.input.now) (g.K.Sink.taken c.args.output.now) (g.K.Sink.taken c.write_all.new.sink)
    c.of_reply.result.status
    (answers (map string_bytes c.args.words.now) (g.S.Source.rest c.args.input.now) (g.K.Sink.taken c.args.output.now) (g.K.Sink.taken c.write_all.new.sink) c.in-Ok.reply c.in-Ok.ensures.ok c.of_reply.result.status c.deref.result.now c.of_reply.ensures.status c.deref.ensures.value c.in-Ok-write_all.ensures.all) is)

pub returns-in-Ok-write_all-clause-checked : goal.returns-in-Ok-write_all-clause-checked
returns-in-Ok-write_all-clause-checked g c = λ read write is.
    inl (Answers-checked (map string_bytes c.args.words.now) (g.S.Source.rest c.args.input.now) (g.K.Sink.taken c.args.output.now) (g.K.Sink.taken c.write_all.new.sink)
    c.of_reply.result.status
    (answers (map string_bytes c.args.words.now) (g.S.Source.rest c.args.input.now) (g.K.Sink.taken c.args.output.now) (g.K.Sink.taken c.write_all.new.sink) c.in-Ok.reply c.in-Ok.ensures.ok c.of_reply.result.status c.deref.result.now c.of_reply.ensures.status c.deref.ensures.value c.in-Ok-write_all.ensures.all) is)

pub returns-in-Ok-write_all-clause-confirmable : goal.returns-in-Ok-write_all-clause-confirmable
returns-in-Ok-write_all-clause-confirmable g c = λ read write is.
    inl (Answers-confirmed (map string_bytes c.args.words.now) (g.S.Source.rest c.args.input.now) (g.K.Sink.taken c.args.output.now) (g.K.Sink.taken c.write_all.new.sink)
    c.of_reply.result.status
    (answers (map string_bytes c.args.words.now) (g.S.Source.rest c.args.input.now) (g.K.Sink.taken c.args.output.now) (g.K.Sink.taken c.write_all.new.sink) c.in-Ok.reply c.in-Ok.ensures.ok c.of_reply.result.status c.deref.result.now c.of_reply.ensures.status c.deref.ensures.value c.in-Ok-write_all.ensures.all) is)

pub returns-in-Ok-write_all-clause-searched : goal.returns-in-Ok-write_all-clause-searched
returns-in-Ok-write_all-clause-searched g c = λ read write is.
    decided_status c.of_reply.result.status
    (Answers-searched (map string_bytes c.args.words.now) (g.S.Source.rest c.args.input.now) (g.K.Sink.taken c.args.output.now) (g.K.Sink.taken c.write_all.new.sink)
    c.of_reply.result.status
    (answers (map string_bytes c.args.words.now) (g.S.Source.rest c.args.input.now) (g.K.Sink.taken c.args.output.now) (g.K.Sink.taken c.write_all.new.sink) c.in-Ok.reply c.in-Ok.ensures.ok c.of_reply.result.status c.deref.result.now c.of_reply.ensures.status c.deref.ensures.value c.in-Ok-write_all.ensures.all) is)

pub returns-in-Ok-write_all-clause-searched_within : goal.returns-in-Ok-write_all-clause-searched_within
returns-in-Ok-write_all-clause-searched_within g c = λ read write is.
    inl (Answers-searched_within (map string_bytes c.args.words.now) (g.S.Source.rest c.args.input.now) (g.K.Sink.taken c.args.output.now) (g.K.Sink.taken c.write_all.new.sink)
    c.of_reply.result.status
    (answers (map string_bytes c.args.words.now) (g.S.Source.rest c.args.input.now) (g.K.Sink.taken c.args.output.now) (g.K.Sink.taken c.write_all.new.sink) c.in-Ok.reply c.in-Ok.ensures.ok c.of_reply.result.status c.deref.result.now c.of_reply.ensures.status c.deref.ensures.value c.in-Ok-write_all.ensures.all) is)

pub returns-in-Ok-write_all-clause-owed_certified : goal.returns-in-Ok-write_all-clause-owed_certified
returns-in-Ok-write_all-clause-owed_certified g c =
    certifies (map string_bytes c.args.words.now) (g.S.Source.rest c.args.input.now) (g.K.Sink.taken c.args.output.now) (g.K.Sink.taken c.write_all.new.sink)
    c.in-Ok.reply c.in-Ok.ensures.ok c.of_reply.result.status c.deref.result.now c.of_reply.ensures.status c.deref.ensures.value c.in-Ok-write_all.ensures.all

pub returns-in-Ok-write_all-clause-owed_confirmed : goal.returns-in-Ok-write_all-clause-owed_confirmed
returns-in-Ok-write_all-clause-owed_confirmed g c =
    confirms (map string_bytes c.args.words.now) (g.S.Source.rest c.args.input.now) (g.K.Sink.taken c.args.output.now) (g.K.Sink.taken c.write_all.new.sink)
    c.in-Ok.reply c.in-Ok.ensures.ok c.of_reply.result.status c.deref.result.now c.of_reply.ensures.status c.deref.ensures.value c.in-Ok-write_all.ensures.all

pub returns-in-Ok-write_all-clause-printed : goal.returns-in-Ok-write_all-clause-printed
returns-in-Ok-write_all-clause-printed g c =
    prints (map string_bytes c.args.words.now) (g.S.Source.rest c.args.input.now) (g.K.Sink.taken c.args.output.now) (g.K.Sink.taken c.write_all.new.sink)
    c.in-Ok.reply c.in-Ok.ensures.ok c.of_reply.result.status c.deref.result.now c.of_reply.ensures.status c.deref.ensures.value c.in-Ok-write_all.ensures.all

pub returns-in-Ok-write_all-clause-printed_terms : goal.returns-in-Ok-write_all-clause-printed_terms
returns-in-Ok-write_all-clause-printed_terms g c =
    prints_terms (map string_bytes c.args.words.now) (g.S.Source.rest c.args.input.now) (g.K.Sink.taken c.args.output.now) (g.K.Sink.taken c.write_all.new.sink)
    c.in-Ok.reply c.in-Ok.ensures.ok c.of_reply.result.status c.deref.result.now c.of_reply.ensures.status c.deref.ensures.value c.in-Ok-write_all.ensures.all

pub returns-in-Ok-write_all-clause-limit : goal.returns-in-Ok-write_all-clause-limit
returns-in-Ok-write_all-clause-limit g c =
    limit_written (map string_bytes c.args.words.now) (g.S.Source.rest c.args.input.now) (g.K.Sink.taken c.args.output.now) (g.K.Sink.taken c.write_all.new.sink)
    c.in-Ok.reply c.in-Ok.ensures.ok c.of_reply.result.status c.deref.result.now c.of_reply.ensures.status c.deref.ensures.value c.in-Ok-write_all.ensures.all
    c.of_reply.result.limit c.of_reply.ensures.limit

pub returns-in-Ok-write_all-clause-has_limit : goal.returns-in-Ok-write_all-clause-has_limit
returns-in-Ok-write_all-clause-has_limit g c =
    limit_shown c.in-Ok.reply c.of_reply.result.limit c.of_reply.result.status c.of_reply.ensures.limit c.of_reply.ensures.status

pub returns-in-Ok-write_all-clause-statuses : goal.returns-in-Ok-write_all-clause-statuses
returns-in-Ok-write_all-clause-statuses g c = inl (status_low c.in-Ok.reply c.of_reply.result.status c.of_reply.ensures.status)

pub returns-in-Ok-write_all-clause-complete : goal.returns-in-Ok-write_all-clause-complete
returns-in-Ok-write_all-clause-complete g c = λ read write. inl (status_low c.in-Ok.reply c.of_reply.result.status c.of_reply.ensures.status)

-- ---- all of it was written, where words plainly ask

pub returns-in-Ok-write_all-clause-yes : goal.returns-in-Ok-write_all-clause-yes
returns-in-Ok-write_all-clause-yes g c =
    says_yes (map string_bytes c.args.words.now) (g.S.Source.rest c.args.input.now) (g.K.Sink.taken c.args.output.now) (g.K.Sink.taken c.write_all.new.sink)
    c.of_reply.result.status
    (answers (map string_bytes c.args.words.now) (g.S.Source.rest c.args.input.now) (g.K.Sink.taken c.args.output.now) (g.K.Sink.taken c.write_all.new.sink) c.in-Ok.reply c.in-Ok.ensures.ok c.of_reply.result.status c.deref.result.now c.of_reply.ensures.status c.deref.ensures.value c.in-Ok-write_all.ensures.all)

pub returns-in-Ok-write_all-clause-no : goal.returns-in-Ok-write_all-clause-no
returns-in-Ok-write_all-clause-no g c =
    says_no (map string_bytes c.args.words.now) (g.S.Source.rest c.args.input.now) (g.K.Sink.taken c.args.output.now) (g.K.Sink.taken c.write_all.new.sink)
    c.of_reply.result.status
    (answers (map string_bytes c.args.words.now) (g.S.Source.rest c.args.input.now) (g.K.Sink.taken c.args.output.now) (g.K.Sink.taken c.write_all.new.sink) c.in-Ok.reply c.in-Ok.ensures.ok c.of_reply.result.status c.deref.result.now c.of_reply.ensures.status c.deref.ensures.value c.in-Ok-write_all.ensures.all)

pub returns-in-Ok-write_all-clause-certified : goal.returns-in-Ok-write_all-clause-certified
returns-in-Ok-write_all-clause-certified g c =
    says_certified (map string_bytes c.args.words.now) (g.S.Source.rest c.args.input.now) (g.K.Sink.taken c.args.output.now) (g.K.Sink.taken c.write_all.new.sink)
    c.of_reply.result.status
    (answers (map string_bytes c.args.words.now) (g.S.Source.rest c.args.input.now) (g.K.Sink.taken c.args.output.now) (g.K.Sink.taken c.write_all.new.sink) c.in-Ok.reply c.in-Ok.ensures.ok c.of_reply.result.status c.deref.result.now c.of_reply.ensures.status c.deref.ensures.value c.in-Ok-write_all.ensures.all)
    (certifies (map string_bytes c.args.words.now) (g.S.Source.rest c.args.input.now) (g.K.Sink.taken c.args.output.now) (g.K.Sink.taken c.write_all.new.sink)
    c.in-Ok.reply c.in-Ok.ensures.ok c.of_reply.result.status c.deref.result.now c.of_reply.ensures.status c.deref.ensures.value c.in-Ok-write_all.ensures.all)

pub returns-in-Ok-write_all-clause-found : goal.returns-in-Ok-write_all-clause-found
returns-in-Ok-write_all-clause-found g c =
    says_terms (map string_bytes c.args.words.now) (g.S.Source.rest c.args.input.now) (g.K.Sink.taken c.args.output.now) (g.K.Sink.taken c.write_all.new.sink)
    c.of_reply.result.status
    (answers (map string_bytes c.args.words.now) (g.S.Source.rest c.args.input.now) (g.K.Sink.taken c.args.output.now) (g.K.Sink.taken c.write_all.new.sink) c.in-Ok.reply c.in-Ok.ensures.ok c.of_reply.result.status c.deref.result.now c.of_reply.ensures.status c.deref.ensures.value c.in-Ok-write_all.ensures.all)

pub returns-in-Ok-write_all-clause-none : goal.returns-in-Ok-write_all-clause-none
returns-in-Ok-write_all-clause-none g c =
    says_no_terms (map string_bytes c.args.words.now) (g.S.Source.rest c.args.input.now) (g.K.Sink.taken c.args.output.now) (g.K.Sink.taken c.write_all.new.sink)
    c.of_reply.result.status
    (answers (map string_bytes c.args.words.now) (g.S.Source.rest c.args.input.now) (g.K.Sink.taken c.args.output.now) (g.K.Sink.taken c.write_all.new.sink) c.in-Ok.reply c.in-Ok.ensures.ok c.of_reply.result.status c.deref.result.now c.of_reply.ensures.status c.deref.ensures.value c.in-Ok-write_all.ensures.all)

pub returns-in-Ok-write_all-clause-confirmed : goal.returns-in-Ok-write_all-clause-confirmed
returns-in-Ok-write_all-clause-confirmed g c =
    says_confirmed (map string_bytes c.args.words.now) (g.S.Source.rest c.args.input.now) (g.K.Sink.taken c.args.output.now) (g.K.Sink.taken c.write_all.new.sink)
    c.of_reply.result.status
    (answers (map string_bytes c.args.words.now) (g.S.Source.rest c.args.input.now) (g.K.Sink.taken c.args.output.now) (g.K.Sink.taken c.write_all.new.sink) c.in-Ok.reply c.in-Ok.ensures.ok c.of_reply.result.status c.deref.result.now c.of_reply.ensures.status c.deref.ensures.value c.in-Ok-write_all.ensures.all)
    (confirms (map string_bytes c.args.words.now) (g.S.Source.rest c.args.input.now) (g.K.Sink.taken c.args.output.now) (g.K.Sink.taken c.write_all.new.sink)
    c.in-Ok.reply c.in-Ok.ensures.ok c.of_reply.result.status c.deref.result.now c.of_reply.ensures.status c.deref.ensures.value c.in-Ok-write_all.ensures.all)

pub returns-in-Ok-write_all-clause-solved : goal.returns-in-Ok-write_all-clause-solved
returns-in-Ok-write_all-clause-solved g c =
    says_first_terms (map string_bytes c.args.words.now) (g.S.Source.rest c.args.input.now) (g.K.Sink.taken c.args.output.now) (g.K.Sink.taken c.write_all.new.sink)
    c.of_reply.result.status
    (answers (map string_bytes c.args.words.now) (g.S.Source.rest c.args.input.now) (g.K.Sink.taken c.args.output.now) (g.K.Sink.taken c.write_all.new.sink) c.in-Ok.reply c.in-Ok.ensures.ok c.of_reply.result.status c.deref.result.now c.of_reply.ensures.status c.deref.ensures.value c.in-Ok-write_all.ensures.all)

pub returns-in-Ok-write_all-clause-system : goal.returns-in-Ok-write_all-clause-system
returns-in-Ok-write_all-clause-system g c =
    says_system (map string_bytes c.args.words.now) (g.S.Source.rest c.args.input.now) (g.K.Sink.taken c.args.output.now) (g.K.Sink.taken c.write_all.new.sink)
    c.of_reply.result.status
    (answers (map string_bytes c.args.words.now) (g.S.Source.rest c.args.input.now) (g.K.Sink.taken c.args.output.now) (g.K.Sink.taken c.write_all.new.sink) c.in-Ok.reply c.in-Ok.ensures.ok c.of_reply.result.status c.deref.result.now c.of_reply.ensures.status c.deref.ensures.value c.in-Ok-write_all.ensures.all)

pub returns-in-Ok-write_all-clause-no_system : goal.returns-in-Ok-write_all-clause-no_system
returns-in-Ok-write_all-clause-no_system g c =
    says_no_system (map string_bytes c.args.words.now) (g.S.Source.rest c.args.input.now) (g.K.Sink.taken c.args.output.now) (g.K.Sink.taken c.write_all.new.sink)
    c.of_reply.result.status
    (answers (map string_bytes c.args.words.now) (g.S.Source.rest c.args.input.now) (g.K.Sink.taken c.args.output.now) (g.K.Sink.taken c.write_all.new.sink) c.in-Ok.reply c.in-Ok.ensures.ok c.of_reply.result.status c.deref.result.now c.of_reply.ensures.status c.deref.ensures.value c.in-Ok-write_all.ensures.all)

-- ---- a front of it

pub returns-in-Err-clause-cut_short : goal.returns-in-Err-clause-cut_short
returns-in-Err-clause-cut_short g c = λ e.
    let front = c.in-Err.ensures.front in
    cuts_short (map string_bytes c.args.words.now) (g.S.Source.rest c.args.input.now) (g.K.Sink.taken c.args.output.now) (g.K.Sink.taken c.write_all.new.sink)
    c.in-Ok.reply c.in-Ok.ensures.ok c.deref.result.now front.0 front.1 c.deref.ensures.value front.2 front.3

-- ---- whatever was written

pub returns-in-Ok-write_all-clause-accepted : goal.returns-in-Ok-write_all-clause-accepted
returns-in-Ok-write_all-clause-accepted g c = printed_accepted (map string_bytes c.args.words.now)

pub returns-in-Err-Memory-clause-accepted : goal.returns-in-Err-Memory-clause-accepted
returns-in-Err-Memory-clause-accepted g c = printed_accepted (map string_bytes c.args.words.now)

pub returns-in-Err-Fault-clause-accepted : goal.returns-in-Err-Fault-clause-accepted
returns-in-Err-Fault-clause-accepted g c = printed_accepted (map string_bytes c.args.words.now)

pub returns-in-Err-clause-accepted : goal.returns-in-Err-clause-accepted
returns-in-Err-clause-accepted g c = printed_accepted (map string_bytes c.args.words.now)

pub returns-in-Ok-write_all-clause-accepted_terms : goal.returns-in-Ok-write_all-clause-accepted_terms
returns-in-Ok-write_all-clause-accepted_terms g c = printed_terms_accepted (map string_bytes c.args.words.now)

pub returns-in-Err-Memory-clause-accepted_terms : goal.returns-in-Err-Memory-clause-accepted_terms
returns-in-Err-Memory-clause-accepted_terms g c = printed_terms_accepted (map string_bytes c.args.words.now)

pub returns-in-Err-Fault-clause-accepted_terms : goal.returns-in-Err-Fault-clause-accepted_terms
returns-in-Err-Fault-clause-accepted_terms g c = printed_terms_accepted (map string_bytes c.args.words.now)

pub returns-in-Err-clause-accepted_terms : goal.returns-in-Err-clause-accepted_terms
returns-in-Err-clause-accepted_terms g c = printed_terms_accepted (map string_bytes c.args.words.now)
