use Rattle.std.proofs.Common.{[], map, string_bytes, subst, sym, ◌∙◌}
use Rattle.std.specs.Process.{exit_status}
use Rattle.std.specs.Vec.Iter.{into_iter_items}
use Rattle.fort_answers.specs.Answer.{NeedsNoInput}
use Rattle.fort_answers.specs.Lines.{out_of_memory}
use Rattle.fort.specs.Ends.{EndsAsRun, reads, writes}
use Rattle.fort.proofs.EndLaws.{NeedsNoInput-none, EndsAsRun-at, EndsAsRun-nothing, IfOk-map, IfErr-map, IfOk-each, IfErr-each}
use Rattle.fort.proofs.arguments.answer.Goals as goal

-- ---- the words were found

pub returns-in-Ok-clause-ends : goal.returns-in-Ok-clause-ends
returns-in-Ok-clause-ends g c = IfOk-map c.args.args (λ all same. subst (λ ws. EndsAsRun (map string_bytes ws)
    (reads (g.S.Source.rest c.args.input.now) (g.S.Source.rest c.code_for.new.input) (g.S.Source.faults c.args.input.now) (g.S.Source.faults c.code_for.new.input))
    (writes (g.K.Sink.taken c.args.output.now) (g.K.Sink.taken c.code_for.new.output) (g.K.Sink.faults c.args.output.now) (g.K.Sink.faults c.code_for.new.output))
    (exit_status c.code_for.result)) (c.as_slice.ensures.value ∙ same) c.code_for.ensures.ends) c.in-Ok.ensures.all

pub returns-in-Ok-clause-unread : goal.returns-in-Ok-clause-unread
returns-in-Ok-clause-unread g c = IfOk-map c.args.args (λ all same nothing. c.code_for.ensures.unread
    (subst (λ ws. NeedsNoInput (map string_bytes ws)) (sym (c.as_slice.ensures.value ∙ same)) nothing)) c.in-Ok.ensures.all

pub returns-in-Ok-clause-no_words : goal.returns-in-Ok-clause-no_words
returns-in-Ok-clause-no_words g c = IfErr-map c.args.args (λ e same. subst (λ ws. EndsAsRun (map string_bytes ws)
    (reads (g.S.Source.rest c.args.input.now) (g.S.Source.rest c.code_for.new.input) (g.S.Source.faults c.args.input.now) (g.S.Source.faults c.code_for.new.input))
    (writes (g.K.Sink.taken c.args.output.now) (g.K.Sink.taken c.code_for.new.output) (g.K.Sink.faults c.args.output.now) (g.K.Sink.faults c.code_for.new.output))
    (exit_status c.code_for.result)) (c.as_slice.ensures.value ∙ same) c.code_for.ensures.ends) c.in-Ok.ensures.none

pub returns-in-Ok-clause-untouched : goal.returns-in-Ok-clause-untouched
returns-in-Ok-clause-untouched g c = IfErr-map c.args.args (λ e same. c.code_for.ensures.unread
    (subst (λ ws. NeedsNoInput (map string_bytes ws)) (sym (c.as_slice.ensures.value ∙ same)) NeedsNoInput-none)) c.in-Ok.ensures.none

-- ---- they found no memory

pub returns-in-Err-clause-ends : goal.returns-in-Err-clause-ends
returns-in-Err-clause-ends g c = IfOk-each c.args.args (λ all. EndsAsRun-at (map string_bytes (into_iter_items all))
    (reads (g.S.Source.rest c.args.input.now) (g.S.Source.rest c.args.input.now) (g.S.Source.faults c.args.input.now) (g.S.Source.faults c.args.input.now))
    (writes (g.K.Sink.taken c.args.output.now) (g.K.Sink.taken c.args.output.now) (g.K.Sink.faults c.args.output.now) (g.K.Sink.faults c.args.output.now))
    out_of_memory (exit_status c.code_of.result) (c.code_of.ensures ∙ c.out_of_memory.ensures.status)
    (EndsAsRun-nothing (map string_bytes (into_iter_items all)) (g.S.Source.rest c.args.input.now) (g.S.Source.faults c.args.input.now) (g.K.Sink.taken c.args.output.now) (g.K.Sink.faults c.args.output.now)))

pub returns-in-Err-clause-no_words : goal.returns-in-Err-clause-no_words
returns-in-Err-clause-no_words g c = IfErr-each c.args.args (λ e. EndsAsRun-at []
    (reads (g.S.Source.rest c.args.input.now) (g.S.Source.rest c.args.input.now) (g.S.Source.faults c.args.input.now) (g.S.Source.faults c.args.input.now))
    (writes (g.K.Sink.taken c.args.output.now) (g.K.Sink.taken c.args.output.now) (g.K.Sink.faults c.args.output.now) (g.K.Sink.faults c.args.output.now))
    out_of_memory (exit_status c.code_of.result) (c.code_of.ensures ∙ c.out_of_memory.ensures.status)
    (EndsAsRun-nothing [] (g.S.Source.rest c.args.input.now) (g.S.Source.faults c.args.input.now) (g.K.Sink.taken c.args.output.now) (g.K.Sink.faults c.args.output.now)))
