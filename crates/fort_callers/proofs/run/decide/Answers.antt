use Rattle.std.proofs.Common.{map, string_bytes, ap, ◌∙◌}
use Rattle.fort_callers.specs.DecideWords.{decide_words}
use Rattle.fort_callers.proofs.WrittenAnswers.{answer_written}
use Rattle.fort_callers.proofs.run.decide.Goals as goal

pub returns : goal.returns
returns c small =
    let words = ap (map string_bytes) c.deref.ensures.value ∙ c.in_ok-words.ensures in
    answer_written (map string_bytes c.deref.result.now) (decide_words c.args.formula.now) c.in_ok-source.source c.args.problem.now c.in_ok-sink.sink.taken
    c.run-status.new.output.taken c.in_ok-text.text.items c.run-status.result.status words c.in_ok-source.ensures c.in_ok-sink.ensures.taken
    (c.in_ok-text.ensures.items ∙ c.taken.ensures) (c.run-status.ensures.answered small)
