use Rattle.std.proofs.Common.{◌∙◌, ◌≡◌, ap, map, string_bytes, [], None, inl, inr}
use Rattle.std.specs.Prelude.{option_map}
use Rattle.clap.specs.Words.{App, app_of, fault_of, is_simple, is_simple_and_free}
use Rattle.fort_words.specs.Matches.{read_by, request_in}
use Rattle.fort_words.specs.CommandLine.{fort}
use Rattle.fort_words.proofs.ProgramWords.{request_is, words_are}
use Rattle.fort_words.specs.RequestView.{as_request}
use Rattle.fort_words.proofs.Requests.{fort_is_free, fort_is_simple, refused_reads, taken_reads}
use Rattle.fort_words.proofs.request.read_request.Goals as goal

pub returns-in-Ok : goal.returns-in-Ok
returns-in-Ok c =
    let words = map string_bytes c.args.words.now in
    let app = app_of c.in_ok-command.command in
    let is_fort : app ≡ fort = c.in_ok-command.ensures in
    let none : fault_of app words ≡ [] = c.in-Ok.ensures.kinds (ap is_simple_and_free is_fort ∙ fort_is_free) in
    let matched = c.in-Ok.ensures.matches (ap is_simple is_fort ∙ fort_is_simple) in
    let matches : option_map as_request c.asked.result ≡ request_in words =
    c.asked.ensures ∙ taken_reads app words _ none matched.1 ∙ ap (λ (a : App). read_by a words) is_fort in
    record { matches = matches; grammar = matches ∙ request_is words (words_are c.args.words.now) }

pub returns : goal.returns
returns c =
    let words = map string_bytes c.args.words.now in
    let app = app_of c.in_ok-command.command in
    let is_fort : app ≡ fort = c.in_ok-command.ensures in
    elim (c.in-Err.ensures.kinds (ap is_simple_and_free is_fort ∙ fort_is_free)) [
      | inl memory ↦ absurd (c.in_default.not-OutOfMemory (c.kind.ensures ∙ memory))
      | inr among ↦
          let matches : None ≡ request_in words = refused_reads app words _ among ∙ ap (λ (a : App). read_by a words) is_fort in
          record { matches = matches; grammar = matches ∙ request_is words (words_are c.args.words.now) }
    ]
