-- What a sink took from a run on known bytes is the text of the answer that is owed to them.
use Rattle.std.proofs.Common.{◌≡◌, ℕ, List, [], Some, sym, ◌∙◌, subst}
use Rattle.fort_answers.specs.Requests.{Text}
use Rattle.fort_answers.specs.Answer.{Answer}
use Rattle.fort_run.specs.Answered.{Answers}

pub answer_written : (words asked : List Text) (source bytes before after text : Text) (status : ℕ) → words ≡ asked → source ≡ bytes → before ≡ [] → text ≡ after
    → Answers words (Some source) (Some before) (Some after) status → Answer asked bytes status text
answer_written words asked source bytes before after text status words_are bytes_are none text_is answers =
    let of : Answers asked (Some bytes) (Some []) (Some after) status =
    subst (λ (T : Type 0). T) (λ i. Answers (words_are i) (Some (bytes_are i)) (Some (none i)) (Some after) status) answers in
    subst (λ (t : Text). Answer asked bytes status t) (sym (text_is ∙ of.taken)) of.owed
