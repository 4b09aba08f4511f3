-- Inside: the reply to a refusal. None says want of memory.
use Rattle.std.specs.Prelude.{◌≡◌, List, ℕ, None}
use Rattle.fort_answers.specs.Lines.{refused}
use Rattle.fort_questions.specs.declared.refusal.Refusal.{Refusal}
use Rattle.fort_questions.specs.declared.refusal.Refusal.TheVariants as refusal
use Rattle.fort_run.specs.declared.reply.Reply.{Reply}
use Rattle.fort_run.specs.StatusView.{code_of}

-- the reply is one without a limit that refuses by this line
pub record IsRefusal (line : List ℕ) (reply : Reply) : Type 0 where
  pub status_is : code_of reply.status ≡ refused
  pub text_is : reply.text.items ≡ line
  pub limit_is : reply.limit ≡ None

abbrev pub TellsRefusal : Refusal → Reply → Type 0
TellsRefusal refusal.Memory reply = ⊥
TellsRefusal (refusal.Line line) reply = IsRefusal line.items reply
