-- Inside: what a reply to a request is on the bytes of an input.
use Rattle.std.specs.Prelude.{◌≡◌, true, false, Option, Some, None, IfSome}
use Rattle.fort_answers.specs.Requests.{Text, Request, Decide, Witness, Check, Sample, Solutions, Confirm, Synth}
use Rattle.fort_answers.specs.Lines.{positive}
use Rattle.fort_answers.specs.Answer.{owed}
use Rattle.fort_run.specs.declared.reply.Reply.{Reply}
use Rattle.fort_run.specs.StatusView.{code_of}
use Rattle.fort_answers.specs.Told.{HoldsForTold}
use Rattle.fort_run.specs.Limits.{HasLimit}
use Rattle.fort_run.specs.Certified.{IsCertified, IsPrinted}
use Rattle.fort_run.specs.Confirmed.{IsConfirmed, IsPrintedTerms}

-- what a text with status 0 says, beyond being owed
abbrev pub SaysFor : Option Request → (bytes text : Text) → Type 0
SaysFor None bytes text = Unit {0}
SaysFor (Some (Decide options false formula)) bytes text = Unit {0}
SaysFor (Some (Decide options true formula)) bytes text = IsPrinted options.reduces formula bytes text
SaysFor (Some (Witness options false formula)) bytes text = Unit {0}
SaysFor (Some (Witness options true formula)) bytes text = IsPrintedTerms formula bytes text
SaysFor (Some (Check formula)) bytes text = IsCertified formula bytes text
SaysFor (Some (Sample n)) bytes text = Unit {0}
SaysFor (Some (Solutions options bounds formula)) bytes text = Unit {0}
SaysFor (Some (Confirm formula)) bytes text = IsConfirmed formula bytes text
SaysFor (Some (Synth options family formula)) bytes text = Unit {0}

-- the reply is owed for the bytes, says what it is to say, and its limit is the request's
pub record IsReplyTo (request : Option Request) (bytes : Text) (reply : Reply) : Type 0 where
  pub is_owed : owed request bytes (code_of reply.status) reply.text.items
  pub says : code_of reply.status ≡ positive → SaysFor request bytes reply.text.items
  pub limit : IfSome reply.limit (HasLimit request bytes reply.text.items)

-- for the bytes that a source tells; for one that tells none, for some bytes
abbrev pub IsReplyTold : Option Request → (told : Option Text) → Reply → Type 0
IsReplyTold request told reply = HoldsForTold told (λ bytes. IsReplyTo request bytes reply)
