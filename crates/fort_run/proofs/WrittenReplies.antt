-- What a run leaves that writes a reply, all of it or a front.
use Rattle.std.proofs.Common.{◌≡◌, ◌⊎◌, ℕ, ◌≤◌, true, List, ◌++◌, inl, inr, sym, subst, ◌∙◌}
use Rattle.std.specs.Prelude.{◌↔◌, Option, None, Some, IfSome, IsSome}
use Rattle.fort_io.specs.Devices.{Takes}
use Rattle.fort_answers.specs.Requests.{Text, Request, Options, Decide, Witness, Check, Confirm}
use Rattle.fort_answers.specs.CommandGrammar.{request_of}
use Rattle.fort_answers.specs.Lines.{negative, positive, limited, last_answer, out_of_memory}
use Rattle.fort_answers.specs.Answer.{OwesTold, owed}
use Rattle.fort_engine.specs.declared.answer.Limit.{Limit}
use Rattle.fort_run.specs.declared.reply.Reply.{Reply}
use Rattle.fort_run.specs.StatusView.{code_of}
use Rattle.fort_run.specs.Answered.{Answers, CutsShort}
use Rattle.fort_run.specs.Certified.{CertifiesTruth, PrintsTruth}
use Rattle.fort_run.specs.Confirmed.{ConfirmsTerms, PrintsTerms}
use Rattle.fort_run.specs.Limits.{HasLimit, IsLimitOf}
use Rattle.fort_run.specs.Replies.{SaysFor, IsReplyTold}

-- what is owed for the bytes that were told
owed_told : (request : Option Request) (told : Option Text) (r : Reply) → IsReplyTold request told r → OwesTold request told (code_of r.status) r.text.items
owed_told request None r is = (is.bytes, is.holds.is_owed)
owed_told request (Some bytes) r is = subst (λ b. owed request b (code_of r.status) r.text.items) (sym is.told_are) is.holds.is_owed

module _ (words : List Text) (told old new : Option Text) (r : Reply) (is : IsReplyTold (request_of words) told r) where
  -- a front of the text was written
  pub cuts_short : (written front back : Text) → written ≡ r.text.items → written ≡ front ++ back → Takes old new front → CutsShort words told old new
  cuts_short written front back text_is split taken = record {
    status = code_of r.status;
    front = front;
    back = back;
    owed = subst (OwesTold (request_of words) told (code_of r.status)) (sym text_is ∙ split) (owed_told (request_of words) told r is);
    taken = taken;
  }

  -- all of it was
  module _ (status : ℕ) (written : Text) (status_is : status ≡ code_of r.status) (text_is : written ≡ r.text.items) (taken : Takes old new written) where
    pub answers : Answers words told old new status
    answers = record {
      text = r.text.items;
      owed = subst (λ s. OwesTold (request_of words) told s r.text.items) (sym status_is) (owed_told (request_of words) told r is);
      taken = subst (Takes old new) text_is taken;
    }

    says : (request : Option Request) → request_of words ≡ request → status ≡ positive → SaysFor request is.bytes r.text.items
    says request asked e = subst (λ q. SaysFor q is.bytes r.text.items) asked (is.holds.says (sym status_is ∙ e))

    pub certifies : (formula : Text) → request_of words ≡ Some (Check formula) → status ≡ positive → CertifiesTruth formula told old new
    certifies formula asked e = record {
      line = r.text.items;
      certified = record { bytes = is.bytes; told_are = is.told_are; holds = says (Some (Check formula)) asked e };
      taken = subst (Takes old new) text_is taken;
    }

    pub prints : (options : Options) (formula : Text) → request_of words ≡ Some (Decide options true formula) → status ≡ positive
        → PrintsTruth options.reduces formula told old new
    prints options formula asked e = record {
      text = r.text.items;
      printed = record { bytes = is.bytes; told_are = is.told_are; holds = says (Some (Decide options true formula)) asked e };
      taken = subst (Takes old new) text_is taken;
    }

    pub confirms : (formula : Text) → request_of words ≡ Some (Confirm formula) → status ≡ positive → ConfirmsTerms formula told old new
    confirms formula asked e = record {
      text = r.text.items;
      confirmed = record { bytes = is.bytes; told_are = is.told_are; holds = says (Some (Confirm formula)) asked e };
      taken = subst (Takes old new) text_is taken;
    }

    pub prints_terms : (options : Options) (formula : Text) → request_of words ≡ Some (Witness options true formula) → status ≡ positive
        → PrintsTerms formula told old new
    prints_terms options formula asked e = record {
      text = r.text.items;
      printed = record { bytes = is.bytes; told_are = is.told_are; holds = says (Some (Witness options true formula)) asked e };
      taken = subst (Takes old new) text_is taken;
    }

    limit_by : (limit : Option Limit) → IfSome limit (HasLimit (request_of words) is.bytes r.text.items) → IfSome limit (IsLimitOf words told old new)
    limit_by None has = tt
    limit_by (Some limit) has = record {
      text = r.text.items;
      told_limit = record { bytes = is.bytes; told_are = is.told_are; holds = has };
      taken = subst (Takes old new) text_is taken;
    }

    pub limit_written : (limit : Option Limit) → limit ≡ r.limit → IfSome limit (IsLimitOf words told old new)
    limit_written limit same = subst (λ l. IfSome l (IsLimitOf words told old new)) (sym same) (limit_by r.limit is.holds.limit)

-- ---- statuses

pub limit_shown : (r : Reply) (limit : Option Limit) (status : ℕ) → limit ≡ r.limit → status ≡ code_of r.status → IsSome limit ↔ (status ≡ limited)
limit_shown r limit status same is =
    ((λ h. is ∙ r.shown.0 (subst IsSome same h)), (λ e. subst IsSome (sym same) (r.shown.1 (sym is ∙ e))))

pub status_low : (r : Reply) (status : ℕ) → status ≡ code_of r.status → status ≤ last_answer
status_low r status is = subst (λ s. s ≤ last_answer) (sym is) r.low

pub decided_status : (status : ℕ) → (status ≤ negative) ⊎ (status ≡ limited) → (status ≤ negative) ⊎ ((status ≡ limited) ⊎ (status ≡ out_of_memory))
decided_status status (inl below) = inl below
decided_status status (inr over) = inr (inl over)
