-- Where a run leaves an answer, no other is owed.
use Rattle.std.proofs.Common.{◌≡◌, ◌⊎◌, ℕ, ◌≤◌, List, inl, inr, sym, subst}
use Rattle.std.specs.Prelude.{Option, None, Some, IfSome}
use Rattle.fort_io.specs.Devices.{Takes}
use Rattle.fort_answers.specs.Requests.{Text}
use Rattle.fort_answers.specs.CommandGrammar.{request_of}
use Rattle.fort_answers.specs.Lines.{negative, limited}
use Rattle.fort_answers.specs.SystemAnswer.{KeepsCap}
use Rattle.fort_answers.specs.Answer.{OwesTold, owed, Answer}
use Rattle.fort_answers.proofs.PossibleRequests.{words_possible}
use Rattle.fort_answer_laws.proofs.OneOwed.{owed-unique, owed_from_early, bytes_told, answered_low, checked_low, confirmed_low, searched_low, searched_within}
use Rattle.fort_run.specs.Answered.{Answers, OwesOnly, OwesOnlyEarly, IsDecidable, IsDecidableWithin, IsSearchable, IsSearchableWithin}
use Rattle.fort_run.specs.Certified.{IsCheckable}
use Rattle.fort_run.specs.Confirmed.{IsConfirmable}

-- where the bytes are known, no other answer is owed than the one that a run left
pub Answers-only : (words : List Text) (bytes : Text) (old new : Option Text) (status : ℕ) → Answers words (Some bytes) old new status
    → (s : ℕ) (t : Text) → Answer words bytes s t → (s ≡ status) × Takes old new t
Answers-only words bytes old new status given s t answer =
    let same = owed-unique (request_of words) bytes s status t given.text (words_possible words) answer given.owed in
    (same.same_status, subst (Takes old new) (sym same.same_text) given.taken)

pub Answers-told : (words : List Text) (told old new : Option Text) (status : ℕ) → Answers words told old new status → IfSome told (OwesOnly words old new status)
Answers-told words None old new status answers = tt
Answers-told words (Some bytes) old new status answers = Answers-only words bytes old new status answers

pub Answers-early : (words : List Text) (told old new : Option Text) (status : ℕ) → Answers words told old new status → OwesOnlyEarly words old new status
Answers-early words told old new status given s t early =
    let some = bytes_told (request_of words) told status given.text given.owed in
    let same = owed-unique (request_of words) some.0 s status t given.text (words_possible words) (owed_from_early (request_of words) some.0 s t early) some.1 in
    (same.same_status, subst (Takes old new) (sym same.same_text) given.taken)

module _ (words : List Text) (told old new : Option Text) (status : ℕ) (given : Answers words told old new status) where
  decided_or_over : (is : IsDecidable words told) → (status ≤ negative) ⊎ ((status ≡ limited) × (KeepsCap is.system is.terms is.f is.options → ⊥))
  decided_or_over is =
      let at_bytes : OwesTold (request_of words) (Some is.bytes) status given.text =
      subst (λ o. OwesTold (request_of words) o status given.text) is.told_are given.owed in
      answered_low is.options is.formula is.f is.bytes is.system is.terms status given.text is.input is.fits (request_of words) is.about at_bytes

  pub Answers-decided : IsDecidable words told → (status ≤ negative) ⊎ (status ≡ limited)
  Answers-decided is = elim (decided_or_over is) [ inl low ↦ inl low | inr over ↦ inr over.0 ]

  pub Answers-kept : IsDecidableWithin words told → status ≤ negative
  Answers-kept is = elim (decided_or_over is.decidable) [ inl low ↦ low | inr over ↦ absurd (over.1 is.keeps) ]

  pub Answers-checked : IsCheckable words told → status ≤ negative
  Answers-checked is =
      let at_bytes : OwesTold (request_of words) (Some is.bytes) status given.text =
      subst (λ o. OwesTold (request_of words) o status given.text) is.told_are given.owed in
      checked_low is.formula is.f is.bytes is.system is.certificate is.terms status given.text is.accepted is.input is.fits
      (subst (λ r. owed r is.bytes status given.text) is.asked at_bytes)

  pub Answers-confirmed : IsConfirmable words told → status ≤ negative
  Answers-confirmed is =
      let at_bytes : OwesTold (request_of words) (Some is.bytes) status given.text =
      subst (λ o. OwesTold (request_of words) o status given.text) is.told_are given.owed in
      confirmed_low is.formula is.f is.bytes is.system is.certificate is.terms status given.text is.accepted is.input is.fits
      (subst (λ r. owed r is.bytes status given.text) is.asked at_bytes)

  pub Answers-searched : IsSearchable words told → (status ≤ negative) ⊎ (status ≡ limited)
  Answers-searched is =
      let at_bytes : OwesTold (request_of words) (Some is.bytes) status given.text =
      subst (λ o. OwesTold (request_of words) o status given.text) is.told_are given.owed in
      searched_low is.options is.family is.formula is.f is.bytes is.system is.terms status given.text is.accepted is.input is.fits is.small
      (subst (λ r. owed r is.bytes status given.text) is.asked at_bytes)

  pub Answers-searched_within : IsSearchableWithin words told → status ≤ negative
  Answers-searched_within is =
      let own = is.searchable in
      let at_bytes : OwesTold (request_of words) (Some own.bytes) status given.text =
      subst (λ o. OwesTold (request_of words) o status given.text) own.told_are given.owed in
      searched_within own.options own.family own.formula own.f own.bytes own.system own.terms status given.text own.accepted own.input own.fits own.small is.keeps
      (subst (λ r. owed r own.bytes status given.text) own.asked at_bytes)
