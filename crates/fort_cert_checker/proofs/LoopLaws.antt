-- Steps of which the first are fine: one more step, and what comes of them where a step fails, isn't due or is missing, or none is left.
use Rattle.std.specs.Prelude.{◌≡◌, ℕ, suc, ◌+◌, ◌<◌, ◌≤◌, List, [], ◌∷◌, ◌++◌, take, drop, length, get_or}
use Rattle.std.proofs.Common.{sym, ap, ◌∙◌, subst, arith}
use Rattle.std.proofs.lemmas.List.{take_more, length-take-le, drop_all}
use Rattle.std.proofs.Math.Seq.{drop-cons}
use Rattle.fort_theory.specs.Patterns.{PatternSystem}
use Rattle.fort_theory.specs.Cores.{Core}
use Rattle.fort_theory.specs.PartLists.{AreParts}
use Rattle.fort_certificate_theory.specs.Certificates.{Step}
use Rattle.fort_certificate_theory.specs.Outcomes.{Reason, Due}
use Rattle.fort_certificate_theory.specs.Dues.{DueStep, due_of, dues_of}
use Rattle.fort_certificate_theory.specs.Made.{MadeSoFar, nothing_made}
use Rattle.fort_certificate_theory.specs.Checked.{IsFine, IsFailing, IsUpTo, AreAllFine, IsFirstFailure, Failing, NotDue, OneTooMany, Missing}
use Rattle.fort_certificate_theory.proofs.StepLists.{up_to_none, up_to_next, up_to_all}
use Rattle.fort_cert_checker.specs.Fronts.{Tells, IsAtPlace}
use Rattle.fort_cert_checker.proofs.FrontTells.{tells_none, tells_next}
use Rattle.fort_cert_checker.proofs.FrontKnows.{later_key}

next_is : {A : Type 0} (xs : List A) (n : ℕ) (x : A) → n < length xs → get_or xs n x ≡ x → drop n xs ≡ x ∷ drop (n + 1) xs
next_is xs n x l e =
    let one : n + 1 ≡ suc n = omega arith in
    drop-cons xs n x l ∙ ((λ i. e i ∷ drop (suc n) xs) ∙ ap (λ m. x ∷ drop m xs) (sym one))

more_is : {A : Type 0} (xs : List A) (n : ℕ) (x : A) → n < length xs → get_or xs n x ≡ x → take (n + 1) xs ≡ take n xs ++ x ∷ []
more_is xs n x l e = take_more xs n x l ∙ ap (λ y. take n xs ++ y ∷ []) e

module _ (system : PatternSystem) (parts : List Core) (ss : List Step) where
  abbrev all_due : List DueStep
  all_due = dues_of ss (length system.rules) parts

  pub at_start : IsAtPlace system parts ss 0 nothing_made
  at_start = record { within = omega arith; up = up_to_none system parts ss; tells = tells_none parts }

  module _ (n : ℕ) (made : MadeSoFar) (h : IsAtPlace system parts ss n made) where
    -- Result
    pub front_count : length (take n ss) ≡ n
    front_count = length-take-le n ss h.within

    -- where this is due
    module _ (d : DueStep) (due_low : n < length (dues_of ss (length system.rules) parts)) (due_is : get_or (dues_of ss (length system.rules) parts) n d ≡ d) where
      ahead : (rest : List Step) → drop n ss ≡ rest → IsUpTo system parts ss (take n ss) (d ∷ drop (n + 1) all_due) rest made
      ahead rest e =
          subst (λ (ds : List DueStep). IsUpTo system parts ss (take n ss) ds rest made) (next_is all_due n d due_low due_is)
          (subst (λ (ts : List Step). IsUpTo system parts ss (take n ss) (drop n all_due) ts made) e h.up)

      -- Result
      pub at_missing : length ss ≤ n → IsFirstFailure system parts ss (take n ss) 0 Due
      at_missing l = Missing (take n ss) d (drop (n + 1) all_due) made (ahead [] (drop_all n ss l))

      -- where this step stands
      module _ (s : Step) (low : n < length ss) (is : get_or ss n s ≡ s) where
        -- Result
        pub at_step : IsUpTo system parts ss (take n ss) (d ∷ drop (n + 1) all_due) (s ∷ drop (n + 1) ss) made
        at_step = ahead (s ∷ drop (n + 1) ss) (next_is ss n s low is)

        -- Result
        pub at_not_due : (due_of s ≡ d → ⊥) → IsFirstFailure system parts ss (take n ss) 0 Due
        at_not_due other = NotDue (take n ss) (drop (n + 1) ss) s d (drop (n + 1) all_due) made at_step other

        -- Result
        pub at_failing : due_of s ≡ d → (place : ℕ) (reason : Reason) → IsFailing system parts made s place reason → IsFirstFailure system parts ss (take n ss) place reason
        at_failing e place reason f = Failing (take n ss) (drop (n + 1) ss) s d (drop (n + 1) all_due) made at_step e f

        -- Result
        pub at_next : (root : Core) → AreParts root parts → due_of s ≡ d → (next : MadeSoFar) → IsFine system parts made s next → IsAtPlace system parts ss (n + 1) next
        at_next root are e next fine =
            let more = more_is ss n s low is in
            record {
              within = omega arith;
              up = subst (λ (ts : List Step). IsUpTo system parts ss ts (drop (n + 1) all_due) (drop (n + 1) ss) next) (sym more)
                  (up_to_next system parts ss (take n ss) (drop (n + 1) ss) s d (drop (n + 1) all_due) made next at_step e fine);
              tells = subst (λ (ts : List Step). Tells parts ts next) (sym more)
                  (tells_next (length system.rules) system root parts are (take n ss) made h.tells s next
                  (later_key system parts ss (take n ss) (drop (n + 1) ss) s d (drop (n + 1) all_due) made at_step e) fine);
            }

    -- where no more are due
    module _ (whole : length (dues_of ss (length system.rules) parts) ≤ n) where
      none_due : (rest : List Step) → drop n ss ≡ rest → IsUpTo system parts ss (take n ss) [] rest made
      none_due rest e =
          subst (λ (ds : List DueStep). IsUpTo system parts ss (take n ss) ds rest made) (drop_all n all_due whole)
          (subst (λ (ts : List Step). IsUpTo system parts ss (take n ss) (drop n all_due) ts made) e h.up)

      -- Result
      pub at_too_many : (s : Step) → n < length ss → get_or ss n s ≡ s → IsFirstFailure system parts ss (take n ss) 0 Due
      at_too_many s low is = OneTooMany (take n ss) (drop (n + 1) ss) s made (none_due (s ∷ drop (n + 1) ss) (next_is ss n s low is))

      -- Result
      pub all_fine : length ss ≤ n → AreAllFine system parts ss made
      all_fine l = up_to_all system parts ss (take n ss) made (none_due [] (drop_all n ss l))
