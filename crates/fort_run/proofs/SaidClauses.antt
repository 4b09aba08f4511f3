-- What a run that answers says to words that plainly ask: the formula's truth, terms that satisfy it, a system that makes it true, or that there are none.
use Rattle.std.proofs.Common.{◌≡◌, ℕ, ◌≤◌, List, [], ◌∷◌, Bool, true, false, inl, inr, subst, arith}
use Rattle.std.specs.Prelude.{Option, Some, None, codes}
use Rattle.fort_theory.specs.Trees.{Tree}
use Rattle.fort_theory.specs.Sides.{System}
use Rattle.fort_logic.specs.Formulas.{Formula}
use Rattle.fort_answers.specs.Requests.{Text, Request, Decide, Witness, Check, Solutions, Confirm, Synth}
use Rattle.fort_answers.specs.CommandGrammar.{request_of}
use Rattle.fort_answers.specs.Lines.{positive, negative}
use Rattle.fort_answers.specs.CheckAnswer.{certified_line}
use Rattle.fort_answers.specs.Said.{Asks, Says, SaysTrue, SaysFalse, SaysTruth}
use Rattle.fort_answers.specs.SaidTerms.{SaysLeastTerms, SaysConfirmed, SaysFirstTerms}
use Rattle.fort_answers.specs.SaidSystems.{SaysSystem, SaysNoSystem}
use Rattle.fort_answers.specs.Answer.{OwesTold}
use Rattle.fort_answers.proofs.AskedWords.{Asks-decide, Asks-witness, Asks-check, Asks-confirm, Asks-solutions, Asks-synth}
use Rattle.fort_answer_laws.proofs.SaidAnswers.{owed_yes, owed_no, owed_terms, owed_no_terms, owed_first_terms, owed_system, owed_no_system}
use Rattle.fort_run.specs.Answered.{Answers}
use Rattle.fort_run.specs.Certified.{IsTruth, CertifiesTruth}
use Rattle.fort_run.specs.Confirmed.{SaysTerms, SaysSome, SaysNone, ConfirmsTerms}

-- ---- certificates that are accepted

truth_said : (verdict : Bool) (system : System) (terms : List Tree) (f : Formula) (text : Text) → text ≡ certified_line verdict → IsTruth verdict system terms f
    → SaysTruth (codes "CERTIFIED YES") (codes "CERTIFIED NO") text system terms f
truth_said true system terms f text is holds = inl (is, holds)
truth_said false system terms f text is fails = inr (is, fails)

certified_said : (formula : Text) (told old new : Option Text) → CertifiesTruth formula told old new
    → Says formula told old new (SaysTruth (codes "CERTIFIED YES") (codes "CERTIFIED NO"))
certified_said formula told old new c =
    let own = c.certified.holds in
    record {
      text = c.line;
      taken = c.taken;
      said = record {
        bytes = c.certified.bytes;
        told_are = c.certified.told_are;
        holds = record {
          f = own.f;
          is_text = own.accepted.accepted.read;
          system = own.system;
          begins = own.begins;
          grounds = own.fits.grounds;
          are_grounds = own.fits.are_grounds;
          terms = own.terms;
          are_terms = own.fits.are_terms;
          holds = truth_said own.verdict own.system own.terms own.f c.line own.says own.is;
        };
      };
    }

terms_said : (system : System) (terms : List Tree) (f : Formula) (text : Text) → SaysTerms system terms f text → SaysConfirmed text system terms f
terms_said system terms f text (SaysSome ts are is) = inl (ts, are, is)
terms_said system terms f text (SaysNone fails is) = inr (is, fails)

confirmed_said : (formula : Text) (told old new : Option Text) → ConfirmsTerms formula told old new → Says formula told old new SaysConfirmed
confirmed_said formula told old new c =
    let own = c.confirmed.holds in
    record {
      text = c.text;
      taken = c.taken;
      said = record {
        bytes = c.confirmed.bytes;
        told_are = c.confirmed.told_are;
        holds = record {
          f = own.f;
          is_text = own.accepted.accepted.read;
          system = own.system;
          begins = own.begins;
          grounds = own.fits.grounds;
          are_grounds = own.fits.are_grounds;
          terms = own.terms;
          are_terms = own.fits.are_terms;
          holds = terms_said own.system own.terms own.f c.text own.says;
        };
      };
    }

-- ---- words that ask nothing are answered by the usage text

nothing_owed : (told : Option Text) (s : ℕ) (t : Text) → OwesTold None told s t → s ≤ negative → ⊥
nothing_owed None s t owes low = let e = owes.1.same_status in omega (arith, e, low)
nothing_owed (Some bytes) s t owes low = let e = owes.same_status in omega (arith, e, low)

-- ---- by the words, where a run has answered

module _ (words : List Text) (told old new : Option Text) (status : ℕ) (is : Answers words told old new status) where
  abbrev Owes : Option Request → Type 0
  Owes request = OwesTold request told status is.text

  owed_to : (request : Option Request) → request_of words ≡ request → Owes request
  owed_to request same = subst Owes same is.owed

  nothing_low : request_of words ≡ None → status ≤ negative → ⊥
  nothing_low none low = nothing_owed told status is.text (owed_to None none) low

  pub says_yes : (formula : Text) → Asks (codes "decide") (formula ∷ []) words → status ≡ positive → Says formula told old new (SaysTrue (codes "YES"))
  says_yes formula asks e =
      elim (Asks-decide words formula asks) [
        | inl none ↦ absurd (nothing_low none (omega (arith, e)))
        | inr r ↦ owed_yes told old new status is.text is.taken formula r.0 e (owed_to (Some (Decide r.0 false formula)) r.1)
      ]

  pub says_no : (formula : Text) → Asks (codes "decide") (formula ∷ []) words → status ≡ negative → Says formula told old new (SaysFalse (codes "NO"))
  says_no formula asks e =
      elim (Asks-decide words formula asks) [
        | inl none ↦ absurd (nothing_low none (omega (arith, e)))
        | inr r ↦ owed_no told old new status is.text is.taken formula r.0 e (owed_to (Some (Decide r.0 false formula)) r.1)
      ]

  pub says_terms : (formula : Text) → Asks (codes "witness") (formula ∷ []) words → status ≡ positive → Says formula told old new SaysLeastTerms
  says_terms formula asks e =
      elim (Asks-witness words formula asks) [
        | inl none ↦ absurd (nothing_low none (omega (arith, e)))
        | inr r ↦ owed_terms told old new status is.text is.taken formula r.0 e (owed_to (Some (Witness r.0 false formula)) r.1)
      ]

  pub says_no_terms : (formula : Text) → Asks (codes "witness") (formula ∷ []) words → status ≡ negative
      → Says formula told old new (SaysFalse (codes "NONE"))
  says_no_terms formula asks e =
      elim (Asks-witness words formula asks) [
        | inl none ↦ absurd (nothing_low none (omega (arith, e)))
        | inr r ↦ owed_no_terms told old new status is.text is.taken formula r.0 e (owed_to (Some (Witness r.0 false formula)) r.1)
      ]

  pub says_first_terms : (digits formula : Text) → Asks (codes "solutions") (digits ∷ formula ∷ []) words → status ≤ negative
      → Says formula told old new (SaysFirstTerms digits)
  says_first_terms digits formula asks low =
      elim (Asks-solutions words digits formula asks) [
        | inl none ↦ absurd (nothing_low none low)
        | inr r ↦ owed_first_terms told old new status is.text is.taken formula r.0 r.1 digits r.3 low (owed_to (Some (Solutions r.0 r.1 formula)) r.2)
      ]

  pub says_system : (n h formula : Text) → Asks (codes "synth") (n ∷ h ∷ formula ∷ []) words → status ≡ positive → Says formula told old new (SaysSystem n h)
  says_system n h formula asks e =
      elim (Asks-synth words n h formula asks) [
        | inl none ↦ absurd (nothing_low none (omega (arith, e)))
        | inr r ↦
            owed_system told old new status is.text is.taken formula r.0 r.1 n h r.3 r.4
            (owed_to (Some (Synth r.0 r.1 formula)) r.2) e
      ]

  pub says_no_system : (n h formula : Text) → Asks (codes "synth") (n ∷ h ∷ formula ∷ []) words → status ≡ negative
      → Says formula told old new (SaysNoSystem n h)
  says_no_system n h formula asks e =
      elim (Asks-synth words n h formula asks) [
        | inl none ↦ absurd (nothing_low none (omega (arith, e)))
        | inr r ↦
            owed_no_system told old new status is.text is.taken formula r.0 r.1 n h r.3 r.4
            (owed_to (Some (Synth r.0 r.1 formula)) r.2) e
      ]

  pub says_certified : ((formula : Text) → request_of words ≡ Some (Check formula) → status ≡ positive → CertifiesTruth formula told old new)
      → (formula : Text) → Asks (codes "check") (formula ∷ []) words → status ≡ positive
      → Says formula told old new (SaysTruth (codes "CERTIFIED YES") (codes "CERTIFIED NO"))
  says_certified certifies formula asks e =
      elim (Asks-check words formula asks) [
        | inl none ↦ absurd (nothing_low none (omega (arith, e)))
        | inr asked ↦ certified_said formula told old new (certifies formula asked e)
      ]

  pub says_confirmed : ((formula : Text) → request_of words ≡ Some (Confirm formula) → status ≡ positive → ConfirmsTerms formula told old new)
      → (formula : Text) → Asks (codes "confirm") (formula ∷ []) words → status ≡ positive → Says formula told old new SaysConfirmed
  says_confirmed confirms formula asks e =
      elim (Asks-confirm words formula asks) [
        | inl none ↦ absurd (nothing_low none (omega (arith, e)))
        | inr asked ↦ confirmed_said formula told old new (confirms formula asked e)
      ]
