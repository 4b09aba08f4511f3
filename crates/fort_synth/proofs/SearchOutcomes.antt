-- What a search tells of a family, from its walk through the choices; and the steps of that walk.
use Rattle.std.proofs.Common.{◌≡◌, ℕ, suc, ◌+◌, ◌-◌, ◌<◌, ◌≤◌, Bool, true, false, List, [], ◌∷◌, ◌++◌, length, get_or, take, drop, sym, ap, subst, ◌∙◌, inl, inr, arith, Option, None, Some, Result, Ok, Err}
use Rattle.std.proofs.lemmas.Bool.{false≢true}
use Rattle.std.specs.Prelude.{IfOk, IfErr, IfSome, IfNone, is_some, All}
use Rattle.std.proofs.lemmas.List.{drop_more, drop_all, map-append, length_push}
use Rattle.std.proofs.lemmas.List.Elements.{All-push}
use Rattle.std.proofs.Math.Seq.{take-append_seam}
use Rattle.fort_theory.specs.Signatures.{Signature}
use Rattle.fort_theory.specs.Patterns.{PatternSystem}
use Rattle.fort_answers.specs.FamilyRules.{FamilyRule, Ascend}
use Rattle.fort_synth.specs.declared.search.SynthFault.{SynthFault}
use Rattle.fort_synth.specs.declared.search.SynthFault.TheVariants.{Memory, Decide}
use Rattle.fort_synth.specs.CandidateRules.{no_rule, rules_at}
use Rattle.fort_synth.specs.SearchAnswers.{Test, MayAsk, MayAskAll, Answers, AnswersNoOnAll, IsFirstAnswer, IfDecide, picked_system}
use Rattle.fort_synth.specs.SearchSteps.{EachChoice, FirstChoice, IsAnswered, IsPassed, MayAskEach, FirstAnswered, IsOutcome}
use Rattle.fort_synth.proofs.SearchChoices.{each_picked, each_from_picked, first_picked}

-- ---- the whole family

pub may_ask_each : {F E : Type 0} (test : Test F E) (f : F) (signature : Signature) (family : List FamilyRule) (count : ℕ) → Ascend family
    → MayAskAll test f signature family count → MayAskEach test f signature [] count family
may_ask_each test f signature family count a all = each_from_picked (λ rules. MayAsk test f (picked_system signature rules)) family count a all

first_answer : {F E : Type 0} (test : Test F E) (f : F) (signature : Signature) (family : List FamilyRule) (count : ℕ) (answer : Result Bool E)
    (system : PatternSystem) → Ascend family → FirstAnswered test f signature answer system [] count family → IsFirstAnswer test f signature family count answer system
first_answer test f signature family count answer system a first =
    let r = first_picked (Answers test f signature (Ok false)) (IsAnswered test f signature answer system) family count a first in
    record { rules = r.rules; picked = r.picked; is = r.here.is; answered = r.here.answered; before = r.before }

pub outcome_found : {F E : Type 0} (test : Test F E) (f : F) (signature : Signature) (family : List FamilyRule) (count : ℕ)
    (r : Result (Option PatternSystem) (SynthFault E)) → Ascend family → IsOutcome test f signature [] count family r
    → IfOk r (λ o. IfSome o (λ s. IsFirstAnswer test f signature family count (Ok true) s))
outcome_found test f signature family count (Ok None) a out = tt
outcome_found test f signature family count (Ok (Some s)) a out = first_answer test f signature family count (Ok true) s a out
outcome_found test f signature family count (Err e) a out = tt

pub outcome_none : {F E : Type 0} (test : Test F E) (f : F) (signature : Signature) (family : List FamilyRule) (count : ℕ)
    (r : Result (Option PatternSystem) (SynthFault E)) → Ascend family → IsOutcome test f signature [] count family r
    → IfOk r (λ o. IfNone o (AnswersNoOnAll test f signature family count))
outcome_none test f signature family count (Ok None) a out = each_picked (Answers test f signature (Ok false)) family count a out
outcome_none test f signature family count (Ok (Some s)) a out = tt
outcome_none test f signature family count (Err e) a out = tt

pub outcome_fault : {F E : Type 0} (test : Test F E) (f : F) (signature : Signature) (family : List FamilyRule) (count : ℕ)
    (r : Result (Option PatternSystem) (SynthFault E)) → Ascend family → IsOutcome test f signature [] count family r
    → IfErr r (λ e. IfDecide e (λ s fault. IsFirstAnswer test f signature family count (Err fault) s))
outcome_fault test f signature family count (Ok o) a out = tt
outcome_fault test f signature family count (Err Memory) a out = tt
outcome_fault test f signature family count (Err (Decide s fault)) a out = first_answer test f signature family count (Err fault) s a out

-- ---- one step of the walk

-- the choices from place i on: those with its rule first, and those from the next place on
each_split : {A : Type 0} (P : List A → Type 0) (front : List A) (left k : ℕ) (xs : List A) (i : ℕ) (d : A) → left ≡ suc k → i < length xs
    → EachChoice P front left (drop i xs) → EachChoice P (front ++ get_or xs i d ∷ []) k (drop (i + 1) xs) × EachChoice P front left (drop (i + 1) xs)
each_split P front left k xs i d e low each =
    let both = subst (EachChoice P front (suc k)) (drop_more xs i d low) (subst (λ n. EachChoice P front n (drop i xs)) e each) in
    (both.0, subst (λ n. EachChoice P front n (drop (i + 1) xs)) (sym e) both.1)

each_join : {A : Type 0} (P : List A → Type 0) (front : List A) (left k : ℕ) (xs : List A) (i : ℕ) (d : A) → left ≡ suc k → i < length xs
    → EachChoice P (front ++ get_or xs i d ∷ []) k (drop (i + 1) xs) → EachChoice P front left (drop (i + 1) xs) → EachChoice P front left (drop i xs)
each_join P front left k xs i d e low here behind =
    let whole : EachChoice P front (suc k) (get_or xs i d ∷ drop (i + 1) xs) = (here, subst (λ n. EachChoice P front n (drop (i + 1) xs)) e behind) in
    subst (λ n. EachChoice P front n (drop i xs)) (sym e) (subst (EachChoice P front (suc k)) (sym (drop_more xs i d low)) whole)

each_end : {A : Type 0} (P : List A → Type 0) (front : List A) (left k : ℕ) (xs : List A) (i : ℕ) → left ≡ suc k → length xs ≤ i
    → EachChoice P front left (drop i xs)
each_end P front left k xs i e high =
    subst (λ n. EachChoice P front n (drop i xs)) (sym e) (subst (EachChoice P front (suc k)) (sym (drop_all i xs high)) tt)

first_here : {A : Type 0} (P Q : List A → Type 0) (front : List A) (left k : ℕ) (xs : List A) (i : ℕ) (d : A) → left ≡ suc k → i < length xs
    → FirstChoice P Q (front ++ get_or xs i d ∷ []) k (drop (i + 1) xs) → FirstChoice P Q front left (drop i xs)
first_here P Q front left k xs i d e low here =
    let whole : FirstChoice P Q front (suc k) (get_or xs i d ∷ drop (i + 1) xs) = inl here in
    subst (λ n. FirstChoice P Q front n (drop i xs)) (sym e) (subst (FirstChoice P Q front (suc k)) (sym (drop_more xs i d low)) whole)

first_later : {A : Type 0} (P Q : List A → Type 0) (front : List A) (left k : ℕ) (xs : List A) (i : ℕ) (d : A) → left ≡ suc k → i < length xs
    → EachChoice P (front ++ get_or xs i d ∷ []) k (drop (i + 1) xs) → FirstChoice P Q front left (drop (i + 1) xs) → FirstChoice P Q front left (drop i xs)
first_later P Q front left k xs i d e low here later =
    let whole : FirstChoice P Q front (suc k) (get_or xs i d ∷ drop (i + 1) xs) = inr (here, subst (λ n. FirstChoice P Q front n (drop (i + 1) xs)) e later) in
    subst (λ n. FirstChoice P Q front n (drop i xs)) (sym e) (subst (FirstChoice P Q front (suc k)) (sym (drop_more xs i d low)) whole)

-- ---- a turn of the walk, whose choices have the rule in place i behind the front

module _ {F E : Type 0} (test : Test F E) (f : F) (signature : Signature) (front next : List FamilyRule) (left k : ℕ) (family : List FamilyRule) (i : ℕ) (e : left ≡ suc k)
    (low : i < length family) (is : next ≡ front ++ get_or family i no_rule ∷ []) where
  abbrev Asked : List FamilyRule → Type 0
  Asked rules = MayAsk test f (picked_system signature rules)

  abbrev No : List FamilyRule → Type 0
  No = Answers test f signature (Ok false)

  pub may_ask_here : MayAskEach test f signature front left (drop i family) → MayAskEach test f signature next k (drop (i + 1) family)
  may_ask_here each = subst (λ rules. EachChoice Asked rules k (drop (i + 1) family)) (sym is) (each_split Asked front left k family i no_rule e low each).0

  pub may_ask_behind : MayAskEach test f signature front left (drop i family) → MayAskEach test f signature front left (drop (i + 1) family)
  may_ask_behind each = (each_split Asked front left k family i no_rule e low each).1

  answered_here : (start : ℕ) (answer : Result Bool E) (system : PatternSystem) → IsPassed test f signature front left family start i
      → FirstAnswered test f signature answer system next k (drop (i + 1) family) → FirstAnswered test f signature answer system front left (drop start family)
  answered_here start answer system passed first =
      passed.first answer system (first_here No (IsAnswered test f signature answer system) front left k family i no_rule e low
      (subst (λ rules. FirstAnswered test f signature answer system rules k (drop (i + 1) family)) is first))

  pub walk_found : (start : ℕ) (o : Option PatternSystem) → is_some o ≡ true → IsPassed test f signature front left family start i
      → IsOutcome test f signature next k (drop (i + 1) family) (Ok o) → IsOutcome test f signature front left (drop start family) (Ok o)
  walk_found start None some passed out = absurd (false≢true some)
  walk_found start (Some system) some passed out = answered_here start (Ok true) system passed out

  pub walk_fault : (start : ℕ) (fault : SynthFault E) → IsPassed test f signature front left family start i
      → IsOutcome test f signature next k (drop (i + 1) family) (Err fault) → IsOutcome test f signature front left (drop start family) (Err fault)
  walk_fault start Memory passed out = tt
  walk_fault start (Decide system fault) passed out = answered_here start (Err fault) system passed out

  passed_more : (start : ℕ) → IsPassed test f signature front left family start i → EachChoice No next k (drop (i + 1) family)
      → IsPassed test f signature front left family start (i + 1)
  passed_more start passed out =
      let here = subst (λ rules. EachChoice No rules k (drop (i + 1) family)) is out in record {
        each = λ behind. passed.each (each_join No front left k family i no_rule e low here behind);
        first = λ answer system later.
            passed.first answer system (first_later No (IsAnswered test f signature answer system) front left k family i no_rule e low here later);
      }

  pub walk_none : (start : ℕ) (o : Option PatternSystem) → is_some o ≡ false → IsPassed test f signature front left family start i
      → IsOutcome test f signature next k (drop (i + 1) family) (Ok o) → IsPassed test f signature front left family start (i + 1)
  walk_none start None none passed out = passed_more start passed out
  walk_none start (Some system) none passed out = absurd (false≢true (sym none))

pub passed_all : {F E : Type 0} (test : Test F E) (f : F) (signature : Signature) (front : List FamilyRule) (left k : ℕ) (family : List FamilyRule) (start i : ℕ)
    → left ≡ suc k → length family ≤ i → IsPassed test f signature front left family start i → EachChoice (Answers test f signature (Ok false)) front left (drop start family)
passed_all test f signature front left k family start i e high passed =
    passed.each (each_end (Answers test f signature (Ok false)) front left k family i e high)

-- the chosen places with one more
pub next_front : (family : List FamilyRule) (chosen before after : List ℕ) (place : ℕ) → after ≡ before ++ place ∷ [] → before ≡ chosen
    → rules_at family after ≡ rules_at family chosen ++ get_or family place no_rule ∷ []
next_front family chosen before after place pushed same =
    ap (rules_at family) (pushed ∙ ap (λ xs. xs ++ place ∷ []) same) ∙ map-append (λ k. get_or family k no_rule) chosen (place ∷ [])

pub count_next : (chosen before after : List ℕ) (place : ℕ) → after ≡ before ++ place ∷ [] → before ≡ chosen → length after ≡ length chosen + 1
count_next chosen before after place pushed same = ap length (pushed ∙ ap (λ xs. xs ++ place ∷ []) same) ∙ length_push chosen place

pub within_next : (limit : ℕ) (chosen before after : List ℕ) (place : ℕ) → after ≡ before ++ place ∷ [] → before ≡ chosen → All (λ k. k < limit) chosen → place < limit
    → All (λ k. k < limit) after
within_next limit chosen before after place pushed same all low =
    subst (All (λ k. k < limit)) (sym (pushed ∙ ap (λ xs. xs ++ place ∷ []) same)) (All-push (λ k. k < limit) chosen place all low)

-- where nothing was found, the chosen places are as before once the last is taken off
pub taken_off : {A : Type 0} (o : Option A) (chosen before after kept new : List ℕ) (place count : ℕ) → is_some o ≡ false → after ≡ before ++ place ∷ [] → before ≡ chosen
    → IfNone o (kept ≡ after) → count ≡ length kept → new ≡ take (count - 1) kept → new ≡ chosen
taken_off (Some x) chosen before after kept new place count none pushed same stays long is = absurd (false≢true (sym none))
taken_off None chosen before after kept new place count none pushed same stays long is =
    let whole : kept ≡ chosen ++ place ∷ [] = stays ∙ (pushed ∙ ap (λ xs. xs ++ place ∷ []) same) in
    let number : count - 1 ≡ length chosen = omega (arith, long, ap length whole, length_push chosen place) in
    is ∙ ((λ i. take (number i) (whole i)) ∙ take-append_seam chosen (place ∷ []))
