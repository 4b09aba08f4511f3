-- Steps done one by one: another step behind them, and what is due for one more index or part.
use Rattle.std.proofs.Common.{◌≡◌, ℕ, zero, suc, ◌+◌, Bool, List, [], ◌∷◌, ◌++◌, length, refl, ap, sym, ◌∙◌, arith, subst, append_assoc, append-nil}
use Rattle.fort_theory.specs.Patterns.{PatternSystem}
use Rattle.fort_theory.specs.Cores.{Core}
use Rattle.fort_alike.specs.ListedClosures.{Star, Conv}
use Rattle.fort_certificate_theory.specs.Certificates.{Step}
use Rattle.fort_certificate_theory.specs.Dues.{DueStep, due_of, closure_due, closures_due, counts_due, answer_due, parts_due, dues_of}
use Rattle.fort_certificate_theory.specs.Made.{MadeSoFar, nothing_made}
use Rattle.fort_certificate_theory.specs.Checked.{IsFine, AreSteps, NoSteps, MoreSteps, IsUpTo, AreAllFine}

pub steps_append : (IsStep : MadeSoFar → Step → MadeSoFar → Type 0) (made mid last : MadeSoFar) (ds es : List DueStep) (ss ts : List Step) → AreSteps IsStep made ds ss mid → AreSteps IsStep mid es ts last
    → AreSteps IsStep made (ds ++ es) (ss ++ ts) last
steps_append IsStep made mid last ds es ss ts NoSteps k = k
steps_append IsStep made mid last ds es ss ts (MoreSteps {next = next} {ds = fs} {ss = us} e h more) k = MoreSteps e h (steps_append IsStep next mid last fs es us ts more k)

pub steps_push : (IsStep : MadeSoFar → Step → MadeSoFar → Type 0) (made mid last : MadeSoFar) (ds : List DueStep) (ss : List Step) (d : DueStep) (s : Step) → AreSteps IsStep made ds ss mid → due_of s ≡ d → IsStep mid s last
    → AreSteps IsStep made (ds ++ d ∷ []) (ss ++ s ∷ []) last
steps_push IsStep made mid last ds ss d s h e k = steps_append IsStep made mid last ds (d ∷ []) ss (s ∷ []) h (MoreSteps e k NoSteps)

-- the dues of n indices and one more
pub closures_due-push : (parts : List Core) (n i : ℕ) → closures_due parts (suc n) i ≡ closures_due parts n i ++ (closure_due parts (i + n) Star ++ closure_due parts (i + n) Conv)
closures_due-push parts zero i =
    let e : i ≡ i + 0 = omega arith in
    ap (λ ds. closure_due parts i Star ++ ds) (append-nil (closure_due parts i Conv)) ∙ ap (λ j. closure_due parts j Star ++ closure_due parts j Conv) e
closures_due-push parts (suc n) i =
    let e : suc i + n ≡ i + suc n = omega arith in
    let a = closure_due parts i Star in
    let b = closure_due parts i Conv in
    let rest = closures_due parts n (suc i) in
    let more = closure_due parts (suc i + n) Star ++ closure_due parts (suc i + n) Conv in
    ap (λ ds. a ++ (b ++ ds)) (closures_due-push parts n (suc i))
    ∙ (ap (λ ds. a ++ ds) (sym (append_assoc b rest more))
    ∙ (sym (append_assoc a (b ++ rest) more)
    ∙ ap (λ j. (a ++ (b ++ rest)) ++ (closure_due parts j Star ++ closure_due parts j Conv)) e))

-- the dues of some parts and one more
pub parts_due-push : (merges : ℕ → Bool) (k : ℕ) (fs : List Core) (f : Core)
    → parts_due merges k (fs ++ f ∷ []) ≡ parts_due merges k fs ++ (counts_due (k + length fs) f ++ answer_due merges (k + length fs) f)
parts_due-push merges k [] f =
    let e : k ≡ k + 0 = omega arith in
    ap (λ ds. counts_due k f ++ ds) (append-nil (answer_due merges k f)) ∙ ap (λ j. counts_due j f ++ answer_due merges j f) e
parts_due-push merges k (g ∷ fs) f =
    let e : suc k + length fs ≡ k + suc (length fs) = omega arith in
    let a = counts_due k g in
    let b = answer_due merges k g in
    let rest = parts_due merges (suc k) fs in
    let more = counts_due (suc k + length fs) f ++ answer_due merges (suc k + length fs) f in
    ap (λ ds. a ++ (b ++ ds)) (parts_due-push merges (suc k) fs f)
    ∙ (ap (λ ds. a ++ ds) (sym (append_assoc b rest more))
    ∙ (sym (append_assoc a (b ++ rest) more)
    ∙ ap (λ j. (a ++ (b ++ rest)) ++ (counts_due j f ++ answer_due merges j f)) e))

-- ---- steps that are fine up to some place

module _ (system : PatternSystem) (parts : List Core) (steps : List Step) where
  pub up_to_none : IsUpTo system parts steps [] (dues_of steps (length system.rules) parts) steps nothing_made
  up_to_none = record { done = []; dues_are = refl; steps_are = refl; fine = NoSteps }

  pub up_to_next : (front rest : List Step) (s : Step) (d : DueStep) (wanted : List DueStep) (made next : MadeSoFar) → IsUpTo system parts steps front (d ∷ wanted) (s ∷ rest) made
      → due_of s ≡ d → IsFine system parts made s next → IsUpTo system parts steps (front ++ s ∷ []) wanted rest next
  up_to_next front rest s d wanted made next u e h = record {
    done = u.done ++ d ∷ [];
    dues_are = u.dues_are ∙ sym (append_assoc u.done (d ∷ []) wanted);
    steps_are = u.steps_are ∙ sym (append_assoc front (s ∷ []) rest);
    fine = steps_push (IsFine system parts) nothing_made made next u.done front d s u.fine e h;
  }

  pub up_to_all : (front : List Step) (made : MadeSoFar) → IsUpTo system parts steps front [] [] made → AreAllFine system parts steps made
  up_to_all front made u =
      let ds : u.done ≡ dues_of steps (length system.rules) parts = sym (u.dues_are ∙ append-nil u.done) in
      let ss : front ≡ steps = sym (u.steps_are ∙ append-nil front) in
      subst (λ (xs : List DueStep). AreSteps (IsFine system parts) nothing_made xs steps made) ds (subst (λ (xs : List Step). AreSteps (IsFine system parts) nothing_made u.done xs made) ss u.fine)
