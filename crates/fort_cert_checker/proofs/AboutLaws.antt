-- The first step about a due, found from the front, and what it holds.
use Rattle.std.specs.Prelude.{◌≡◌, ℕ, ◌+◌, ◌<◌, ◌^◌, List, map, length, get_or, Contains, true, false}
use Rattle.std.proofs.Common.{sym, ap, ◌∙◌, subst, arith, ⊎_elim}
use Rattle.std.proofs.lemmas.Bool.{cases_lt}
use Rattle.std.proofs.lemmas.Bool.Decides.{not_from_Decides}
use Rattle.std.proofs.lemmas.List.{get_or-map}
use Rattle.fort_certificate_theory.specs.Certificates as theory
use Rattle.fort_certificate_theory.specs.Dues.{DueStep, OfPart, OfMerge, due_of}
use Rattle.fort_steps.specs.declared.step.Step.{Step}
use Rattle.fort_steps.specs.StepView.{as_step}
use Rattle.fort_cert_checker.specs.SameDue.{same_due}
use Rattle.fort_cert_checker.proofs.DueTests.{Decides-same_due}
use Rattle.fort_cert_checker.specs.Abouts.{IsFirstAbout, targets_in, classes_in}
use Rattle.fort_cert_checker.specs.Fronts.{HasFewTargets}
use Rattle.fort_cert_checker.proofs.FrontLaws.{part_of, merge_of}

at_place : (steps : List Step) (i : ℕ) (x : Step) → i < length steps → x ≡ get_or steps i x → (e : theory.Step) → get_or (map as_step steps) i e ≡ as_step x
at_place steps i x l is e = get_or-map as_step steps i x e l ∙ ap as_step (sym is)

module _ (steps : List Step) (d : DueStep) (i : ℕ) (x : Step) (inside : i < length (map as_step steps)) (within : i < length steps) (is : x ≡ get_or steps i x)
    (before : (j : ℕ) (e : theory.Step) → j < i → due_of (get_or (map as_step steps) j e) ≡ d → ⊥) where
  pub first_found : true ≡ same_due (due_of (as_step x)) d → IsFirstAbout (map as_step steps) d (as_step x)
  first_found h = record {
    place = i;
    within = inside;
    is = at_place steps i x within is;
    about = (Decides-same_due (due_of (as_step x)) d).0 (sym h);
    before = before;
  }

  pub none_more : false ≡ same_due (due_of (as_step x)) d → (j : ℕ) (e : theory.Step) → j < i + 1 → due_of (get_or (map as_step steps) j e) ≡ d → ⊥
  none_more h j e l same =
      ⊎_elim
      (λ b. before j e b same)
      (λ b.
      let here : j ≡ i = omega arith in
      not_from_Decides (same_due (due_of (as_step x)) d) (Decides-same_due (due_of (as_step x)) d) (sym h)
      (sym (ap due_of (at_place steps i x within is e)) ∙ (ap (λ k. due_of (get_or (map as_step steps) k e)) (sym here) ∙ same)))
      (cases_lt j i)

-- the targets of a part's first step are few, and so are the classes of its first merge
pub few_first : (ss : List theory.Step) (k : ℕ) (s : theory.Step) → IsFirstAbout ss (OfPart k) s → HasFewTargets ss → length (targets_in s) < 2 ^ 32
few_first ss k s f few = few.targets k (targets_in s) (subst (λ (t : theory.Step). Contains ss t) (part_of s k f.about) (f.place, f.within, f.is s))

pub few_classes : (ss : List theory.Step) (k : ℕ) (s : theory.Step) → IsFirstAbout ss (OfMerge k) s → HasFewTargets ss → length (classes_in s) < 2 ^ 32
few_classes ss k s f few = few.classes k (classes_in s) (subst (λ (t : theory.Step). Contains ss t) (merge_of s k f.about) (f.place, f.within, f.is s))
