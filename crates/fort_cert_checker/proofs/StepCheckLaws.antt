-- A check that has come to a place: the step there is the one that is due, or it fails there; behind the last step, all are fine.
use Rattle.std.specs.Prelude.{◌≡◌, ℕ, ◌<◌, ◌≤◌, List, [], map, take, length, get_or, nat_lt, true, false, Option, Result, Ok, Err, OnOk, IfErr, refl}
use Rattle.std.proofs.Common.{sym, ap, ◌∙◌, subst, arith}
use Rattle.std.proofs.lemmas.List.{length-map, get_or-map, get_or_default}
use Rattle.std.proofs.lemmas.Bool.Decides.{nat_tests}
use Rattle.std.specs.Vec.{with_items}
use Rattle.fort_theory.specs.Patterns.{PatternSystem}
use Rattle.fort_theory.proofs.Members.{Contains-none}
use Rattle.fort_theory.specs.Cores.{Core}
use Rattle.fort_certificate_theory.specs.Certificates.{Part}
use Rattle.fort_certificate_theory.specs.Certificates as certificates
use Rattle.fort_certificate_theory.specs.Outcomes.{Reason, Due}
use Rattle.fort_certificate_theory.specs.Dues.{DueStep, OfPart, due_of, dues_of}
use Rattle.fort_certificate_theory.specs.Made.{MadeSoFar, nothing_made}
use Rattle.fort_certificate_theory.specs.Checked.{IsFailing, IsFirstFailure}
use Rattle.fort_steps.specs.StepView.{as_step}
use Rattle.fort_steps.specs.declared.step.Step.{Step}
use Rattle.fort_dues.specs.DueView.{as_due}
use Rattle.fort_dues.specs.declared.dues.DueStep as due_program
use Rattle.fort_cert_checker.specs.SameDue.{same_due}
use Rattle.fort_cert_checker.proofs.DueTests.{Decides-same_due}
use Rattle.fort_check_steps.specs.declared.room.PartRoom.{PartRoom}
use Rattle.fort_check_steps.specs.declared.room.LabelRoom.{LabelRoom}
use Rattle.fort_check_steps.specs.declared.marks.MarkRoom.{MarkRoom}
use Rattle.fort_cert_checker.specs.declared.plan.Plan.{Plan}
use Rattle.fort_cert_checker.specs.declared.making.ClosurePlan.{ClosurePlan}
use Rattle.fort_cert_checker.specs.declared.step_checker.StepChecker.{StepChecker}
use Rattle.fort_target_lists.specs.declared.states.LayRoom.{LayRoom}
use Rattle.fort_target_lists.specs.declared.target_list.TargetList.{TargetList}
use Rattle.fort_cert_checker.specs.OperandLists.{FitsList}
use Rattle.fort_cert_checker.specs.Fronts.{IsReady, IsLoopAt, IsStepDue}
use Rattle.fort_cert_checker.specs.StepCheckers.{IsStepCheckerOf, IsStepCheckAt, IsStepCheckDone, IsFailureAt, FitsWhole}
use Rattle.fort_cert_checker.proofs.LoopLaws.{at_start, front_count, at_failing, at_not_due, at_missing, at_too_many, all_fine}

pub map_ok : {T E P Q : Type 0} (r : Result T E) → (P → Q) → OnOk r P → OnOk r Q
map_ok (Ok x) f p = f p
map_ok (Err e) f p = p

pub map_err : {T E : Type 0} {P Q : E → Type 0} (r : Result T E) → ((e : E) → P e → Q e) → IfErr r P → IfErr r Q
map_err (Ok x) f p = p
map_err (Err e) f p = f e p

-- what is read at a place
pub read_at : {A : Type 0} (xs ys : List A) (n : ℕ) (x : A) → ys ≡ xs → n < length xs → x ≡ get_or ys n x → (t : A) → get_or xs n t ≡ x
read_at xs ys n x e l r t = get_or_default xs n t x l ∙ (ap (λ zs. get_or zs n x) (sym e) ∙ sym r)

-- the step and what is due at a place
pub record AreRead (a : StepChecker) (n : ℕ) (d : due_program.DueStep) (s : Step) : Type 0 where
  pub due_is : (e : due_program.DueStep) → get_or a.dues.items n e ≡ d
  pub low : n < length a.steps.now
  pub step_is : (t : Step) → get_or a.steps.now n t ≡ s

pub are_read : (a : StepChecker) (n : ℕ) (d : due_program.DueStep) (s : Step) → true ≡ nat_lt n (length a.steps.now) → s ≡ get_or a.steps.now n s
    → n < length a.dues.items → d ≡ get_or a.dues.items n d → AreRead a n d s
are_read a n d s test step low due =
    let l : n < length a.steps.now = grind (arith, nat_tests) in
    record {
      due_is = read_at a.dues.items a.dues.items n d refl low due;
      low = l;
      step_is = read_at a.steps.now a.steps.now n s refl l step;
    }

module _ (system : PatternSystem) (f : Core) (first : ℕ) (ss : List certificates.Step) (a : StepChecker) (h : IsStepCheckerOf system f first ss a) where
  abbrev all_due : List DueStep
  all_due = dues_of ss (length system.rules) h.parts

  pub given_steps : ss ≡ map as_step a.steps.now
  given_steps = sym h.steps_are

  pub step_count : length ss ≡ length a.steps.now
  step_count = ap length given_steps ∙ length-map a.steps.now as_step

  due_count : length all_due ≡ length a.dues.items
  due_count = ap length (sym h.dues) ∙ length-map a.dues.items as_due

  -- Result
  pub start : IsStepCheckAt system f first ss a 0 nothing_made
  start = record {
    checker = h;
    loop = record {
      ready = h.ready;
      place = at_start system h.parts ss;
      held = λ j targets among. absurd (Contains-none (Part j targets) among);
    };
  }

  -- with other rooms
  abbrev pub with_rooms : List (Option ClosurePlan) → List PartRoom → LabelRoom → List MarkRoom → StepChecker
  with_rooms closures rooms scratch marks = record {
    system = a.system;
    first = a.first;
    steps = a.steps;
    root = a.root;
    dues = a.dues;
    closures = with_items a.closures closures;
    plans = a.plans;
    rooms = with_items a.rooms rooms;
    scratch = scratch;
    marks = with_items a.marks marks;
  }

  module _ (plans : List Plan) (plans_are : plans ≡ a.plans.items) where
    to_given : (P : PatternSystem → List Plan → Type 0) → P system a.plans.items → P a.system.now plans
    to_given P x = subst (λ ps. P a.system.now ps) (sym plans_are) (subst (λ s. P s a.plans.items) (sym h.system_is) x)

    from_given : (P : PatternSystem → List Plan → Type 0) → P a.system.now plans → P system a.plans.items
    from_given P x = subst (λ ps. P system ps) plans_are (subst (λ s. P s plans) h.system_is x)

    -- Result
    pub loop_given : (closures : List (Option ClosurePlan)) (rooms : List PartRoom) (marks : List MarkRoom) (n : ℕ) (made : MadeSoFar) → closures ≡ a.closures.items → rooms ≡ a.rooms.items → marks ≡ a.marks.items
        → IsLoopAt system f h.parts ss a.plans.items a.closures.items a.rooms.items a.scratch a.marks.items n made → IsLoopAt a.system.now f h.parts ss plans closures rooms a.scratch marks n made
    loop_given closures rooms marks n made closures_are rooms_are marks_are at =
        to_given (λ s ws. IsLoopAt s f h.parts ss ws closures rooms a.scratch marks n made)
        (subst (λ ms. IsLoopAt system f h.parts ss a.plans.items closures rooms a.scratch ms n made) (sym marks_are)
        (subst (λ rs. IsLoopAt system f h.parts ss a.plans.items closures rs a.scratch a.marks.items n made) (sym rooms_are)
        (subst (λ cs. IsLoopAt system f h.parts ss a.plans.items cs a.rooms.items a.scratch a.marks.items n made) (sym closures_are) at)))

    -- Result
    pub due_given : (n : ℕ) → IsStepDue system h.parts ss n → IsStepDue a.system.now h.parts ss n
    due_given n d = to_given (λ s ws. IsStepDue s h.parts ss n) d

    -- Result
    pub failing_given : (made : MadeSoFar) (s : certificates.Step) (place : ℕ) (reason : Reason) → IsFailing a.system.now h.parts made s place reason → IsFailing system h.parts made s place reason
    failing_given made s place reason k = from_given (λ t ws. IsFailing t h.parts made s place reason) k

    module _ (closures : List (Option ClosurePlan)) (rooms : List PartRoom) (scratch : LabelRoom) (marks : List MarkRoom) (closures_in : (with_items a.closures closures).items ≡ closures)
        (rooms_in : (with_items a.rooms rooms).items ≡ rooms) (marks_in : (with_items a.marks marks).items ≡ marks) where
      put_in : (P : List (Option ClosurePlan) → List PartRoom → List MarkRoom → Type 0) → P closures rooms marks
          → P (with_items a.closures closures).items (with_items a.rooms rooms).items (with_items a.marks marks).items
      put_in P x =
          subst (λ ms. P (with_items a.closures closures).items (with_items a.rooms rooms).items ms) (sym marks_in)
          (subst (λ rs. P (with_items a.closures closures).items rs marks) (sym rooms_in) (subst (λ cs. P cs rooms marks) (sym closures_in) x))

      -- Result
      pub ready_after : IsReady a.system.now f h.parts ss plans closures rooms scratch marks → IsStepCheckerOf system f first ss (with_rooms closures rooms scratch marks)
      ready_after r = record {
        system_is = h.system_is;
        first_is = h.first_is;
        steps_are = h.steps_are;
        lawful = h.lawful;
        parts = h.parts;
        forms = h.forms;
        dues = h.dues;
        ready = put_in (λ cs rs ms. IsReady system f h.parts ss a.plans.items cs rs scratch ms)
            (from_given (λ s ws. IsReady s f h.parts ss ws closures rooms scratch marks) r);
        root = h.root;
      }

      -- Result
      pub loop_after : (n : ℕ) (made : MadeSoFar) → IsLoopAt a.system.now f h.parts ss plans closures rooms scratch marks n made → IsStepCheckAt system f first ss (with_rooms closures rooms scratch marks) n made
      unfolding ready_after
      loop_after n made l = record {
        checker = ready_after l.ready;
        loop = put_in (λ cs rs ms. IsLoopAt system f h.parts ss a.plans.items cs rs scratch ms n made)
            (from_given (λ s ws. IsLoopAt s f h.parts ss ws closures rooms scratch marks n made) l);
      }

  module _ (n : ℕ) (made : MadeSoFar) (at : IsLoopAt system f h.parts ss a.plans.items a.closures.items a.rooms.items a.scratch a.marks.items n made) where
    fails_there : (place : ℕ) (reason : Reason) → IsFirstFailure system h.parts ss (take n ss) place reason → IsFailureAt system f ss n place reason
    fails_there place reason k = record { parts = h.parts; parts_are = h.ready.are; front = take n ss; count = front_count system h.parts ss n made at.place; failure = k }

    module _ (low : n < length a.dues.items) where
      due_low : n < length all_due
      due_low = omega (arith, due_count)

      -- Result
      pub missing : length a.steps.now ≤ n → IsFailureAt system f ss n 0 Due
      missing l = fails_there 0 Due
          (at_missing system h.parts ss n made at.place (get_or all_due n (OfPart 0)) due_low (sym (get_or_default all_due n (OfPart 0) (get_or all_due n (OfPart 0)) due_low)) (omega (arith, step_count)))

      module _ (d : due_program.DueStep) (s : Step) (r : AreRead a n d s) where
        due_there : (e : DueStep) → get_or all_due n e ≡ as_due d
        due_there e = ap (λ ds. get_or ds n e) (sym h.dues) ∙ (get_or-map as_due a.dues.items n d e low ∙ ap as_due (r.due_is d))

        step_there : (t : certificates.Step) → get_or ss n t ≡ as_step s
        step_there t = ap (λ ts. get_or ts n t) given_steps ∙ (get_or-map as_step a.steps.now n s t r.low ∙ ap as_step (r.step_is s))

        low_step : n < length ss
        low_step = omega (arith, step_count, r.low)

        -- Result
        pub not_due : same_due (due_of (as_step s)) (as_due d) ≡ false → IsFailureAt system f ss n 0 Due
        not_due other = fails_there 0 Due
            (at_not_due system h.parts ss n made at.place (as_due d) due_low (due_there (as_due d)) (as_step s) low_step (step_there (as_step s))
            (λ e. let yes = (Decides-same_due (due_of (as_step s)) (as_due d)).1 e in absurd cc))

        module _ (own : same_due (due_of (as_step s)) (as_due d) ≡ true) where
          same : due_of (as_step s) ≡ as_due d
          same = (Decides-same_due (due_of (as_step s)) (as_due d)).0 own

          -- Result
          pub is_due : IsStepDue system h.parts ss n
          is_due = record {
            low = low_step;
            due_low = due_low;
            about = λ t e. ap due_of (step_there t) ∙ (same ∙ sym (due_there e));
          }

          -- Result
          pub fails : (place : ℕ) (reason : Reason) → ((t : certificates.Step) → IsFailing system h.parts made (get_or ss n t) place reason) → IsFailureAt system f ss n place reason
          fails place reason k = fails_there place reason
              (at_failing system h.parts ss n made at.place (as_due d) due_low (due_there (as_due d)) (as_step s) low_step (step_there (as_step s)) same place reason
              (subst (λ t. IsFailing system h.parts made t place reason) (step_there (as_step s)) (k (as_step s))))

    module _ (whole : length a.dues.items ≤ n) where
      due_whole : length all_due ≤ n
      due_whole = omega (arith, due_count)

      -- Result
      pub too_many : n < length a.steps.now → IsFailureAt system f ss n 0 Due
      too_many l =
          let low : n < length ss = omega (arith, step_count) in
          let s = get_or ss n (Part 0 []) in
          fails_there 0 Due (at_too_many system h.parts ss n made at.place due_whole s low (sym (get_or_default ss n (Part 0 []) s low)))

      -- Result
      pub done : length a.steps.now ≤ n → IsStepCheckDone system f first ss a made
      done l =
          let last : n ≡ length ss = omega (arith, step_count, at.place.within) in
          record {
            checker = h;
            loop = subst (λ k. IsLoopAt system f h.parts ss a.plans.items a.closures.items a.rooms.items a.scratch a.marks.items k made) last at;
            fine = all_fine system h.parts ss n made at.place due_whole (omega (arith, step_count));
          }

-- the lists of the whole formula's table stay as roomy
pub fits_along : (old new : StepChecker) → new.steps ≡ old.steps → new.root ≡ old.root → (list : TargetList) (lay : LayRoom) → FitsWhole old list lay → FitsWhole new list lay
fits_along old new steps root list lay h =
    subst (λ s. FitsList (map as_step new.steps.now) s list lay) (sym root) (subst (λ xs. FitsList (map as_step xs.now) old.root list lay) (sym steps) h)
