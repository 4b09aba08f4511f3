use Rattle.std.proofs.Common.{◌≡◌, ◌<◌, ℕ, Bool, false, List, map, length, get_or, refl, sym, ap, subst, ◌∙◌, arith}
use Rattle.std.specs.Prelude.{Contains}
use Rattle.std.proofs.lemmas.List.{length-map}
use Rattle.fort_outline.specs.Roots.{cores_of}
use Rattle.fort_outline.proofs.RootLaws.{length-cores_of}
use Rattle.fort_certificate_theory.specs.Dues.{DueStep, OfClosure, dues, is_merged_in, dues_of}
use Rattle.fort_formulas.specs.CoreView.{as_core}
use Rattle.fort_steps.specs.StepView.{as_step}
use Rattle.fort_dues.specs.DueView.{as_due}
use Rattle.fort_cert_checker.specs.Sources.{IsSourceOf}
use Rattle.fort_cert_checker.specs.Makings.{AreClosuresMade, ArePlansMade, AreRoomsMade, IsScratchMade, AreMarksMade}
use Rattle.fort_cert_checker.proofs.NewLaws.{index_due, dues_same}
use Rattle.fort_cert_checker.proofs.LoopKnows.{fit_part}
use Rattle.fort_cert_checker.proofs.step_checker.StepChecker.new.Goals as goal

pub steps_due-requires-clause-outline : goal.steps_due-requires-clause-outline
steps_due-requires-clause-outline c = (as_core c.args.core.now, c.in_ok-outline.ensures)

pub steps_due-requires-clause-parts : goal.steps_due-requires-clause-parts
steps_due-requires-clause-parts c =
    let numbers = c.if-not-has_all_numbers.ensures.0 refl in
    omega (arith, numbers.0, c.len.ensures, c.in_ok-outline.outline.roots.ok.0)

pub merged_parts-requires : goal.merged_parts-requires
merged_parts-requires c =
    let numbers = c.if-not-has_all_numbers.ensures.0 refl in
    omega (arith, numbers.0, c.len.ensures, c.len-2.ensures)

pub steps_due-requires-clause-merges : goal.steps_due-requires-clause-merges
steps_due-requires-clause-merges c = omega (arith, ap length c.deref.ensures.value, c.in_ok-merges.ensures.count, c.len-2.ensures, c.in_ok-outline.outline.roots.ok.0)

pub closure_plans-requires : goal.closure_plans-requires
closure_plans-requires c = λ which index among.
    let rules = c.args.system.now.rules in
    let parts = cores_of c.in_ok-outline.outline.roots.items in
    let merges : ℕ → Bool = λ k. get_or c.deref.result.now k false in
    let all : map as_due c.deref-2.result.now ≡ dues merges (length rules) parts =
    ap (map as_due) c.deref-2.ensures.value ∙ (c.in_ok-dues.ensures ∙ ap (λ n. dues merges n parts) c.number.ensures.count) in
    index_due merges rules parts which index (subst (λ (ds : List DueStep). Contains ds (OfClosure which index)) all among)

pub plans_of-requires-clause-outline : goal.plans_of-requires-clause-outline
plans_of-requires-clause-outline c = (as_core c.args.core.now, c.in_ok-outline.ensures)

pub plans_of-requires-clause-few : goal.plans_of-requires-clause-few
plans_of-requires-clause-few c =
    let numbers = c.if-not-has_all_numbers.ensures.0 refl in
    omega (arith, numbers.0, c.len.ensures, c.in_ok-outline.outline.roots.ok.0)

pub plans_of-requires-clause-fit : goal.plans_of-requires-clause-fit
plans_of-requires-clause-fit c = λ f among.
    fit_part c.args.system.now (as_core c.args.core.now) (cores_of c.in_ok-outline.outline.roots.items) c.in_ok-outline.ensures.parts c.requires f among

pub rooms_of-requires : goal.rooms_of-requires
rooms_of-requires c =
    let numbers = c.if-not-has_all_numbers.ensures.0 refl in
    let roots = c.in_ok-outline.outline.roots in
    omega (arith, numbers.0, c.len.ensures, roots.ok.0, c.len-3.ensures, c.in_ok-plans.plans.ok.0, c.in_ok-plans.ensures.count, length-cores_of roots.items)

pub scratch_for-requires-clause-few : goal.scratch_for-requires-clause-few
scratch_for-requires-clause-few c =
    let numbers = c.if-not-has_all_numbers.ensures.0 refl in
    let roots = c.in_ok-outline.outline.roots in
    omega (arith, numbers.0, c.len.ensures, roots.ok.0, ap length c.deref-3.ensures.value, c.in_ok-plans.ensures.count, length-cores_of roots.items)

pub scratch_for-requires-clause-few_targets : goal.scratch_for-requires-clause-few_targets
scratch_for-requires-clause-few_targets c = let numbers = c.if-not-has_all_numbers.ensures.0 refl in numbers.2

pub mark_rooms-requires : goal.mark_rooms-requires
mark_rooms-requires c = let numbers = c.if-not-has_all_numbers.ensures.0 refl in numbers.2

pub source_of-requires-clause-outline : goal.source_of-requires-clause-outline
source_of-requires-clause-outline c = (as_core c.args.core.now, c.in_ok-outline.ensures)

pub source_of-requires-clause-few : goal.source_of-requires-clause-few
source_of-requires-clause-few c =
    let numbers = c.if-not-has_all_numbers.ensures.0 refl in
    omega (arith, numbers.0, c.len.ensures, c.in_ok-outline.outline.roots.ok.0)

pub source_of-requires-clause-within : goal.source_of-requires-clause-within
source_of-requires-clause-within c = c.in_ok-outline.ensures.within

pub returns : goal.returns
returns c =
    let numbers = c.if-not-has_all_numbers.ensures.0 refl in
    let system = c.args.system.now in
    let rules = system.rules in
    let steps = c.args.steps.now in
    let parts = cores_of c.in_ok-outline.outline.roots.items in
    let plans = c.in_ok-plans.plans.items in
    let merges : ℕ → Bool = λ k. get_or c.deref.result.now k false in
    let merged : (k : ℕ) → k < length parts → merges k ≡ is_merged_in (map as_step steps) k =
    λ k l. ap (λ bs. get_or bs k false) c.deref.ensures.value
    ∙ c.in_ok-merges.ensures.each k false (omega (arith, l, length-cores_of c.in_ok-outline.outline.roots.items, c.len-2.ensures, c.in_ok-outline.outline.roots.ok.0)) in
    let due_are : map as_due c.in_ok-dues.dues.items ≡ dues_of (map as_step steps) (length rules) parts =
    c.in_ok-dues.ensures ∙ (ap (λ n. dues merges n parts) c.number.ensures.count ∙ dues_same merges (is_merged_in (map as_step steps)) (length rules) parts merged) in
    let plans_made : ArePlansMade system parts (map as_step steps) (length parts) plans = c.in_ok-plans.ensures in
    record {
      system_is = refl;
      first_is = refl;
      steps_are = refl;
      lawful = c.number.ensures.lawful;
      parts = parts;
      forms = omega (arith, numbers.1, length-map steps as_step);
      dues = due_are;
      ready = record {
        are = c.in_ok-outline.ensures.parts;
        decided = c.requires;
        few = numbers.2;
        plans_made = plans_made;
        rooms_made =
            let n : c.len-3.result ≡ length parts = omega (arith, c.len-3.ensures, c.in_ok-plans.plans.ok.0, plans_made.count) in
            subst (λ n. AreRoomsMade (map as_step steps) n c.in_ok-rooms.rooms.items) n c.in_ok-rooms.ensures;
        scratch_made = subst (λ n. IsScratchMade (map as_step steps) plans n c.in_ok-scratch.scratch) plans_made.count
            (subst (λ ps. IsScratchMade (map as_step steps) ps (length ps) c.in_ok-scratch.scratch) c.deref-3.ensures.value c.in_ok-scratch.ensures);
        marks_made = subst (λ n. AreMarksMade (map as_step steps) plans n c.in_ok-marks.marks.items) plans_made.count
            (subst (λ ps. AreMarksMade (map as_step steps) ps (length ps) c.in_ok-marks.marks.items) c.deref-4.ensures.value c.in_ok-marks.ensures);
        closures_made =
            let made = subst (λ ds. AreClosuresMade system (map as_due ds) (length ds) c.in_ok-closures.closures.items) c.deref-2.ensures.value c.in_ok-closures.ensures in
            let n : length c.in_ok-dues.dues.items ≡ length (dues_of (map as_step steps) (length rules) parts) = sym (length-map c.in_ok-dues.dues.items as_due) ∙ ap length due_are in
            subst (λ n. AreClosuresMade system (dues_of (map as_step steps) (length rules) parts) n c.in_ok-closures.closures.items) n
            (subst (λ ds. AreClosuresMade system ds (length c.in_ok-dues.dues.items) c.in_ok-closures.closures.items) due_are made);
      };
      root = subst (λ f. IsSourceOf parts f c.source_of.result.part c.source_of.result.turns) c.in_ok-outline.ensures.whole_is c.source_of.ensures;
    }
