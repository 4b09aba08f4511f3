-- One more step at a place: what it needs is there, and behind it the rooms hold on.
use Rattle.std.specs.Prelude.{◌≡◌, ℕ, zero, suc, ◌+◌, ◌<◌, List, [], ◌∷◌, ◌++◌, take, drop, set, map, length, get_or, Contains, Option, ◌⊎◌, Bool, IsFalse, Result, Ok, Err, OnOk, IfErr, refl}
use Rattle.std.proofs.Common.{sym, ap, ◌∙◌, subst, arith, inl, inr, true≢false, ⊎_elim, Vec, Global}
use Rattle.std.proofs.lemmas.Bool.{cases_eq}
use Rattle.std.proofs.lemmas.List.{length-set, length-take-le, take_more}
use Rattle.std.proofs.lemmas.List.Elements.{Contains-append_left, Contains-get_or, Contains-push, Contains-push_cases}
use Rattle.fort_theory.specs.Patterns.{PatternSystem}
use Rattle.fort_theory.specs.Cores as core
use Rattle.fort_theory.specs.Cores.{Core}
use Rattle.fort_alike.specs.ListedClosures.{Which, Pair as Item}
use Rattle.fort_certificate_theory.specs.Certificates.{Step, Closure, Part, Merge, Counts, Value}
use Rattle.fort_certificate_theory.specs.Dues.{DueStep, OfClosure, OfPart, OfMerge, due_of, dues_of}
use Rattle.fort_certificate_theory.specs.Outcomes.{Reason, StepOutcome, Fine, Fails}
use Rattle.fort_certificate_theory.specs.Made.{MadeSoFar, with_closure}
use Rattle.fort_certificate_theory.specs.Checked.{IsClosureJudged, IsFine, FineClosure, IsFailing, FailingClosure, IsUpTo}
use Rattle.fort_check_steps.specs.declared.failure.Failure.{Failure}
use Rattle.fort_check_steps.specs.StepAnswers.{as_reason, outcome_of}
use Rattle.fort_findings.specs.declared.count.Count.{Count}
use Rattle.fort_steps.specs.declared.step.Step as steps
use Rattle.fort_steps.specs.declared.step.Step.TheVariants as variants
use Rattle.fort_steps.specs.StepView.{as_step}
use Rattle.fort_check_steps.specs.declared.room.PartRoom.{PartRoom}
use Rattle.fort_check_steps.specs.declared.room.LabelRoom.{LabelRoom}
use Rattle.fort_check_steps.specs.declared.marks.MarkRoom.{MarkRoom}
use Rattle.fort_cert_checker.specs.declared.plan.Plan.{Plan}
use Rattle.fort_cert_checker.specs.declared.making.ClosurePlan.{ClosurePlan}
use Rattle.fort_cert_checker.specs.Abouts.{IsOnlyAbout, classes_in}
use Rattle.fort_cert_checker.proofs.ListLaws.{lists_kept}
use Rattle.fort_cert_checker.specs.Pasts.{IsElement, IsMarkRoomFor}
use Rattle.fort_check_steps.specs.Room.{IsAsRoomy, most_states}
use Rattle.fort_check_steps.proofs.RoomLaws.{still_room, still_leader_room}
use Rattle.fort_cert_checker.specs.Makings.{AreMade, IsClosureFor, IsRoomFor, IsScratchFor}
use Rattle.fort_cert_checker.specs.Fronts.{IsAtPlace, IsRoomHeld, AreHeld, IsReady, IsLoopAt, IsStepDue, IsOwnDue, IsDueBehind, IsNewlyHeld, IsHeldAfter, IsFineStep, part_in}
use Rattle.fort_cert_checker.proofs.DueKeys.{key}
use Rattle.fort_cert_checker.proofs.FrontLaws.{merge_of}
use Rattle.fort_cert_checker.proofs.FrontTells.{answer_kept}
use Rattle.fort_cert_checker.proofs.FrontKnows.{later_key, only_front, only_due}
use Rattle.fort_cert_checker.proofs.LoopLaws.{at_step, at_next}
use Rattle.fort_cert_checker.proofs.LoopKnows.{IsNoClosure, own_within, own_due}

-- ---- a list with one element set

set_own : {A : Type 0} (xs : List A) (k : ℕ) (x d : A) → k < length xs → get_or (set xs k x) k d ≡ x
set_own [] k x d l = absurd (omega arith)
set_own (y ∷ xs) zero x d l = refl
set_own (y ∷ xs) (suc k) x d l = set_own xs k x d (omega arith)

set_other : {A : Type 0} (xs : List A) (k j : ℕ) (x d : A) → (j ≡ k → ⊥) → get_or (set xs k x) j d ≡ get_or xs j d
set_other [] k j x d apart = refl
set_other (y ∷ xs) zero zero x d apart = absurd (apart refl)
set_other (y ∷ xs) zero (suc j) x d apart = refl
set_other (y ∷ xs) (suc k) zero x d apart = refl
set_other (y ∷ xs) (suc k) (suc j) x d apart = set_other xs k j x d (λ e. apart (ap suc e))

set_behind : {A : Type 0} (front back : List A) (x : A) → front ++ set back 0 x ≡ set (front ++ back) (length front) x
set_behind [] back x = refl
set_behind (y ∷ front) back x = ap (λ zs. y ∷ zs) (set_behind front back x)

take_at : {A : Type 0} (xs : List A) (k j : ℕ) (d : A) → j < k → get_or (take k xs) j d ≡ get_or xs j d
take_at xs zero j d l = absurd (omega arith)
take_at [] (suc k) j d l = refl
take_at (y ∷ xs) (suc k) zero d l = refl
take_at (y ∷ xs) (suc k) (suc j) d l = take_at xs k j d (omega arith)

map_at : {A B : Type 0} (f : A → B) (xs : List A) (n : ℕ) (d : A) (e : B) → n < length (map f xs) → get_or (map f xs) n e ≡ f (get_or xs n d)
map_at f [] n d e l = absurd (omega arith)
map_at f (x ∷ xs) zero d e l = refl
map_at f (x ∷ xs) (suc n) d e l = map_at f xs n d e (omega arith)

pub step_at : (xs : List steps.Step) (ss : List Step) (n : ℕ) (d : steps.Step) (e : Step) → ss ≡ map as_step xs → n < length ss → get_or ss n e ≡ as_step (get_or xs n d)
step_at xs ss n d e same l = ap (λ (zs : List Step). get_or zs n e) same ∙ map_at as_step xs n d e (omega (arith, l, ap length same))

get_same : {A : Type 0} (xs : List A) (k : ℕ) (d e : A) → k < length xs → get_or xs k d ≡ get_or xs k e
get_same [] k d e l = absurd (omega arith)
get_same (x ∷ xs) zero d e l = refl
get_same (x ∷ xs) (suc k) d e l = get_same xs k d e (omega arith)

pub element_at : {A : Type 0} (xs : List A) (k : ℕ) (e : A) → k < length xs → IsElement xs k (get_or xs k e)
element_at xs k e l = (l, λ d. get_same xs k d e l)

behind_at : {A : Type 0} (front back : List A) (d e : A) → 0 < length back → get_or (front ++ back) (length front) d ≡ get_or back 0 e
behind_at [] [] d e l = absurd (omega arith)
behind_at [] (x ∷ back) d e l = refl
behind_at (y ∷ front) back d e l = behind_at front back d e l

pub first_behind : {A : Type 0} (xs front back : List A) (k : ℕ) (e : A) → xs ≡ front ++ back → length front ≡ k → 0 < length back → k < length xs → IsElement xs k (get_or back 0 e)
first_behind {A = A} xs front back k e whole count some low = (
  low,
  λ d.
      ap (λ (zs : List A). get_or zs k d) whole ∙ (ap (λ i. get_or (front ++ back) i d) (sym count) ∙ behind_at front back d e some),
)

pub set_first_behind : {A : Type 0} (xs front back : List A) (k : ℕ) (x : A) → xs ≡ front ++ back → length front ≡ k → front ++ set back 0 x ≡ set xs k x
set_first_behind xs front back k x whole count = set_behind front back x ∙ (ap (λ i. set (front ++ back) i x) count ∙ ap (λ zs. set zs k x) (sym whole))

made_again : {A : Type 0} (P : ℕ → A → Type 0) (n : ℕ) (xs : List A) (k : ℕ) (x : A) → AreMade P n xs → P k x → AreMade P n (set xs k x)
made_again P n xs k x h one = record {
  count = length-set xs k x ∙ h.count;
  each = λ j d l. ⊎_elim
      (λ (e : j ≡ k). subst (P j) (sym (ap (λ i. get_or (set xs k x) i d) e ∙ set_own xs k x d (omega (arith, e, l, h.count)))) (subst (λ (i : ℕ). P i x) (sym e) one))
      (λ apart. subst (P j) (sym (set_other xs k j x d apart)) (h.each j d l))
      (cases_eq j k);
}

element_kept : {A : Type 0} (xs : List A) (k j : ℕ) (x y : A) → (j ≡ k → ⊥) → IsElement xs j y → IsElement (set xs k x) j y
element_kept xs k j x y apart h = (omega (arith, length-set xs k x, h.0), λ d. set_other xs k j x d apart ∙ h.1 d)

scratch_kept : (ss : List Step) (k : ℕ) (p : Plan) (old new : LabelRoom) → IsAsRoomy old new → IsScratchFor ss k p old → IsScratchFor ss k p new
scratch_kept ss k p old new keep h = record {
  width = h.width;
  is_width = h.is_width;
  sized = λ targets only. still_room (h.sized targets only) keep;
  lists = lists_kept ss p.work old.lists new.lists keep.lists h.lists;
  leaders = λ targets only is. still_leader_room (h.leaders targets only is) keep;
}

-- the part that a step names
pub named : (s : steps.Step) (k : ℕ)
    → ((xs : Vec ℕ Global) × (s ≡ variants.Part k xs))
    ⊎ (((xs : Vec ℕ Global) × (s ≡ variants.Merge k xs)) ⊎ (((xs : Vec Count Global) × (s ≡ variants.Counts k xs)) ⊎ ((b : Bool) × (s ≡ variants.Value k b))))
    → (part_in (as_step s) ≡ k) × IsNoClosure (due_of (as_step s))
named s k h =
    ⊎_elim
    (λ a. subst (λ (t : steps.Step). (part_in (as_step t) ≡ k) × IsNoClosure (due_of (as_step t))) (sym a.1) (refl, tt))
    (λ b. ⊎_elim
    (λ a. subst (λ (t : steps.Step). (part_in (as_step t) ≡ k) × IsNoClosure (due_of (as_step t))) (sym a.1) (refl, tt))
    (λ x. ⊎_elim
    (λ a. subst (λ (t : steps.Step). (part_in (as_step t) ≡ k) × IsNoClosure (due_of (as_step t))) (sym a.1) (refl, tt))
    (λ a. subst (λ (t : steps.Step). (part_in (as_step t) ≡ k) × IsNoClosure (due_of (as_step t))) (sym a.1) (refl, tt))
    x)
    b)
    h

-- a part before the step's is another one, but for its own merge
apart_own : (n : ℕ) (s : Step) (j : ℕ) → IsNoClosure (due_of s) → key n (OfPart j) < key n (due_of s) → (due_of s ≡ OfMerge j → ⊥) → j ≡ part_in s → ⊥
apart_own n (Closure w i xs) j plain l other e = plain
apart_own n (Part k targets) j plain l other e = omega (arith, l, e)
apart_own n (Merge k classes) j plain l other e = other (ap OfMerge (sym e))
apart_own n (Counts k marks) j plain l other e = omega (arith, l, e)
apart_own n (Value k value) j plain l other e = omega (arith, l, e)

merge_or_other : (s : Step) (j : ℕ) → (due_of s ≡ OfMerge j) ⊎ (due_of s ≡ OfMerge j → ⊥)
merge_or_other (Closure w i xs) j = inr (λ e. cc)
merge_or_other (Part k targets) j = inr (λ e. cc)
merge_or_other (Merge k classes) j = ⊎_elim (λ (e : k ≡ j). inl (ap OfMerge e)) (λ apart. inr (λ e. apart (let same : k ≡ j = cc in same))) (cases_eq k j)
merge_or_other (Counts k marks) j = inr (λ e. cc)
merge_or_other (Value k value) j = inr (λ e. cc)

module _ (system : PatternSystem) (root : Core) (parts : List Core) (ss : List Step) (plans : List Plan) (closures : List (Option ClosurePlan)) (rooms : List PartRoom) (scratch : LabelRoom) (marks : List MarkRoom) (n : ℕ) (made : MadeSoFar)
    (h : IsLoopAt system root parts ss plans closures rooms scratch marks n made) (due : IsStepDue system parts ss n) (s : Step) (is : get_or ss n s ≡ s) where
  due_is : get_or (dues_of ss (length system.rules) parts) n (due_of s) ≡ due_of s
  due_is = sym (due.about s (due_of s)) ∙ ap due_of is

  up : IsUpTo system parts ss (take n ss) (due_of s ∷ drop (n + 1) (dues_of ss (length system.rules) parts)) (s ∷ drop (n + 1) ss) made
  up = at_step system parts ss n made h.place (due_of s) due.due_low due_is s due.low is

  alone : IsOnlyAbout ss s
  alone = only_due system parts ss (take n ss) (drop (n + 1) ss) s (due_of s) (drop (n + 1) (dues_of ss (length system.rules) parts)) made up refl

  there : Contains ss s
  there = subst (Contains ss) is (Contains-get_or ss n s due.low)

  before : (t : Step) → Contains (take n ss) t → key (length system.rules) (due_of t) < key (length system.rules) (due_of s)
  before = later_key system parts ss (take n ss) (drop (n + 1) ss) s (due_of s) (drop (n + 1) (dues_of ss (length system.rules) parts)) made up refl

  place_next : (next : MadeSoFar) → IsFine system parts made s next → IsAtPlace system parts ss (n + 1) next
  place_next next fine = at_next system parts ss n made h.place (due_of s) due.due_low due_is s due.low is root h.ready.are refl next fine

  more : take (n + 1) ss ≡ take n ss ++ s ∷ []
  more = take_more ss n s due.low ∙ ap (λ x. take n ss ++ x ∷ []) is

  -- what stands in front now stood there before, or is the step
  front_or_step : (t : Step) → Contains (take (n + 1) ss) t → Contains (take n ss) t ⊎ (s ≡ t)
  front_or_step t m = Contains-push_cases (take n ss) s t (subst (λ (xs : List Step). Contains xs t) more m)

  in_front : (t : Step) → Contains (take n ss) t → Contains (take (n + 1) ss) t
  in_front t m = subst (λ (xs : List Step). Contains xs t) (sym more) (Contains-append_left (take n ss) (s ∷ []) t m)

  step_in_front : Contains (take (n + 1) ss) s
  step_in_front = subst (λ (xs : List Step). Contains xs s) (sym more) (Contains-push (take n ss) s)

  -- a part whose merge this isn't
  held_on : (others : List PartRoom) (next : MadeSoFar) → IsFine system parts made s next → (j : ℕ) (targets : List ℕ) → Contains (take n ss) (Part j targets) → (due_of s ≡ OfMerge j → ⊥)
      → ((r : PartRoom) → IsElement rooms j r → IsElement others j r) → IsRoomHeld system parts others (take (n + 1) ss) next j targets
  held_on others next fine j targets m other keep =
      let r = h.held j targets m in
      let old : (classes : List ℕ) → Contains (take (n + 1) ss) (Merge j classes) → Contains (take n ss) (Merge j classes) =
      λ classes x. ⊎_elim (λ y. y) (λ e. absurd (other (ap due_of e))) (front_or_step (Merge j classes) x) in
      record {
        room = r.room;
        table = r.table;
        room_at = keep r.room r.room_at;
        held = r.held;
        made_is = answer_kept (length system.rules) system root parts h.ready.are j s made next (before (Part j targets) m) other fine ∙ r.made_is;
        merged = λ is_merged. let w = r.merged is_merged in (w.0, in_front (Merge j w.0) w.1);
        plain_states = λ none. r.plain_states (λ classes x. none classes (in_front (Merge j classes) x));
        merged_states = λ classes x. r.merged_states classes (old classes x);
      }

  -- the rooms hold on
  held_next : (others : List PartRoom) (next : MadeSoFar) → IsFine system parts made s next
      → ((j : ℕ) (r : PartRoom) → key (length system.rules) (OfPart j) < key (length system.rules) (due_of s) → (due_of s ≡ OfMerge j → ⊥) → IsElement rooms j r → IsElement others j r)
      → ((j : ℕ) (targets : List ℕ) → s ≡ Part j targets → IsRoomHeld system parts others (take (n + 1) ss) next j targets)
      → ((j : ℕ) (targets : List ℕ) → Contains (take n ss) (Part j targets) → due_of s ≡ OfMerge j → IsRoomHeld system parts others (take (n + 1) ss) next j targets)
      → AreHeld system parts others (take (n + 1) ss) next
  held_next others next fine old own merge = λ j targets m.
      ⊎_elim
      (λ a. ⊎_elim
      (λ e. merge j targets a e)
      (λ other. held_on others next fine j targets a other (λ r x. old j r (before (Part j targets) a) other x))
      (merge_or_other s j))
      (λ e. own j targets e)
      (front_or_step (Part j targets) m)

  -- ---- of a part

  module _ (k : ℕ) (named_is : part_in s ≡ k) (plain : IsNoClosure (due_of s)) where
    pub within : k < length parts
    within =
        let l = own_within system root parts ss plans rooms (take n ss) (drop (n + 1) ss) s (due_of s) (drop (n + 1) (dues_of ss (length system.rules) parts)) made up h.ready.are h.ready.decided h.place.tells h.held
        h.ready.plans_made h.ready.few s refl plain in
        omega (arith, l, named_is)

    pub plan_low : k < length plans
    plan_low = omega (arith, within, h.ready.plans_made.count)

    pub room_low : k < length rooms
    room_low = omega (arith, within, h.ready.rooms_made.count)

    pub mark_low : k < length marks
    mark_low = omega (arith, within, h.ready.marks_made.count)

    module _ (p : Plan) (room : PartRoom) (mark : MarkRoom) (plan_at : IsElement plans k p) (room_at : IsElement rooms k room) (mark_at : IsElement marks k mark) where
      own_room : IsRoomFor ss k room
      own_room = subst (IsRoomFor ss k) (room_at.1 room) (h.ready.rooms_made.each k room within)

      own_scratch : IsScratchFor ss k p scratch
      own_scratch = subst (λ (q : Plan). IsScratchFor ss k q scratch) (plan_at.1 p) (h.ready.scratch_made k p within)

      own_mark : IsMarkRoomFor ss p.work mark
      own_mark = subst (IsMarkRoomFor ss p.work) (mark_at.1 mark) (subst (λ (q : Plan). IsMarkRoomFor ss q.work (get_or marks k mark)) (plan_at.1 p) (h.ready.marks_made.each k mark within p))

      pub behind : (front : List PartRoom) (f : Core) → front ≡ take k rooms → f ≡ get_or parts k core.True → IsDueBehind system parts ss plans front made f p s room scratch mark
      behind front f front_is f_is = λ past past_is.
          let low : (j : ℕ) (r : PartRoom) → j < part_in s → IsElement rooms j r → IsElement past.rooms.now j r =
          λ j r l e. subst (λ (rs : List PartRoom). IsElement rs j r) (sym (past_is.rooms_are ∙ front_is))
          (omega (arith, l, named_is, length-take-le k rooms (omega (arith, room_low))), λ d. take_at rooms k j d (omega (arith, l, named_is)) ∙ e.1 d) in
          subst (λ (g : Core). IsOwnDue system parts past made g p s room scratch mark) (ap (λ (i : ℕ). get_or parts i core.True) named_is ∙ sym f_is)
          (own_due system root parts ss plans rooms (take n ss) (drop (n + 1) ss) s (due_of s) (drop (n + 1) (dues_of ss (length system.rules) parts)) made up h.ready.are h.ready.decided h.place.tells h.held
          h.ready.plans_made h.ready.few past past_is.signature past_is.steps past_is.plans_are p room scratch mark own_mark s refl plain there alone low
          (subst (λ (i : ℕ). IsElement plans i p) (sym named_is) plan_at) (subst (λ (i : ℕ). IsElement rooms i room) (sym named_is) room_at) (subst (λ (i : ℕ). IsRoomFor ss i room) (sym named_is) own_room)
          (subst (λ (i : ℕ). IsScratchFor ss i p scratch) (sym named_is) own_scratch))

      -- behind the step
      module _ (new_room : PartRoom) (new_scratch : LabelRoom) (new_mark : MarkRoom) (keeps_room : (ts : List Step) → IsOnlyAbout ts s → IsRoomFor ts (part_in s) room → IsRoomFor ts (part_in s) new_room)
          (keeps_scratch : IsAsRoomy scratch new_scratch) (keeps_mark : IsMarkRoomFor ss p.work new_mark) where
        pub part_ready : IsReady system root parts ss plans closures (set rooms k new_room) new_scratch (set marks k new_mark)
        part_ready =
            let kept : IsRoomFor ss k new_room =
            subst (λ (i : ℕ). IsRoomFor ss i new_room) named_is (keeps_room ss alone (subst (λ (i : ℕ). IsRoomFor ss i room) (sym named_is) own_room)) in
            record {
              are = h.ready.are;
              decided = h.ready.decided;
              few = h.ready.few;
              plans_made = h.ready.plans_made;
              rooms_made = made_again (IsRoomFor ss) (length parts) rooms k new_room h.ready.rooms_made kept;
              scratch_made = λ j d l. scratch_kept ss j (get_or plans j d) scratch new_scratch keeps_scratch (h.ready.scratch_made j d l);
              marks_made = made_again (λ j r. (d : Plan) → IsMarkRoomFor ss (get_or plans j d).work r) (length parts) marks k new_mark h.ready.marks_made
                  (λ d. subst (λ (q : Plan). IsMarkRoomFor ss q.work new_mark) (sym (plan_at.1 d)) keeps_mark);
              closures_made = h.ready.closures_made;
            }

        new_at : (j : ℕ) → j ≡ k → IsElement (set rooms k new_room) j new_room
        new_at j e = subst (λ (i : ℕ). IsElement (set rooms k new_room) i new_room) (sym e) (omega (arith, length-set rooms k new_room, room_low), λ d. set_own rooms k new_room d room_low)

        -- behind the targets of part j
        part_held : (next : MadeSoFar) (j : ℕ) (targets : List ℕ) → s ≡ Part j targets → IsNewlyHeld system parts next j targets (most_states targets) new_room × IsFalse new_room.is_merged
            → IsRoomHeld system parts (set rooms k new_room) (take (n + 1) ss) next j targets
        part_held next j targets e w =
            let none : (classes : List ℕ) → Contains (take (n + 1) ss) (Merge j classes) → ⊥ =
            λ classes x. ⊎_elim
            (λ y. let l = before (Merge j classes) y in let about : key (length system.rules) (due_of s) ≡ key (length system.rules) (OfPart j) = ap (λ (t : Step). key (length system.rules) (due_of t)) e in omega (arith, l, about))
            (λ y. let z : Part j targets ≡ Merge j classes = sym e ∙ y in absurd cc)
            (front_or_step (Merge j classes) x) in
            record {
              room = new_room;
              table = w.0.table;
              room_at = new_at j (sym (ap part_in e) ∙ named_is);
              held = w.0.held;
              made_is = w.0.made_is;
              merged = λ is_merged. absurd (true≢false (sym is_merged ∙ w.1));
              plain_states = λ x. w.0.states_are;
              merged_states = λ classes x. absurd (none classes x);
            }

        -- behind the classes of part j
        merge_held : (next : MadeSoFar) (j : ℕ) (targets classes : List ℕ) → s ≡ Merge j classes → IsNewlyHeld system parts next j targets (most_states classes) new_room
            → IsRoomHeld system parts (set rooms k new_room) (take (n + 1) ss) next j targets
        merge_held next j targets classes e w =
            let there_is : Contains (take (n + 1) ss) (Merge j classes) = subst (λ (t : Step). Contains (take (n + 1) ss) t) e step_in_front in
            let only_one : (others : List ℕ) → Contains (take (n + 1) ss) (Merge j others) → classes ≡ others =
            λ others x. ⊎_elim
            (λ y. let l = before (Merge j others) y in let about : key (length system.rules) (due_of s) ≡ key (length system.rules) (OfMerge j) = ap (λ (t : Step). key (length system.rules) (due_of t)) e in absurd (omega (arith, l, about)))
            (λ y. let z : Merge j classes ≡ Merge j others = sym e ∙ y in ap classes_in z)
            (front_or_step (Merge j others) x) in
            record {
              room = new_room;
              table = w.table;
              room_at = new_at j (sym (ap part_in e) ∙ named_is);
              held = w.held;
              made_is = w.made_is;
              merged = λ is_merged. (classes, there_is);
              plain_states = λ x. absurd (x classes there_is);
              merged_states = λ others x. w.states_are ∙ ap most_states (only_one others x);
            }

        pub part_next : IsFineStep system parts ss made s new_room → (next : MadeSoFar) × IsLoopAt system root parts ss plans closures (set rooms k new_room) new_scratch (set marks k new_mark) (n + 1) next
        part_next fine = (
          fine.next,
          record {
            ready = part_ready;
            place = place_next fine.next fine.fine;
            held = held_next (set rooms k new_room) fine.next fine.fine
                (λ j r l other e. element_kept rooms k j new_room r (λ same. apart_own (length system.rules) s j plain l other (same ∙ sym named_is)) e)
                (λ j targets e. part_held fine.next j targets e (subst (λ (t : Step). IsHeldAfter system parts ss fine.next t new_room) e fine.after))
                (λ j targets m e.
                let whole : s ≡ Merge j (classes_in s) = merge_of s j e in
                merge_held fine.next j targets (classes_in s) whole
                (subst (λ (t : Step). IsHeldAfter system parts ss fine.next t new_room) whole fine.after targets
                (only_front system parts ss (take n ss) (drop (n + 1) ss) s (due_of s) (drop (n + 1) (dues_of ss (length system.rules) parts)) made up (Part j targets) m)));
          },
        )

  -- ---- of a closure

  module _ (which : Which) (index : ℕ) (items : List Item) (e : s ≡ Closure which index items) (old : Option ClosurePlan) (old_at : get_or closures n old ≡ old) where
    pub closure_low : n < length closures
    closure_low = omega (arith, due.due_low, h.ready.closures_made.count)

    at_own : get_or (dues_of ss (length system.rules) parts) n (OfPart 0) ≡ OfClosure which index
    at_own = sym (due.about s (OfPart 0)) ∙ (ap due_of is ∙ ap due_of e)

    pub closure_for : IsClosureFor system (OfClosure which index) old
    closure_for = subst (λ (d : DueStep). IsClosureFor system d old) at_own
        (subst (IsClosureFor system (get_or (dues_of ss (length system.rules) parts) n (OfPart 0))) old_at (h.ready.closures_made.each n old due.due_low))

    module _ (new : Option ClosurePlan) (keeps : (d : DueStep) → IsClosureFor system d old → IsClosureFor system d new) where
      pub closure_ready : IsReady system root parts ss plans (set closures n new) rooms scratch marks
      closure_ready = record {
        are = h.ready.are;
        decided = h.ready.decided;
        few = h.ready.few;
        plans_made = h.ready.plans_made;
        rooms_made = h.ready.rooms_made;
        scratch_made = h.ready.scratch_made;
        marks_made = h.ready.marks_made;
        closures_made = made_again (λ j q. IsClosureFor system (get_or (dues_of ss (length system.rules) parts) j (OfPart 0)) q) (length (dues_of ss (length system.rules) parts)) closures n new h.ready.closures_made
            (subst (λ (d : DueStep). IsClosureFor system d new) (sym at_own) (keeps (OfClosure which index) closure_for));
      }

      pub closure_next : (next : MadeSoFar) → IsFine system parts made s next → IsLoopAt system root parts ss plans (set closures n new) rooms scratch marks (n + 1) next
      closure_next next fine = record {
        ready = closure_ready;
        place = place_next next fine;
        held = held_next rooms next fine (λ j r l other x. x) (λ j targets f. let z : Part j targets ≡ Closure which index items = sym f ∙ e in absurd cc)
            (λ j targets m f. let z : OfClosure which index ≡ OfMerge j = sym (ap due_of e) ∙ f in absurd cc);
      }

      pub closure_done : (o : StepOutcome) → IsClosureJudged system which index items o → o ≡ Fine → (next : MadeSoFar) × IsLoopAt system root parts ss plans (set closures n new) rooms scratch marks (n + 1) next
      closure_done o judged fine =
          let next = with_closure made which index items in
          (next, closure_next next (subst (λ (x : Step). IsFine system parts made x next) (sym e) (FineClosure (subst (IsClosureJudged system which index items) fine judged))))

    pub closure_fails : (o : StepOutcome) → IsClosureJudged system which index items o → (at : ℕ) (reason : Reason) → o ≡ Fails at reason → IsFailing system parts made s at reason
    closure_fails o judged at reason fails = subst (λ (x : Step). IsFailing system parts made x at reason) (sym e) (FailingClosure (subst (IsClosureJudged system which index items) fails judged))

pub when_fine : {U : Type 0} {P : Type 0} (result : Result U Failure) → (outcome_of result ≡ Fine → P) → OnOk result P
when_fine (Ok u) by = by refl
when_fine (Err e) by = tt

pub when_failing : {U : Type 0} {P : Failure → Type 0} (result : Result U Failure) → ((e : Failure) → outcome_of result ≡ Fails e.place (as_reason e.reason) → P e) → IfErr result P
when_failing (Ok u) by = tt
when_failing (Err e) by = by e refl
