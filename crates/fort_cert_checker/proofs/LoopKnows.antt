-- What is known at a place of a certificate behind fine steps: the step of a part that is due there may be checked, and the rooms hold the tables behind it.
use Rattle.std.specs.List.{list_any}
use Rattle.std.specs.Prelude.{◌≡◌, ℕ, zero, suc, ◌+◌, ◌*◌, ◌<◌, ◌≤◌, List, [], ◌∷◌, ◌++◌, length, get_or, Contains, Bool, true, false, if◌then◌else◌, IsFalse, refl}
use Rattle.std.proofs.Common.{sym, ap, ◌∙◌, subst, arith, inr, true≢false, ⊎_elim}
use Rattle.std.proofs.lemmas.List.Elements.{Contains-append_cases, Contains-append_right, Contains-get_or}
use Rattle.fort_theory.specs.Patterns.{PatternSystem}
use Rattle.fort_theory.specs.Sides.{IsIndexOf}
use Rattle.fort_theory.proofs.Members.{Contains-head, Contains-none, Contains-cons_cases}
use Rattle.fort_theory.specs.Cores as core
use Rattle.fort_theory.specs.Cores.{Core}
use Rattle.fort_theory.specs.PartLists.{AreParts}
use Rattle.fort_parts.specs.PartColumns.{columns_of}
use Rattle.fort_parts.specs.DecidedCores.{IsDecided, IsOverSystem}
use Rattle.fort_parts.proofs.PartFacts.{IsOverSystem-part, BindsFree-part, columns_of-few}
use Rattle.fort_alike.specs.ListedClosures.{Which, Star, Conv, Pair as Item, reads, asks}
use Rattle.fort_certificate_theory.specs.Certificates.{Step, Closure, Part, Merge, Counts, Value}
use Rattle.fort_certificate_theory.specs.Dues.{DueStep, OfClosure, OfPart, OfMerge, OfCounts, OfValue, due_of, closure_due, closures_due, has_columns, is_turned, parts_due, dues, is_merged_in, dues_of}
use Rattle.fort_certificate_theory.specs.Made.{MadeSoFar}
use Rattle.fort_certificate_theory.specs.Checked.{IsUpTo}
use Rattle.fort_check_steps.specs.declared.room.PartRoom.{PartRoom}
use Rattle.fort_check_steps.specs.declared.room.LabelRoom.{LabelRoom}
use Rattle.fort_check_steps.specs.declared.marks.MarkRoom.{MarkRoom}
use Rattle.fort_cert_checker.specs.declared.plan.Plan.{Plan}
use Rattle.fort_cert_checker.specs.declared.past.Past.{Past}
use Rattle.fort_check_steps.specs.Room.{most_states}
use Rattle.fort_cert_checker.specs.Abouts.{IsOnlyAbout}
use Rattle.fort_cert_checker.specs.PartStates.{IsStatesOf, OfTargets, OfClasses}
use Rattle.fort_cert_checker.specs.Plans.{IsFitPart, IsPlanOf, IsWidthFor}
use Rattle.fort_cert_checker.specs.OperandLists.{AreListsFor}
use Rattle.fort_cert_checker.specs.Pasts.{steps_of, IsElement, IsHeld, IsClosureKnown, IsTableKnown, IsValueKnown, KnowsPast, KnowsCounts, IsPartDue, IsMarkRoomFor}
use Rattle.fort_cert_checker.specs.Makings.{IsRoomFor, IsScratchFor, ArePlansMade}
use Rattle.fort_cert_checker.specs.Fronts.{Tells, AreHeld, HasFewTargets, IsOwnDue, part_in}
use Rattle.fort_cert_checker.proofs.DueKeys.{key, IsDueFor, parts_for}
use Rattle.fort_cert_checker.proofs.FrontKnows.{table_before, merge_before, front_due, none_merged, table_step, value_step, counts_step, closure_step, only_front}

pub element_of : {A : Type 0} (xs : List A) (j : ℕ) → j < length xs → (x : A) × IsElement xs j x
element_of [] j l = absurd (omega arith)
element_of (x ∷ xs) zero l = (x, (l, λ d. refl))
element_of (x ∷ xs) (suc j) l = let w = element_of xs j (omega arith) in (w.0, (l, w.1.1))

-- ---- the parts of a formula that may be decided

pub fit_part : (system : PatternSystem) (root : Core) (parts : List Core) → AreParts root parts → IsDecided system root → (g : Core) → Contains parts g → IsFitPart system g
fit_part system root parts are decided g c =
    let p = (are.same g).1 c in
    record {
      over = IsOverSystem-part system root g decided.over p;
      binders = BindsFree-part root g decided.well_formed.binders p;
      few = columns_of-few root g decided.well_formed p;
      roots = λ many. decided.well_formed.narrow (record { part = g; among = p; wide = inr many });
    }

-- ---- what a due tells of its part

closure_no_part : (parts : List Core) (i : ℕ) (which : Which) (d : DueStep) → Contains (closure_due parts i which) d → (w : Which) × (j : ℕ) × (d ≡ OfClosure w j)
closure_no_part parts i which d c = by (list_any (asks which i) parts) c
  where
    by : (b : Bool) → Contains (if b then (OfClosure which i ∷ []) else []) d → (w : Which) × (j : ℕ) × (d ≡ OfClosure w j)
    by true k = ⊎_elim (λ e. (which, i, sym e)) (λ m. absurd (Contains-none d m)) (Contains-cons_cases (OfClosure which i) [] d k)
    by false k = absurd (Contains-none d k)

closures_only : (parts : List Core) (n i : ℕ) (d : DueStep) → Contains (closures_due parts n i) d → (w : Which) × (j : ℕ) × (d ≡ OfClosure w j)
closures_only parts zero i d c = absurd (Contains-none d c)
closures_only parts (suc n) i d c =
    ⊎_elim
    (λ a. closure_no_part parts i Star d a)
    (λ b. ⊎_elim (λ a. closure_no_part parts i Conv d a) (λ later. closures_only parts n (suc i) d later) (Contains-append_cases (closure_due parts i Conv) (closures_due parts n (suc i)) d b))
    (Contains-append_cases (closure_due parts i Star) (closure_due parts i Conv ++ closures_due parts n (suc i)) d c)

abbrev pub IsNoClosure : DueStep → Type 0
IsNoClosure (OfClosure w i) = ⊥
IsNoClosure (OfPart k) = Unit {0}
IsNoClosure (OfMerge k) = Unit {0}
IsNoClosure (OfCounts k) = Unit {0}
IsNoClosure (OfValue k) = Unit {0}

due_for : (merges : ℕ → Bool) (n : ℕ) (parts : List Core) (d : DueStep) → IsNoClosure d → Contains (dues merges n parts) d → IsDueFor merges 0 parts d
due_for merges n parts d plain_due c =
    ⊎_elim
    (λ a. let w = closures_only parts n 1 d a in absurd (subst IsNoClosure w.2 plain_due))
    (λ b. parts_for merges 0 parts d b)
    (Contains-append_cases (closures_due parts n 1) (parts_due merges 0 parts) d c)

is_false : (b : Bool) → (b ≡ true → ⊥) → b ≡ false
is_false true h = absurd (h refl)
is_false false h = refl

-- ---- at a place

module _ (system : PatternSystem) (root : Core) (parts : List Core) (ss : List Step) (plans : List Plan) (rooms : List PartRoom) (front rest : List Step) (s : Step) (d : DueStep) (wanted : List DueStep) (made : MadeSoFar)
    (up : IsUpTo system parts ss front (d ∷ wanted) (s ∷ rest) made) (are : AreParts root parts) (decided : IsDecided system root) (tells : Tells parts front made) (held : AreHeld system parts rooms front made)
    (planned : ArePlansMade system parts ss (length parts) plans) (few : HasFewTargets ss) where
  at_due : Contains (dues_of ss (length system.rules) parts) d
  at_due = subst (λ (ds : List DueStep). Contains ds d) (sym up.dues_are) (Contains-append_right up.done (d ∷ wanted) d (Contains-head d wanted))

  -- some past, with the rooms of earlier parts
  module _ (k : ℕ) (past : Past) (within : k < length parts) (own : 3 * (length system.rules + k) + 3 ≤ key (length system.rules) d) (signature : past.signature.now ≡ system.signature)
      (steps : steps_of past ≡ ss) (plans_are : past.plans.now ≡ plans) (low_rooms : (j : ℕ) (r : PartRoom) → j < k → IsElement rooms j r → IsElement past.rooms.now j r) where
    only : (t : Step) → Contains front t → IsOnlyAbout (steps_of past) t
    only t m = subst (λ (ts : List Step). IsOnlyAbout ts t) (sym steps) (only_front system parts ss front rest s d wanted made up t m)

    plan_for : (j : ℕ) → j < length parts → (p : Plan) × IsElement past.plans.now j p × (p.columns ≡ length (columns_of (get_or parts j core.True)))
    plan_for j l =
        let w = element_of plans j (omega (arith, l, planned.count)) in
        (w.0, subst (λ (ps : List Plan). IsElement ps j w.0) (sym plans_are) w.1, ap (λ (p : Plan). p.columns) (sym (w.1.1 w.0)) ∙ (planned.each j w.0 l).columns)

    not_merged : (j : ℕ) (classes : List ℕ) → is_merged_in ss j ≡ false → Contains front (Merge j classes) → ⊥
    not_merged j classes e m =
        let h = due_for (is_merged_in ss) (length system.rules) parts (OfMerge j) tt (front_due system parts ss front rest s d wanted made up (Merge j classes) m) in
        true≢false (sym h.5 ∙ e)

    -- by its targets or its classes
    states_for : (j : ℕ) (targets : List ℕ) → j < k → has_columns (get_or parts j core.True) ≡ true → is_turned (get_or parts j core.True) ≡ false → Contains front (Part j targets) → (n : ℕ)
        → (((classes : List ℕ) → Contains front (Merge j classes) → ⊥) → n ≡ most_states targets) → ((classes : List ℕ) → Contains front (Merge j classes) → n ≡ most_states classes)
        → IsStatesOf (steps_of past) j n
    states_for j targets l has plain m n by_targets by_classes = by (is_merged_in ss j) refl
      where
        by : (b : Bool) → is_merged_in ss j ≡ b → IsStatesOf (steps_of past) j n
        by true e =
            let w = merge_before system parts ss front rest s d wanted made up j (omega (arith, l, own)) (omega (arith, l, within)) has plain e in
            OfClasses w.0 (only (Merge j w.0) w.1) (ap (λ (ts : List Step). is_merged_in ts j) steps ∙ e) (by_classes w.0 w.1)
        by false e = OfTargets targets (only (Part j targets) m) (ap (λ (ts : List Step). is_merged_in ts j) steps ∙ e) (by_targets (λ classes x. not_merged j classes e x))

    table_for : (j : ℕ) → j < k → has_columns (get_or parts j core.True) ≡ true → is_turned (get_or parts j core.True) ≡ false → IsTableKnown system.signature parts past made j
    table_for j l has plain =
        let t = table_step system parts ss front rest s d wanted made up k own j l (omega (arith, l, within)) has plain in
        let h = held j t.0 t.1 in
        record {
          targets = t.0;
          room = h.room;
          table = h.table;
          only = only (Part j t.0) t.1;
          room_at = low_rooms j h.room l h.room_at;
          held = h.held;
          made_is = h.made_is;
          states = states_for j t.0 l has plain t.1 (length h.table.presences) h.plain_states h.merged_states;
        }

    value_for : (j : ℕ) → j < k → has_columns (get_or parts j core.True) ≡ false → is_turned (get_or parts j core.True) ≡ false → IsValueKnown past made j
    value_for j l has plain =
        let t = value_step system parts ss front rest s d wanted made up k own j l (omega (arith, l, within)) has plain in
        record { value = t.0; only = only (Value j t.0) t.1; made_is = tells.values j t.0 t.1 }

    fit : IsFitPart system (get_or parts k core.True)
    fit = fit_part system root parts are decided (get_or parts k core.True) (Contains-get_or parts k core.True within)

    closure_for : (rel : core.Rel) (index x y : ℕ) → get_or parts k core.True ≡ core.Leaf (core.Related rel index x y) → IsClosureKnown (steps_of past) made rel index
    closure_for rel index x y e = by rel e
      where
        index_of : (r : core.Rel) → get_or parts k core.True ≡ core.Leaf (core.Related r index x y) → IsIndexOf system.rules index
        index_of r f = subst (IsOverSystem system) f fit.over

        star_of : (r : core.Rel) → get_or parts k core.True ≡ core.Leaf (core.Related r index x y) → reads Star r ≡ true → (items : List Item) × IsOnlyAbout (steps_of past) (Closure Star index items) × (made.closures Star index ≡ items)
        star_of r f e =
            let o = index_of r f in
            let t = closure_step system parts ss front rest s d wanted made up k own Star r index x y within f e o.low o.high in
            (t.0, only (Closure Star index t.0) t.1, tells.closures Star index t.0 t.1)

        conv_of : get_or parts k core.True ≡ core.Leaf (core.Related core.Conv index x y) → (items : List Item) × IsOnlyAbout (steps_of past) (Closure Conv index items) × (made.closures Conv index ≡ items)
        conv_of f =
            let o = index_of core.Conv f in
            let t = closure_step system parts ss front rest s d wanted made up k own Conv core.Conv index x y within f refl o.low o.high in
            (t.0, only (Closure Conv index t.0) t.1, tells.closures Conv index t.0 t.1)

        by : (r : core.Rel) → get_or parts k core.True ≡ core.Leaf (core.Related r index x y) → IsClosureKnown (steps_of past) made r index
        by core.Eq f = tt
        by core.Root f = tt
        by core.Below f = tt
        by core.Step f = tt
        by core.Par f = tt
        by core.Plus f = star_of core.Plus f refl
        by core.Star f = star_of core.Star f refl
        by core.Conv f = conv_of f

    knows : KnowsPast system parts past k made
    knows = record {
      parted = record { root = root; are = are };
      within = within;
      signature = signature;
      plans = plan_for;
      tables = table_for;
      values = value_for;
      closures = closure_for;
    }

    knows_counts : key (length system.rules) (OfCounts k) < key (length system.rules) d → KnowsCounts parts past k made
    knows_counts low m g e =
        let t = counts_step system parts ss front rest s d wanted made up k own m g within e low in
        record { marks = t.0; only = only (Counts k t.0) t.1; made_is = tells.counts k t.0 t.1; rules = tells.rules k t.0 t.1 }

    part_is : (p : Plan) → IsElement plans k p → IsPartDue system parts past k made (get_or parts k core.True) p
    part_is p at = record {
      known = knows;
      part = refl;
      plan = subst (λ (ts : List Step). IsPlanOf system parts ts k (get_or parts k core.True) p) (sym steps)
          (subst (IsPlanOf system parts ss k (get_or parts k core.True)) (at.1 p) (planned.each k p within));
      fit = fit;
    }

  pub own_within : (t : Step) → due_of t ≡ d → IsNoClosure (due_of t) → part_in t < length parts
  own_within (Closure w i xs) e plain_due = absurd plain_due
  own_within (Part k targets) e plain_due = let h = due_for (is_merged_in ss) (length system.rules) parts (OfPart k) tt (subst (Contains (dues_of ss (length system.rules) parts)) (sym e) at_due) in omega (arith, h.1, h.2)
  own_within (Merge k classes) e plain_due = let h = due_for (is_merged_in ss) (length system.rules) parts (OfMerge k) tt (subst (Contains (dues_of ss (length system.rules) parts)) (sym e) at_due) in omega (arith, h.1, h.2)
  own_within (Counts k marks) e plain_due = let h = due_for (is_merged_in ss) (length system.rules) parts (OfCounts k) tt (subst (Contains (dues_of ss (length system.rules) parts)) (sym e) at_due) in omega (arith, h.1, h.2)
  own_within (Value k value) e plain_due = let h = due_for (is_merged_in ss) (length system.rules) parts (OfValue k) tt (subst (Contains (dues_of ss (length system.rules) parts)) (sym e) at_due) in omega (arith, h.1, h.2)

  module _ (past : Past) (signature : past.signature.now ≡ system.signature) (steps : steps_of past ≡ ss) (plans_are : past.plans.now ≡ plans) (p : Plan) (room : PartRoom) (scratch : LabelRoom) (mark : MarkRoom)
      (sized : IsMarkRoomFor ss p.work mark) where
    here_sized : IsMarkRoomFor (steps_of past) p.work mark
    here_sized = subst (λ (ts : List Step). IsMarkRoomFor ts p.work mark) (sym steps) sized

    pub own_due : (t : Step) → due_of t ≡ d → IsNoClosure (due_of t) → Contains ss t → IsOnlyAbout ss t → ((j : ℕ) (r : PartRoom) → j < part_in t → IsElement rooms j r → IsElement past.rooms.now j r)
        → IsElement plans (part_in t) p → IsElement rooms (part_in t) room → IsRoomFor ss (part_in t) room → IsScratchFor ss (part_in t) p scratch
        → IsOwnDue system parts past made (get_or parts (part_in t) core.True) p t room scratch mark
    own_due (Closure w i xs) e plain_due there alone low_rooms at room_at rf sf = absurd plain_due
    own_due (Part k targets) e plain_due there alone low_rooms at room_at rf sf =
        let h = due_for (is_merged_in ss) (length system.rules) parts (OfPart k) tt (subst (Contains (dues_of ss (length system.rules) parts)) (sym e) at_due) in
        let same : h.0 ≡ k = omega (arith, h.1) in
        let within : k < length parts = omega (arith, h.1, h.2) in
        let key_is : key (length system.rules) (OfPart k) ≡ key (length system.rules) d = ap (key (length system.rules)) e in
        let own : 3 * (length system.rules + k) + 3 ≤ key (length system.rules) d = omega (arith, key_is) in
        record {
          due = part_is k past within own signature steps plans_are low_rooms p at;
          columns = subst (λ (i : ℕ). has_columns (get_or parts i core.True) ≡ true) same h.3;
          plain = subst (λ (i : ℕ). is_turned (get_or parts i core.True) ≡ false) same h.4;
          counts = knows_counts k past within own signature steps plans_are low_rooms (omega (arith, key_is));
          few = few.targets k targets there;
          width = sf.width;
          is_width = subst (λ (ts : List Step). IsWidthFor ts p.work sf.width) (sym steps) sf.is_width;
          sized = rf.targets_fit targets alone;
          scratch_sized = sf.sized targets alone;
          lists_sized = subst (λ (ts : List Step). AreListsFor ts p.work scratch.lists) (sym steps) sf.lists;
          marks_sized = here_sized;
        }
    own_due (Merge k classes) e plain_due there alone low_rooms at room_at rf sf =
        let h = due_for (is_merged_in ss) (length system.rules) parts (OfMerge k) tt (subst (Contains (dues_of ss (length system.rules) parts)) (sym e) at_due) in
        let same : h.0 ≡ k = omega (arith, h.1) in
        let within : k < length parts = omega (arith, h.1, h.2) in
        let key_is : key (length system.rules) (OfMerge k) ≡ key (length system.rules) d = ap (key (length system.rules)) e in
        let has = subst (λ (i : ℕ). has_columns (get_or parts i core.True) ≡ true) same h.3 in
        let plain = subst (λ (i : ℕ). is_turned (get_or parts i core.True) ≡ false) same h.4 in
        let t = table_before system parts ss front rest s d wanted made up k (omega (arith, key_is)) within has plain in
        let r = held k t.0 t.1 in
        let one : r.room ≡ room = sym (r.room_at.1 room) ∙ room_at.1 room in
        let only_part : IsOnlyAbout ss (Part k t.0) = only_front system parts ss front rest s d wanted made up (Part k t.0) t.1 in
        record {
          targets = t.0;
          table = r.table;
          signature = signature;
          columns = ap (λ (q : Plan). q.columns) (sym (at.1 p)) ∙ (planned.each k p within).columns;
          only = subst (λ (ts : List Step). IsOnlyAbout ts (Part k t.0)) (sym steps) only_part;
          held = subst (λ (x : PartRoom). IsHeld system.signature (length (columns_of (get_or parts k core.True))) t.0 x r.table) one r.held;
          plain = subst (λ (x : PartRoom). IsFalse x.is_merged) one
              (is_false r.room.is_merged (λ is. let w = r.merged is in none_merged system parts ss front rest s d wanted made up k w.0 (sym e) w.1));
          made_is = r.made_is;
          sized = rf.classes_fit t.0 only_part h.5;
          scratch_sized = sf.leaders t.0 only_part h.5;
          marks_sized = here_sized;
        }
    own_due (Counts k marks) e plain_due there alone low_rooms at room_at rf sf =
        let h = due_for (is_merged_in ss) (length system.rules) parts (OfCounts k) tt (subst (Contains (dues_of ss (length system.rules) parts)) (sym e) at_due) in
        let same : h.0 ≡ k = omega (arith, h.1) in
        let within : k < length parts = omega (arith, h.1, h.2) in
        let key_is : key (length system.rules) (OfCounts k) ≡ key (length system.rules) d = ap (key (length system.rules)) e in
        let own : 3 * (length system.rules + k) + 3 ≤ key (length system.rules) d = omega (arith, key_is) in
        record {
          due = part_is k past within own signature steps plans_are low_rooms p at;
          number = h.3.0;
          body = h.3.1;
          whole = subst (λ (i : ℕ). get_or parts i core.True ≡ core.Infinite h.3.0 h.3.1) same h.3.2;
          only = subst (λ (ts : List Step). IsOnlyAbout ts (Counts k marks)) (sym steps) alone;
          marks_sized = here_sized;
        }
    own_due (Value k value) e plain_due there alone low_rooms at room_at rf sf =
        let h = due_for (is_merged_in ss) (length system.rules) parts (OfValue k) tt (subst (Contains (dues_of ss (length system.rules) parts)) (sym e) at_due) in
        let same : h.0 ≡ k = omega (arith, h.1) in
        let within : k < length parts = omega (arith, h.1, h.2) in
        let key_is : key (length system.rules) (OfValue k) ≡ key (length system.rules) d = ap (key (length system.rules)) e in
        let own : 3 * (length system.rules + k) + 3 ≤ key (length system.rules) d = omega (arith, key_is) in
        record {
          due = part_is k past within own signature steps plans_are low_rooms p at;
          columns = subst (λ (i : ℕ). has_columns (get_or parts i core.True) ≡ false) same h.3;
          counts = knows_counts k past within own signature steps plans_are low_rooms (omega (arith, key_is));
          marks_sized = here_sized;
        }
