-- What comes of a step that names a part: it is fine and its room holds its table, or it fails.
use Rattle.std.specs.Prelude.{◌≡◌, ℕ, ◌<◌, ◌≤◌, ◌^◌, List, length, get_or, ◌==◌, Bool, Result, Ok, Err, OnOk, IfErr, IsFalse, refl}
use Rattle.std.proofs.Common.{sym, ap, ◌∙◌, subst, arith, le_of_eq}
use Rattle.std.proofs.Math.Seq.{take-length}
use Rattle.std.proofs.lemmas.List.{length-map}
use Rattle.fort_theory.specs.Signatures.{Signature}
use Rattle.fort_theory.specs.Patterns.{PatternSystem}
use Rattle.fort_theory.specs.Cores as core
use Rattle.fort_theory.specs.Cores.{Core}
use Rattle.fort_tables.specs.LabelRules.{LabelRule}
use Rattle.fort_tables.specs.Entries.{stage}
use Rattle.fort_tables.specs.Labels.{first_word}
use Rattle.fort_tables.specs.Tables.{Table, Listed, listed_table}
use Rattle.fort_tables.proofs.TupleLaws.{length-tabulate}
use Rattle.fort_tables.specs.Laid.{all_entries}
use Rattle.fort_tables.specs.Merges.{first_of, count_of, merged, IsMerge}
use Rattle.fort_tables.specs.MergeOutcomes.{MergeOutcome, AreEntriesOf, IsMergeOutcome}
use Rattle.fort_tables.specs.Counts as counts
use Rattle.fort_parts.specs.PartColumns.{columns_of}
use Rattle.fort_parts.specs.PartAnswers.{OfTable, OfValue}
use Rattle.fort_alike.specs.ListedClosures.{Which, Pair as Item}
use Rattle.fort_certificate_theory.specs.Certificates.{Step, Closure, Part, Merge, Counts, Value}
use Rattle.fort_certificate_theory.specs.Outcomes as outcomes
use Rattle.fort_certificate_theory.specs.Outcomes.{StepOutcome, Fails}
use Rattle.fort_certificate_theory.specs.PartSteps.{IsPartOutcome, IsRight, IsFailed, IsPartFailure}
use Rattle.fort_certificate_theory.specs.Made.{MadeSoFar, with_answer, with_counts}
use Rattle.fort_certificate_theory.specs.PartRules.{IsLocalOf, IsValueOf}
use Rattle.fort_certificate_theory.specs.Checked.{IsCountJudged, IsFine, FinePart, FineMerge, FineCounts, FineValue, IsFailing, FailingPart, FailingMerge, FailingCounts, FailingValue}
use Rattle.fort_certificate_theory.specs.MergeSteps.{step_outcome, listed_merge}
use Rattle.fort_certificate_theory.proofs.EntryWalks.{right_few}
use Rattle.fort_certificate_theory.proofs.FineSteps.{chosen, itself}
use Rattle.fort_check_steps.specs.declared.room.PartRoom.{PartRoom}
use Rattle.fort_check_steps.specs.declared.room.LabelRoom.{LabelRoom}
use Rattle.fort_check_steps.specs.declared.marks.MarkRoom.{MarkRoom}
use Rattle.fort_check_steps.specs.declared.failure.Failure.{Failure}
use Rattle.fort_check_steps.specs.StepAnswers.{as_reason, outcome_of}
use Rattle.fort_check_steps.specs.Held.{HoldsPart, IsRoomTable, held_entries, held_table, room_table, own_targets}
use Rattle.fort_check_steps.proofs.TableLaws.{held_part, held_room, held_is, own_not_merged}
use Rattle.fort_check_steps.specs.Room.{HasRoom, HasMergeRoom, HasLeaderRoom, most_states}
use Rattle.fort_check_steps.specs.Marks.{HasMarkRoom}
use Rattle.fort_cert_checker.specs.declared.plan.Plan.{Plan}
use Rattle.fort_cert_checker.specs.declared.plan.Work.{Work}
use Rattle.fort_cert_checker.specs.declared.plan.Work.TheVariants.{Truth, Atom, Negation, Product, Projection, Many}
use Rattle.fort_cert_checker.specs.declared.past.Past.{Past}
use Rattle.fort_cert_checker.specs.Abouts.{IsOnlyAbout}
use Rattle.fort_cert_checker.specs.Pasts.{steps_of, IsHeld, IsMarkRoomFor, IsTableDue, IsTableStep, IsMergeDue}
use Rattle.fort_cert_checker.specs.Values.{IsValueDue, IsOtherValue, AreCountsDue}
use Rattle.fort_cert_checker.specs.Makings.{IsRoomFor}
use Rattle.fort_cert_checker.specs.Fronts.{IsPastOf, IsOwnDue, IsDueBehind, IsFineStep, part_in}
use Rattle.fort_cert_checker.proofs.FrontLaws.{only_targets}
use Rattle.fort_cert_checker.proofs.PartStateLaws.{few_numbered, all_classes}

pub on_ok : {U E : Type 0} {P Q : Type 0} (result : Result U E) → (P → Q) → OnOk result P → OnOk result Q
on_ok (Ok u) by h = by h
on_ok (Err e) by h = tt

pub if_err : {U E : Type 0} {P Q : E → Type 0} (result : Result U E) → ((e : E) → P e → Q e) → IfErr result P → IfErr result Q
if_err (Ok u) by h = tt
if_err (Err e) by h = by e h

pub marks_kept : (ss : List Step) (w : Work) (old new : MarkRoom) → IsMarkRoomFor ss w old → ((states count : ℕ) → HasMarkRoom states count old → HasMarkRoom states count new) → IsMarkRoomFor ss w new
marks_kept ss Truth old new h keep = h
marks_kept ss (Atom labels) old new h keep = h
marks_kept ss (Negation s) old new h keep = h
marks_kept ss (Product op a b) old new h keep = h
marks_kept ss (Projection s c) old new h keep = λ n are. keep n 0 (h n are)
marks_kept ss (Many s c ns) old new h keep = λ n are. keep n (length ns.items) (h n are)

room_kept : (ss : List Step) (k : ℕ) (targets : List ℕ) (old new : PartRoom) → IsOnlyAbout ss (Part k targets) → HasRoom targets new → (HasMergeRoom targets old → HasMergeRoom targets new) → IsRoomFor ss k old
    → IsRoomFor ss k new
room_kept ss k targets old new only fits keeps h = record {
  targets_fit = λ others other. subst (λ (qs : List ℕ). HasRoom qs new) (only_targets ss k targets others only other) fits;
  classes_fit = λ others other merged. subst (λ (qs : List ℕ). HasMergeRoom qs new) (only_targets ss k targets others only other) (keeps (h.classes_fit targets only merged));
}

-- a part that is held by its rule is held, with as many states as its targets make
held_states : (r : LabelRule) (accepting : List ℕ → Bool) (targets : List ℕ) (room : PartRoom) → HoldsPart r accepting targets room → length room.presences.items ≡ most_states targets
held_states r accepting targets room h =
    let right = h.right in
    omega (arith, ap length h.presences, length-map h.labels first_word, right_few r targets (length targets) (held_entries r room) h.labels right.right, right.right.states, ap stage (take-length targets))

held_part_is : (sig : Signature) (columns : ℕ) (r : LabelRule) (accepting : List ℕ → Bool) (targets : List ℕ) (room : PartRoom) → r.signature ≡ sig → r.columns ≡ columns → IsFalse room.is_merged
    → length targets < 2 ^ 32 → HoldsPart r accepting targets room → IsHeld sig columns targets room (listed_table (held_table r targets room))
held_part_is sig columns r accepting targets room a b plain few h = record {
  holds = held_room r accepting sig columns targets room a b plain h few;
  is = ap listed_table (held_is r sig columns targets room a b plain);
  few_states = le_of_eq (held_states r accepting targets room h);
  few_targets = le_of_eq (ap length (own_not_merged targets room plain));
}

failure_of : (r : LabelRule) (targets : List ℕ) (o : StepOutcome) (place : ℕ) (reason : outcomes.Reason) → IsPartOutcome r targets o → o ≡ Fails place reason → IsPartFailure r targets place reason
failure_of r targets o place reason (IsRight entries labels h) e = absurd cc
failure_of r targets o place reason (IsFailed at why h) e =
    let a : at ≡ place = cc in
    let b : why ≡ reason = cc in
    subst (λ (x : ℕ). IsPartFailure r targets x reason) a (subst (λ (x : outcomes.Reason). IsPartFailure r targets at x) b h)

-- for any parts and formula
module _ (system : PatternSystem) (ss : List Step) (plans : List Plan) (rooms : List PartRoom) (p : Plan) (s : Step) (room : PartRoom) (scratch : LabelRoom) (marks : MarkRoom) where
  pub all_fine : {U : Type 0} (new : PartRoom) (result : Result U Failure)
      → ((parts : List Core) (f : Core) → OnOk result ((made : MadeSoFar) → IsDueBehind system parts ss plans rooms made f p s room scratch marks → IsFineStep system parts ss made s new))
      → OnOk result ((parts : List Core) (f : Core) (made : MadeSoFar) → IsDueBehind system parts ss plans rooms made f p s room scratch marks → IsFineStep system parts ss made s new)
  all_fine new (Ok u) h = h
  all_fine new (Err e) h = tt

  pub all_failing : {U : Type 0} (result : Result U Failure)
      → ((parts : List Core) (f : Core) → IfErr result (λ e. (made : MadeSoFar) → IsDueBehind system parts ss plans rooms made f p s room scratch marks → IsFailing system parts made s e.place (as_reason e.reason)))
      → IfErr result (λ e. (parts : List Core) (f : Core) (made : MadeSoFar) → IsDueBehind system parts ss plans rooms made f p s room scratch marks → IsFailing system parts made s e.place (as_reason e.reason))
  all_failing (Ok u) h = tt
  all_failing (Err e) h = h

module _ (system : PatternSystem) (parts : List Core) (ss : List Step) (plans : List Plan) (rooms : List PartRoom) (f : Core) (p : Plan) (past : Past) (is : IsPastOf system ss plans rooms past) (room : PartRoom) (scratch : LabelRoom)
    (marks : MarkRoom) (s : Step) where
  pub not_closure : (which : Which) (index : ℕ) (items : List Item) → s ≡ Closure which index items → (made : MadeSoFar) → IsDueBehind system parts ss plans rooms made f p s room scratch marks → ⊥
  not_closure which index items e made h = subst (λ (x : Step). IsOwnDue system parts past made f p x room scratch marks) e (h past is)

  module _ (k : ℕ) (targets : List ℕ) (e : s ≡ Part k targets) where
    pub part_due : (made : MadeSoFar) → IsDueBehind system parts ss plans rooms made f p s room scratch marks → IsTableDue system parts past k made f p targets room scratch marks
    part_due made h = subst (λ (x : Step). IsOwnDue system parts past made f p x room scratch marks) e (h past is)

    table_fine : {U : Type 0} (u : U) (made : MadeSoFar) (new : PartRoom) → IsTableDue system parts past k made f p targets room scratch marks → IsTableStep {U = U} system parts k made f targets new (Ok u)
        → IsFineStep system parts ss made (Part k targets) new
    table_fine u made new d t =
        let own : IsLocalOf system parts made k (get_or parts k core.True) t.local = subst (λ (g : Core). IsLocalOf system parts made k g t.local) (sym d.due.part) t.local_is in
        let held = t.step.held in
        let table = listed_table (held_table t.local.rule targets new) in
        let same = ap listed_table (held_part t.local.rule t.local.accepting targets new held) in
        let columns = t.columns_are ∙ ap (λ (g : Core). length (columns_of g)) (sym d.due.part) in
        record {
          next = with_answer made k (OfTable table);
          fine = subst (λ (a : Table). IsFine system parts made (Part k targets) (with_answer made k (OfTable a))) same (FinePart t.local (held_entries t.local.rule new) held.labels own held.right);
          after = (
            record {
              table = table;
              held = held_part_is system.signature (length (columns_of (get_or parts k core.True))) t.local.rule t.local.accepting targets new t.signature columns t.step.plain d.few held;
              made_is = chosen (k == k) (OfTable table) (made.answers k) (itself k);
              states_are = held_states t.local.rule t.local.accepting targets new held;
            },
            t.step.plain,
          );
        }

    pub part_fine : {U : Type 0} (result : Result U Failure) (new : PartRoom) → ((made : MadeSoFar) → IsTableDue system parts past k made f p targets room scratch marks → IsTableStep system parts k made f targets new result)
        → OnOk result ((made : MadeSoFar) → IsDueBehind system parts ss plans rooms made f p s room scratch marks → IsFineStep system parts ss made s new)
    part_fine (Ok u) new step = λ made h.
        let d = part_due made h in
        subst (λ (x : Step). IsFineStep system parts ss made x new) (sym e) (table_fine u made new d (step made d))
    part_fine (Err x) new step = tt

    pub part_failing : {U : Type 0} (result : Result U Failure) (new : PartRoom) → ((made : MadeSoFar) → IsTableDue system parts past k made f p targets room scratch marks → IsTableStep system parts k made f targets new result)
        → IfErr result (λ x. (made : MadeSoFar) → IsDueBehind system parts ss plans rooms made f p s room scratch marks → IsFailing system parts made s x.place (as_reason x.reason))
    part_failing (Ok u) new step = tt
    part_failing (Err x) new step = λ made h.
        let d = part_due made h in
        let t = step made d in
        let own : IsLocalOf system parts made k (get_or parts k core.True) t.local = subst (λ (g : Core). IsLocalOf system parts made k g t.local) (sym d.due.part) t.local_is in
        subst (λ (y : Step). IsFailing system parts made y x.place (as_reason x.reason)) (sym e)
        (FailingPart t.local own (failure_of t.local.rule targets (Fails x.place (as_reason x.reason)) x.place (as_reason x.reason) t.step.outcome refl))

    pub part_room : (new : PartRoom) → HasRoom targets new → (HasMergeRoom targets room → HasMergeRoom targets new) → (all : List Step) → IsOnlyAbout all s → IsRoomFor all (part_in s) room → IsRoomFor all (part_in s) new
    part_room new sized keeps all only h =
        subst (λ (x : Step). IsRoomFor all (part_in x) new) (sym e)
        (room_kept all k targets room new (subst (IsOnlyAbout all) e only) sized keeps (subst (λ (x : Step). IsRoomFor all (part_in x) room) e h))

    pub part_marks : (new : MarkRoom) → ((states count : ℕ) → HasMarkRoom states count marks → HasMarkRoom states count new) → (made : MadeSoFar) → IsDueBehind system parts ss plans rooms made f p s room scratch marks
        → IsMarkRoomFor ss p.work new
    part_marks new keep made h = marks_kept ss p.work marks new (subst (λ (xs : List Step). IsMarkRoomFor xs p.work marks) is.steps (part_due made h).marks_sized) keep

  module _ (k : ℕ) (classes : List ℕ) (e : s ≡ Merge k classes) where
    pub merge_due : (made : MadeSoFar) → IsDueBehind system parts ss plans rooms made f p s room scratch marks → IsMergeDue system parts past k made p room scratch marks
    merge_due made h = subst (λ (x : Step). IsOwnDue system parts past made f p x room scratch marks) e (h past is)

    -- what is read for it
    module _ (made : MadeSoFar) (d : IsMergeDue system parts past k made p room scratch marks) (targets : List ℕ) (columns : ℕ) (targets_are : targets ≡ d.targets) (columns_are : columns ≡ p.columns) where
      columns_meant : columns ≡ length (columns_of (get_or parts k core.True))
      columns_meant = columns_are ∙ d.columns

      read_is : (r : PartRoom) → room_table past.signature.now columns targets r ≡ room_table system.signature (length (columns_of (get_or parts k core.True))) d.targets r
      read_is r = λ i. room_table (d.signature i) (columns_meant i) (targets_are i) r

      read_table : listed_table (room_table past.signature.now columns targets room) ≡ d.table
      read_table = ap listed_table (read_is room) ∙ d.held.is

      moved_room : (r : PartRoom) → IsRoomTable past.signature.now columns targets r → IsRoomTable system.signature (length (columns_of (get_or parts k core.True))) d.targets r
      moved_room r h =
          subst (λ (qs : List ℕ). IsRoomTable system.signature (length (columns_of (get_or parts k core.True))) qs r) targets_are
          (subst (λ (n : ℕ). IsRoomTable system.signature n targets r) columns_meant (subst (λ (g : Signature). IsRoomTable g columns targets r) d.signature h))

      pub merge_table : IsRoomTable past.signature.now columns targets room
      merge_table =
          subst (λ (g : Signature). IsRoomTable g columns targets room) (sym d.signature)
          (subst (λ (n : ℕ). IsRoomTable system.signature n targets room) (sym columns_meant)
          (subst (λ (qs : List ℕ). IsRoomTable system.signature (length (columns_of (get_or parts k core.True))) qs room) (sym targets_are) d.held.holds))

      pub merge_room : HasMergeRoom targets room
      merge_room = subst (λ (qs : List ℕ). HasMergeRoom qs room) (sym targets_are) d.sized

      pub merge_leaders : HasLeaderRoom targets scratch
      merge_leaders = subst (λ (qs : List ℕ). HasLeaderRoom qs scratch) (sym targets_are) d.scratch_sized

      -- a merge that is right
      module _ (new : PartRoom) (right : IsMerge (listed_table (room_table past.signature.now columns targets room)) classes)
          (left : room_table past.signature.now columns targets new ≡ listed_merge (listed_table (room_table past.signature.now columns targets room)) classes (all_entries past.signature.now columns new.presences.items))
          (are : AreEntriesOf (merged (listed_table (room_table past.signature.now columns targets room)) classes) (all_entries past.signature.now columns new.presences.items)) (held : IsRoomTable past.signature.now columns targets new)
          (fewer : length (own_targets targets new) ≤ length targets) where
        merge_right : IsMerge d.table classes
        merge_right = subst (λ (t : Table). IsMerge t classes) read_table right

        merge_entries : AreEntriesOf (merged d.table classes) (all_entries past.signature.now columns new.presences.items)
        merge_entries = subst (λ (t : Table). AreEntriesOf (merged t classes) (all_entries past.signature.now columns new.presences.items)) read_table are

        table_left : listed_table (room_table past.signature.now columns targets new) ≡ listed_table (listed_merge d.table classes (all_entries past.signature.now columns new.presences.items))
        table_left = ap listed_table (left ∙ ap (λ (t : Table). listed_merge t classes (all_entries past.signature.now columns new.presences.items)) read_table)

        states_left : length new.presences.items ≡ count_of classes
        states_left =
            ap (λ (l : Listed). length l.presences) left
            ∙ length-tabulate (count_of classes) (λ c. get_or (listed_table (room_table past.signature.now columns targets room)).presences (first_of classes c) 0)

        few_left : length new.presences.items ≤ most_states d.targets
        few_left = let few = few_numbered classes merge_right.numbered in omega (arith, states_left, few, merge_right.count, d.held.few_states)

        merge_held : IsHeld system.signature (length (columns_of (get_or parts k core.True))) d.targets new (listed_table (room_table past.signature.now columns targets new))
        merge_held = record {
          holds = moved_room new held;
          is = ap listed_table (sym (read_is new));
          few_states = few_left;
          few_targets = subst (λ (qs : List ℕ). length (own_targets qs new) ≤ length qs) targets_are fewer;
        }

        -- Result
        pub merge_done : IsFineStep system parts ss made (Merge k classes) new
        merge_done =
            let table = listed_table (room_table past.signature.now columns targets new) in
            record {
              next = with_answer made k (OfTable table);
              fine = subst (λ (t : Table). IsFine system parts made (Merge k classes) (with_answer made k (OfTable t))) (sym table_left)
                  (FineMerge d.table (all_entries past.signature.now columns new.presences.items) d.made_is merge_right merge_entries);
              after = λ qs only.
                  let same : d.targets ≡ qs = only_targets ss k d.targets qs (subst (λ (xs : List Step). IsOnlyAbout xs (Part k d.targets)) is.steps d.only) only in
                  record {
                    table = table;
                    held = subst (λ (xs : List ℕ). IsHeld system.signature (length (columns_of (get_or parts k core.True))) xs new table) same merge_held;
                    made_is = chosen (k == k) (OfTable table) (made.answers k) (itself k);
                    states_are = states_left ∙ all_classes classes merge_right.numbered;
                  };
            }

      -- one that fails
      merge_fails : (place : ℕ) (reason : outcomes.Reason) (o : MergeOutcome) → IsMergeOutcome (listed_table (room_table past.signature.now columns targets room)) classes o → step_outcome o ≡ Fails place reason
          → IsFailing system parts made (Merge k classes) place reason
      merge_fails place reason o told same = FailingMerge d.table o d.made_is (subst (λ (t : Table). IsMergeOutcome t classes o) read_table told) same

    -- what comes of it, by the targets of the part
    module _ {U : Type 0} (result : Result U Failure) (new : PartRoom) (targets : List ℕ) (columns : ℕ) (targets_are : (qs : List ℕ) → IsOnlyAbout (steps_of past) (Part k qs) → targets ≡ qs)
        (columns_are : columns ≡ p.columns) where
      pub merge_fine : OnOk result (IsMerge (listed_table (room_table past.signature.now columns targets room)) classes)
          → OnOk result (room_table past.signature.now columns targets new ≡ listed_merge (listed_table (room_table past.signature.now columns targets room)) classes (all_entries past.signature.now columns new.presences.items))
          → OnOk result (AreEntriesOf (merged (listed_table (room_table past.signature.now columns targets room)) classes) (all_entries past.signature.now columns new.presences.items)) → OnOk result (IsRoomTable past.signature.now columns targets new)
          → OnOk result (length (own_targets targets new) ≤ length targets) → OnOk result ((made : MadeSoFar) → IsDueBehind system parts ss plans rooms made f p s room scratch marks → IsFineStep system parts ss made s new)
      merge_fine right left are held fewer = by result right left are held fewer
        where
          by : (r : Result U Failure) → OnOk r (IsMerge (listed_table (room_table past.signature.now columns targets room)) classes)
              → OnOk r (room_table past.signature.now columns targets new ≡ listed_merge (listed_table (room_table past.signature.now columns targets room)) classes (all_entries past.signature.now columns new.presences.items))
              → OnOk r (AreEntriesOf (merged (listed_table (room_table past.signature.now columns targets room)) classes) (all_entries past.signature.now columns new.presences.items)) → OnOk r (IsRoomTable past.signature.now columns targets new)
              → OnOk r (length (own_targets targets new) ≤ length targets) → OnOk r ((made : MadeSoFar) → IsDueBehind system parts ss plans rooms made f p s room scratch marks → IsFineStep system parts ss made s new)
          by (Ok u) a b c h l = λ made due.
              let d = merge_due made due in
              subst (λ (x : Step). IsFineStep system parts ss made x new) (sym e) (merge_done made d targets columns (targets_are d.targets d.only) columns_are new a b c h l)
          by (Err x) a b c h l = tt

      pub merge_failing : ((o : MergeOutcome) × IsMergeOutcome (listed_table (room_table past.signature.now columns targets room)) classes o × (step_outcome o ≡ outcome_of result))
          → IfErr result (λ x. (made : MadeSoFar) → IsDueBehind system parts ss plans rooms made f p s room scratch marks → IsFailing system parts made s x.place (as_reason x.reason))
      merge_failing told = by result told
        where
          by : (r : Result U Failure) → ((o : MergeOutcome) × IsMergeOutcome (listed_table (room_table past.signature.now columns targets room)) classes o × (step_outcome o ≡ outcome_of r))
              → IfErr r (λ x. (made : MadeSoFar) → IsDueBehind system parts ss plans rooms made f p s room scratch marks → IsFailing system parts made s x.place (as_reason x.reason))
          by (Ok u) o = tt
          by (Err x) o = λ made due.
              let d = merge_due made due in
              subst (λ (y : Step). IsFailing system parts made y x.place (as_reason x.reason)) (sym e)
              (merge_fails made d targets columns (targets_are d.targets d.only) columns_are x.place (as_reason x.reason) o.0 o.1 o.2)

    pub merged_room : (new : PartRoom) → ((qs : List ℕ) → HasRoom qs room → HasRoom qs new) → ((qs : List ℕ) → HasMergeRoom qs room → HasMergeRoom qs new) → (all : List Step) → IsRoomFor all (part_in s) room
        → IsRoomFor all (part_in s) new
    merged_room new keeps stays all h = record {
      targets_fit = λ qs only. keeps qs (h.targets_fit qs only);
      classes_fit = λ qs only is. stays qs (h.classes_fit qs only is);
    }

    pub merge_marks : (made : MadeSoFar) → IsDueBehind system parts ss plans rooms made f p s room scratch marks → IsMarkRoomFor ss p.work marks
    merge_marks made h = subst (λ (xs : List Step). IsMarkRoomFor xs p.work marks) is.steps (merge_due made h).marks_sized

  module _ (k : ℕ) (own : List counts.Count) (e : s ≡ Counts k own) where
    pub counts_due : (made : MadeSoFar) → IsDueBehind system parts ss plans rooms made f p s room scratch marks → AreCountsDue system parts past k made f p own marks
    counts_due made h = subst (λ (x : Step). IsOwnDue system parts past made f p x room scratch marks) e (h past is)

    pub counts_fine : {U : Type 0} (result : Result U Failure) (new : PartRoom) → ((made : MadeSoFar) → AreCountsDue system parts past k made f p own marks → IsCountJudged parts made k own (outcome_of result))
        → OnOk result ((made : MadeSoFar) → IsDueBehind system parts ss plans rooms made f p s room scratch marks → IsFineStep system parts ss made s new)
    counts_fine (Ok u) new judged = λ made h.
        subst (λ (x : Step). IsFineStep system parts ss made x new) (sym e) (record { next = with_counts made k own; fine = FineCounts (judged made (counts_due made h)); after = tt })
    counts_fine (Err x) new judged = tt

    pub counts_failing : {U : Type 0} (result : Result U Failure) → ((made : MadeSoFar) → AreCountsDue system parts past k made f p own marks → IsCountJudged parts made k own (outcome_of result))
        → IfErr result (λ x. (made : MadeSoFar) → IsDueBehind system parts ss plans rooms made f p s room scratch marks → IsFailing system parts made s x.place (as_reason x.reason))
    counts_failing (Ok u) judged = tt
    counts_failing (Err x) judged = λ made h.
        subst (λ (y : Step). IsFailing system parts made y x.place (as_reason x.reason)) (sym e) (FailingCounts (judged made (counts_due made h)))

    pub counts_marks : (new : MarkRoom) → ((made : MadeSoFar) → AreCountsDue system parts past k made f p own marks → IsMarkRoomFor (steps_of past) p.work new) → (made : MadeSoFar)
        → IsDueBehind system parts ss plans rooms made f p s room scratch marks → IsMarkRoomFor ss p.work new
    counts_marks new keep made h = subst (λ (xs : List Step). IsMarkRoomFor xs p.work new) is.steps (keep made (counts_due made h))

  module _ (k : ℕ) (value : Bool) (e : s ≡ Value k value) where
    pub value_due : (made : MadeSoFar) → IsDueBehind system parts ss plans rooms made f p s room scratch marks → IsValueDue system parts past k made f p marks
    value_due made h = subst (λ (x : Step). IsOwnDue system parts past made f p x room scratch marks) e (h past is)

    pub value_fine : {U : Type 0} (result : Result U Failure) (new : PartRoom) → OnOk result ((made : MadeSoFar) → IsValueDue system parts past k made f p marks → IsValueOf parts made k f value)
        → OnOk result ((made : MadeSoFar) → IsDueBehind system parts ss plans rooms made f p s room scratch marks → IsFineStep system parts ss made s new)
    value_fine (Ok u) new right = λ made h.
        let d = value_due made h in
        subst (λ (x : Step). IsFineStep system parts ss made x new) (sym e)
        (record { next = with_answer made k (OfValue value); fine = FineValue (subst (λ (g : Core). IsValueOf parts made k g value) (sym d.due.part) (right made d)); after = tt })
    value_fine (Err x) new right = tt

    pub value_failing : {U : Type 0} (result : Result U Failure) → IfErr result (λ x. (made : MadeSoFar) → IsValueDue system parts past k made f p marks → IsOtherValue parts made k f value x)
        → IfErr result (λ x. (made : MadeSoFar) → IsDueBehind system parts ss plans rooms made f p s room scratch marks → IsFailing system parts made s x.place (as_reason x.reason))
    value_failing (Ok u) other = tt
    value_failing (Err x) other = λ made h.
        let d = value_due made h in
        let w = other made d in
        subst (λ (y : Step). IsFailing system parts made y x.place (as_reason x.reason)) (sym e)
        (subst (λ (r : outcomes.Reason). IsFailing system parts made (Value k value) x.place r) (sym (ap as_reason w.reason))
        (subst (λ (n : ℕ). IsFailing system parts made (Value k value) n outcomes.Value) (sym w.place)
        (FailingValue w.own (subst (λ (g : Core). IsValueOf parts made k g w.own) (sym d.due.part) w.is) w.other)))

    pub value_marks : (new : MarkRoom) → ((states count : ℕ) → HasMarkRoom states count marks → HasMarkRoom states count new) → (made : MadeSoFar) → IsDueBehind system parts ss plans rooms made f p s room scratch marks
        → IsMarkRoomFor ss p.work new
    value_marks new keep made h = marks_kept ss p.work marks new (subst (λ (xs : List Step). IsMarkRoomFor xs p.work marks) is.steps (value_due made h).marks_sized) keep
