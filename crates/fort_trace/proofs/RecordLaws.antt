-- The steps of a part make its answer, and the recording goes on with the next part.
use Rattle.std.proofs.Common.{◌≡◌, ℕ, zero, suc, ◌+◌, ◌<◌, ◌≤◌, List, [], ◌∷◌, ◌++◌, map, take, length, get_or, Bool, true, false, nat_lt, Option, None, Some, true≢false, refl, ap, sym, ◌∙◌, arith, subst, inl, inr, ⊎_elim, append_assoc, append-nil}
use Rattle.std.specs.declared.alloc.Global.{Global}
use Rattle.std.specs.declared.vec.Vec.{Vec}
use Rattle.std.proofs.lemmas.Bool.{cases_eq, cases_Bool, lt-ltb}
use Rattle.std.proofs.lemmas.List.{take_all, length-take-le, get_or_push, get_or_append_left}
use Rattle.std.proofs.Math.Seq.{take-suc}
use Rattle.std.proofs.lemmas.List.Elements.{Contains-get_or}
use Rattle.fort_theory.specs.Signatures.{most_columns}
use Rattle.fort_theory.specs.Patterns.{PatternSystem, IsSystem}
use Rattle.fort_theory.specs.Cores as core
use Rattle.fort_theory.specs.Cores.{Core}
use Rattle.fort_theory.specs.Parts.{BindsFree, IsClosed}
use Rattle.fort_theory.specs.PartLists.{AreParts}
use Rattle.fort_theory.specs.PatternStructures.{pattern_structure}
use Rattle.fort_tables.specs.Tables.{Listed, listed_table}
use Rattle.fort_parts.specs.PartColumns.{columns_of}
use Rattle.fort_parts.specs.PartAnswers.{Answer, OfTable, IsAnswerTo}
use Rattle.fort_parts.specs.DecidedCores.{IsDecided, IsOperandOf}
use Rattle.fort_parts.specs.RightAnswers.{IsRightBy}
use Rattle.fort_parts.specs.ToldParts.{ToldWith}
use Rattle.fort_parts.proofs.PartFacts.{BindsFree-part, columns_of-few}
use Rattle.fort_certificate_theory.specs.Certificates as certificates
use Rattle.fort_certificate_theory.specs.Dues.{DueStep, has_columns, is_turned, closures_due, counts_due, answer_due, parts_due}
use Rattle.fort_certificate_theory.specs.Made.{MadeSoFar, nothing_made, with_answer, IsPartAt, IsAnswerOf, OfStep, Turned}
use Rattle.fort_certificate_theory.specs.Checked.{AreSteps, last_value}
use Rattle.fort_certificate_theory.specs.Written.{IsWrittenStep}
use Rattle.fort_certificate_theory.proofs.RuleLaws.{part_one, answer_one}
use Rattle.fort_certificate_theory.proofs.FineSteps.{HasClosures}
use Rattle.fort_certificate_theory.proofs.CertifiedTruth.{moved_answer, asked_closures, last_part, no_columns_closed}
use Rattle.fort_certificate_theory.proofs.StepLists.{steps_append, parts_due-push}
use Rattle.fort_certificate_theory.proofs.AnsweredParts.{AreOperandsRight, AreCountsRight, HasLabels, answered_if_expression, labels_of, value_of}
use Rattle.fort_certificate_theory.proofs.StepsOfParts.{last_value-push, kept_answer, AreCountsDone, IsAnswerDone, no_counts_done, counts_done, value_done, table_done, merged_done, turned_done, HasClosures-written}
use Rattle.fort_certificate_theory.proofs.MergedTables.{listed_from_table}
use Rattle.fort_outline.specs.declared.outline.Outline.{Outline}
use Rattle.fort_outline.specs.Outlines.{AreLastUses, parts_in, core_at}
use Rattle.fort_engine.specs.declared.answer.Last.{Last}
use Rattle.fort_engine.specs.declared.answer.Last.TheVariants.{Truth, Auto}
use Rattle.fort_engine.specs.declared.answer.Decided.{Decided}
use Rattle.fort_engine.specs.declared.options.Options.{Options}
use Rattle.fort_engine.specs.AnswerView.{as_answer, KeepsCapAt}
use Rattle.fort_engine.specs.Kept.{HasRightAnswer, IsSoFar}
use Rattle.fort_engine.specs.Deciding.{HasOperands, IsPlanned, IsNextPart}
use Rattle.fort_engine.specs.Found.{is_negation, IsKeptAs, IsTableMade, IsAnswerMade, IsFound}
use Rattle.fort_outline.proofs.RootLaws.{length-cores_of}
use Rattle.fort_engine.proofs.DecideLaws.{HasRightAnswer-root, none_over}
use Rattle.fort_steps.specs.declared.step.Step.{Step}
use Rattle.fort_steps.specs.StepView.{as_step}
use Rattle.fort_trace.specs.Recording.{recorded_with, AddsSteps, AreOperandsMade, CountsPushed, CountsAdded, merge_of, TablePushed, HasTargets, AnswerAdded, HasRightSteps, IsPartRecorded, IsRecordedTo, AreRecordedTo, IsTraced}
use Rattle.fort_trace.proofs.AnswerLaws.{turned_answer}
use Rattle.fort_trace.proofs.CountLaws.{counts_added}

-- ---- one part

operands_right : (reduces : Bool) (system : PatternSystem) (cap : ℕ) (parts : List Core) (made : MadeSoFar) (kept : List (Option Last)) (f : Core) → HasOperands system (recorded_with cap reduces) parts kept f → AreOperandsMade parts made kept f
    → AreOperandsRight reduces system parts made f
operands_right reduces system cap parts made kept f operands made_are g o =
    let h = operands g o in
    let r = h.right h.earlier.place h.earlier.before h.earlier.is in
    record { answer = as_answer r.answer; made_is = made_are g o h.earlier.place r.answer h.earlier.before h.earlier.is r.is; right = r.right }

-- the counts of part k
record HasCountsDone (reduces : Bool) (system : PatternSystem) (parts : List Core) (k : ℕ) (made : MadeSoFar) (f : Core) (old new : List Step) : Type 0 where
  added : List certificates.Step
  mid : MadeSoFar
  all : map as_step new ≡ map as_step old ++ added
  done : AreCountsDone reduces system parts k made f added mid

module _ (reduces : Bool) (system : PatternSystem) (root : Core) (parts : List Core) (are : AreParts root parts) (k : ℕ) (made : MadeSoFar) (closures : HasClosures system parts (1 + length system.rules) made) where
  no_counts : (f : Core) (old new : List Step) → counts_due k f ≡ [] → AreCountsRight reduces system parts made k f → new ≡ old → HasCountsDone reduces system parts k made f old new
  no_counts f old new e counts same = record {
    added = [];
    mid = made;
    all = ap (map as_step) same ∙ sym (append-nil (map as_step old));
    done = no_counts_done reduces system parts k made closures f e counts;
  }

  counts_recorded : (f : Core) (old new : List Step) → get_or parts k core.True ≡ f → AreOperandsRight reduces system parts made f → CountsAdded parts made k f old new → HasCountsDone reduces system parts k made f old new
  counts_recorded core.True old new e operands h = no_counts core.True old new refl tt h
  counts_recorded (core.Leaf a) old new e operands h = no_counts (core.Leaf a) old new refl tt h
  counts_recorded (core.Not f) old new e operands h = no_counts (core.Not f) old new refl tt h
  counts_recorded (core.Binary op f g) old new e operands h = no_counts (core.Binary op f g) old new refl tt h
  counts_recorded (core.Exists n f) old new e operands h = no_counts (core.Exists n f) old new refl tt h
  counts_recorded (core.Infinite n f) old new e operands h =
      let r = operands f refl in
      let m = h.made_are in
      let same = answer_one root parts are made f r.answer (OfTable m.table) r.made_is m.body in
      record {
        added = certificates.Counts k h.counts ∷ [];
        mid = _;
        all = h.step;
        done = counts_done reduces system parts k made closures n f m.table m.are.states h.counts e m.body (subst (IsRightBy system (ToldWith reduces system) f) same r.right) m.are.pure m.are.counts;
      }

-- with columns a negation is turned
turned_negation : (f : Core) → has_columns f ≡ true → is_turned f ≡ is_negation f
turned_negation core.True h = refl
turned_negation (core.Leaf a) h = refl
turned_negation (core.Not f) h = h
turned_negation (core.Binary op f g) h = refl
turned_negation (core.Exists n f) h = refl
turned_negation (core.Infinite n f) h = refl

-- its answer
record HasAnswerDone (reduces : Bool) (system : PatternSystem) (parts : List Core) (k : ℕ) (made : MadeSoFar) (answer : Last) (old new : List Step) : Type 0 where
  added : List certificates.Step
  last : MadeSoFar
  all : map as_step new ≡ map as_step old ++ added
  done : IsAnswerDone reduces system parts k made (as_answer answer) added last
  value : (v : Bool) → answer ≡ Truth v → last_value (map as_step new) ≡ Some v

truth_same : (a b : Bool) → Truth a ≡ Truth b → a ≡ b
truth_same a b h = cc

module _ (reduces : Bool) (system : PatternSystem) (is : IsSystem system) (root : Core) (decided : IsDecided system root) (parts : List Core) (are : AreParts root parts) (k : ℕ) (within : k < length parts) where
  abbrev own : Core
  own = get_or parts k core.True

  binds : BindsFree own
  binds = BindsFree-part root own decided.well_formed.binders ((are.same own).1 (Contains-get_or parts k core.True within))

  few : length (columns_of own) ≤ most_columns
  few = columns_of-few root own decided.well_formed ((are.same own).1 (Contains-get_or parts k core.True within))

  -- a table is made by its targets, and where tables are reduced by its classes
  table_recorded : (cap : ℕ) (made : MadeSoFar) (table : Listed) (targets classes : Option (Vec ℕ Global)) (old new : List Step) → HasClosures system parts (1 + length system.rules) made → has_columns own ≡ true
      → is_turned own ≡ false → HasLabels reduces system parts made k own → IsTableMade system (recorded_with cap reduces) own table targets classes → length table.finals ≡ length table.presences
      → TablePushed k targets classes old new → HasAnswerDone reduces system parts k made (Auto table) old new
  table_recorded cap made table targets classes old new closures some plain labels m finals pushed =
      by reduces refl classes m.kept_as (subst (λ ts. TablePushed k ts classes old new) m.listed pushed)
    where
      by : (r : Bool) → reduces ≡ r → (cs : Option (Vec ℕ Global)) → IsKeptAs r m.made cs table → map as_step new ≡ map as_step old ++ certificates.Part k m.list.items ∷ merge_of k cs
          → HasAnswerDone reduces system parts k made (Auto table) old new
      by true e None kept all = absurd kept
      by true e (Some cs) kept all =
          let same = kept.merged in
          let l = listed_from_table (listed_table m.made) cs.items table same.signature same.columns_are same.presences same.targets same.accepting kept.lawful finals in
          let done = merged_done reduces system parts k made closures within e is m.made cs.items table.entries some plain labels m.lawful m.finals m.right kept.coarsest l.entries_are in
          let steps = certificates.Part k m.made.targets ∷ certificates.Merge k cs.items ∷ [] in
          record {
            added = steps;
            last = _;
            all = all ∙ ap (λ ts. map as_step old ++ certificates.Part k ts ∷ certificates.Merge k cs.items ∷ []) m.targets_are;
            done = subst (λ (t : Listed). IsAnswerDone reduces system parts k made (OfTable (listed_table t)) steps (with_answer (with_answer made k (OfTable (listed_table m.made))) k (OfTable (listed_table t)))) l.is done;
            value = λ v e. absurd cc;
          }
      by false e cs kept all =
          let done = table_done reduces system parts k made closures within e is m.made some plain labels m.lawful m.finals m.right in
          let steps = certificates.Part k m.made.targets ∷ [] in
          record {
            added = steps;
            last = _;
            all = all ∙ (ap (λ c. map as_step old ++ certificates.Part k m.list.items ∷ merge_of k c) kept.0 ∙ ap (λ ts. map as_step old ++ certificates.Part k ts ∷ []) m.targets_are);
            done = subst (λ (t : Listed). IsAnswerDone reduces system parts k made (OfTable (listed_table t)) steps (with_answer made k (OfTable (listed_table t)))) (sym kept.1) done;
            value = λ v e. absurd cc;
          }

  answer_recorded : (cap : ℕ) (made : MadeSoFar) (d : Decided) (answer : Last) (old new : List Step) → HasClosures system parts (1 + length system.rules) made → AreOperandsRight reduces system parts made own
      → AreCountsRight reduces system parts made k own → IsRightBy system (ToldWith reduces system) own (as_answer answer) → (is_turned own ≡ true → IsAnswerOf parts made own (as_answer answer))
      → (is_negation own ≡ false → IsAnswerMade system (recorded_with cap reduces) own d answer) → AnswerAdded k own answer d.targets d.classes old new → HasAnswerDone reduces system parts k made answer old new
  answer_recorded cap made d (Truth b) old new closures operands counts right turned made_by h =
      let none : has_columns own ≡ false = ap (λ xs. nat_lt 0 (length xs)) right.answers.over in
      let value = value_of reduces system is parts made k own b none binds operands counts right.answers in
      record {
        added = certificates.Value k b ∷ [];
        last = _;
        all = h;
        done = value_done reduces system parts k made closures within b none value;
        value = λ v e. ap last_value h ∙ (last_value-push (map as_step old) k b ∙ ap Some (truth_same b v e));
      }
  answer_recorded cap made d (Auto table) old new closures operands counts right turned made_by h =
      let some : has_columns own ≡ true = lt-ltb 0 (length (columns_of own)) right.answers.over.some in
      let same = turned_negation own some in
      elim (cases_Bool (is_negation own)) [
        | inl negation ↦ record {
          added = [];
          last = made;
          all = ap (map as_step) (h.turned negation) ∙ sym (append-nil (map as_step old));
          done = turned_done reduces system parts k made closures within (OfTable (listed_table table)) some (same ∙ negation) (turned (same ∙ negation));
          value = λ v e. absurd cc;
        }
        | inr other ↦
            let m = made_by other in
            let asked = asked_closures system root parts are is decided k made within closures in
            let answered = answered_if_expression reduces system own (OfTable (listed_table m.made)) m.right in
            let labels = labels_of reduces system is parts made k own some (same ∙ other) few binds asked answered operands counts in
            table_recorded cap made table d.targets d.classes old new closures some (same ∙ other) labels m h.finals (h.pushed other)
      ]

  -- Result
  pub part_recorded : (cap : ℕ) (kept : List (Option Last)) (made : MadeSoFar) (d : Decided) (answer : Last) (old mid new : List Step) → HasOperands system (recorded_with cap reduces) parts kept own → HasClosures system parts (1 + length system.rules) made
      → AreOperandsMade parts made kept own → CountsAdded parts made k own old mid → IsRightBy system (ToldWith reduces system) own (as_answer answer) → (is_turned own ≡ true → IsAnswerOf parts made own (as_answer answer))
      → (is_negation own ≡ false → IsAnswerMade system (recorded_with cap reduces) own d answer) → AnswerAdded k own answer d.targets d.classes mid new → IsPartRecorded reduces system parts k made answer old new
  part_recorded cap kept made d answer old mid new operands closures made_are counts right turned made_by added =
      let before = operands_right reduces system cap parts made kept own operands made_are in
      let c = counts_recorded reduces system root parts are k made closures own old mid refl before counts in
      let after : AreOperandsRight reduces system parts c.mid own =
      λ g o. let r = before g o in record { answer = r.answer; made_is = moved_answer parts made c.mid g r.answer (sym c.done.answers) r.made_is; right = r.right } in
      let a =
      answer_recorded cap c.mid d answer mid new c.done.closures after c.done.counts right (λ t. moved_answer parts made c.mid own (as_answer answer) (sym c.done.answers) (turned t)) made_by added in
      record {
        added = c.added ++ a.added;
        last = a.last;
        all = a.all ∙ (ap (λ xs. xs ++ a.added) c.all ∙ append_assoc (map as_step old) c.added a.added);
        done = steps_append (IsWrittenStep system parts) made c.mid a.last (counts_due k own) (answer_due (λ i. reduces) k own) c.added a.added c.done.done a.done.done;
        closures = a.done.closures;
        others = λ j other. a.done.others j other ∙ ap (λ (m : ℕ → Answer). m j) c.done.answers;
        is = a.done.is;
        value = a.value;
      }

-- ---- part after part

-- the answer of a part that has a step
made_at : (root : Core) (parts : List Core) → AreParts root parts → (k : ℕ) (made : MadeSoFar) (f : Core) (answer : Answer) → IsPartAt parts k f → is_turned f ≡ false → IsAnswerOf parts made f answer → made.answers k ≡ answer
made_at root parts are k made f answer at t (OfStep i p u a) = ap made.answers (part_one root parts are f k i at p) ∙ a
made_at root parts are k made f answer at t (Turned body h r) = absurd (true≢false (sym h ∙ t))

some_same : (a b : Last) → Some a ≡ Some b → a ≡ b
some_same a b h = cc

pub IsRecordedTo-none : (reduces : Bool) (system : PatternSystem) (parts : List Core) (uses : List ℕ) (steps : List Step) → AddsSteps system parts nothing_made (closures_due parts (length system.rules) 1) [] steps
    → IsRecordedTo reduces system parts uses 0 [] steps
IsRecordedTo-none reduces system parts uses steps h = record {
  made = h.last;
  done = subst (λ (ds : List DueStep). AreSteps (IsWrittenStep system parts) nothing_made ds (map as_step steps) h.last) (sym (append-nil (closures_due parts (length system.rules) 1)))
      (subst (λ (ss : List certificates.Step). AreSteps (IsWrittenStep system parts) nothing_made (closures_due parts (length system.rules) 1) ss h.last) (sym h.all) h.done);
  closures = HasClosures-written system parts h.last h.added h.done;
  right = λ j l m t. absurd (omega arith);
  kept_made = λ j a l m e. absurd (omega arith);
  value = λ j v l m e. absurd (omega arith);
}

module _ (reduces : Bool) (system : PatternSystem) (root : Core) (decided : IsDecided system root) (parts : List Core) (are : AreParts root parts) (place : ℕ) (uses : List ℕ) (last : AreLastUses parts place uses) (k : ℕ)
    (kept : List (Option Last)) (steps : List Step) (count : length kept ≡ k) (far : IsRecordedTo reduces system parts uses k kept steps) where
  operands_made : k < length parts → AreOperandsMade parts far.made kept (get_or parts k core.True)
  operands_made within g o j a l e f =
      let needed : k ≤ get_or uses j 0 = last.each j (omega arith) k within (subst (λ z. IsOperandOf z (get_or parts k core.True)) (sym e) o) in
      subst (λ (z : Core). IsAnswerOf parts far.made z (as_answer a)) e (far.kept_made j a (omega arith) needed f)

  module _ (within : k < length parts) (answer : Last) (right : IsRightBy system (ToldWith reduces system) (get_or parts k core.True) (as_answer answer)) (new : List Step) (part : IsPartRecorded reduces system parts k far.made answer steps new) where
    one_more : parts_due (λ i. reduces) 0 (take (k + 1) parts) ≡ parts_due (λ i. reduces) 0 (take k parts) ++ (counts_due k (get_or parts k core.True) ++ answer_due (λ i. reduces) k (get_or parts k core.True))
    one_more =
        let f = get_or parts k core.True in
        let n : k + 1 ≡ suc k = omega arith in
        let long : length (take k parts) ≡ k = length-take-le k parts (omega arith) in
        let at : 0 + length (take k parts) ≡ k = omega arith in
        ap (λ i. parts_due (λ i. reduces) 0 (take i parts)) n
        ∙ (ap (parts_due (λ i. reduces) 0) (take-suc parts k core.True within)
        ∙ (parts_due-push (λ i. reduces) 0 (take k parts) f
        ∙ ap (λ i. parts_due (λ i. reduces) 0 (take k parts) ++ (counts_due i f ++ answer_due (λ i. reduces) i f)) at))

    done_more : AreSteps (IsWrittenStep system parts) nothing_made (closures_due parts (length system.rules) 1 ++ parts_due (λ i. reduces) 0 (take (k + 1) parts)) (map as_step new) part.last
    done_more =
        let cs = closures_due parts (length system.rules) 1 in
        let f = get_or parts k core.True in
        let all = steps_append (IsWrittenStep system parts) nothing_made far.made part.last (cs ++ parts_due (λ i. reduces) 0 (take k parts)) (counts_due k f ++ answer_due (λ i. reduces) k f) (map as_step steps) part.added far.done part.done in
        subst (λ (ds : List DueStep). AreSteps (IsWrittenStep system parts) nothing_made ds (map as_step new) part.last)
        (append_assoc cs (parts_due (λ i. reduces) 0 (take k parts)) (counts_due k f ++ answer_due (λ i. reduces) k f) ∙ ap (λ ds. cs ++ ds) (sym one_more))
        (subst (λ (ss : List certificates.Step). AreSteps (IsWrittenStep system parts) nothing_made ((cs ++ parts_due (λ i. reduces) 0 (take k parts)) ++ (counts_due k f ++ answer_due (λ i. reduces) k f)) ss part.last) (sym part.all) all)

    right_more : HasRightSteps system parts (k + 1) part.last
    right_more j l m t =
        ⊎_elim
        (λ (e : j ≡ k).
        let own : is_turned (get_or parts k core.True) ≡ false = ap (λ i. is_turned (get_or parts i core.True)) (sym e) ∙ t in
        let at = made_at root parts are k part.last (get_or parts k core.True) (as_answer answer) (within, refl) own part.is in
        subst (λ (i : ℕ). IsAnswerTo (pattern_structure system) (get_or parts i core.True) (part.last.answers i)) (sym e)
        (subst (λ (a : Answer). IsAnswerTo (pattern_structure system) (get_or parts k core.True) a) (sym at) right.answers))
        (λ other. subst (λ (a : Answer). IsAnswerTo (pattern_structure system) (get_or parts j core.True) a) (sym (part.others j other)) (far.right j (omega arith) m t))
        (cases_eq j k)

    -- what is kept at a place
    at_end : get_or (kept ++ Some answer ∷ []) k None ≡ Some answer
    at_end = get_or_push kept (Some answer) None k count

    kept_more : (j : ℕ) (a : Last) → j < k + 1 → k + 1 ≤ get_or uses j 0 → get_or (kept ++ Some answer ∷ []) j None ≡ Some a → IsAnswerOf parts part.last (get_or parts j core.True) (as_answer a)
    kept_more j a l m there =
        ⊎_elim
        (λ (z : j ≡ k).
        let same : answer ≡ a = some_same answer a (sym at_end ∙ (ap (λ i. get_or (kept ++ Some answer ∷ []) i None) (sym z) ∙ there)) in
        subst (λ (i : ℕ). IsAnswerOf parts part.last (get_or parts i core.True) (as_answer a)) (sym z) (subst (λ (b : Last). IsAnswerOf parts part.last (get_or parts k core.True) (as_answer b)) same part.is))
        (λ other.
        let low : j < k = omega arith in
        let here : get_or kept j None ≡ Some a = sym (get_or_append_left kept (Some answer ∷ []) None j (omega arith)) ∙ there in
        kept_answer root parts are k far.made part.last part.others (get_or parts j core.True) (as_answer a) j low (omega arith) refl (far.kept_made j a low (omega arith) here))
        (cases_eq j k)

    pub IsRecordedTo-more : IsRecordedTo reduces system parts uses (k + 1) (kept ++ Some answer ∷ []) new
    IsRecordedTo-more = record {
      made = part.last;
      done = done_more;
      closures = part.closures;
      right = right_more;
      kept_made = kept_more;
      value = λ j v e m there.
          let z : j ≡ k = omega arith in
          part.value v (some_same answer (Truth v) (sym at_end ∙ (ap (λ i. get_or (kept ++ Some answer ∷ []) i None) (sym z) ∙ there)));
    }

  -- at the end
  pub IsTraced-end : k ≡ length parts → (n : ℕ) (answer : Last) → n + 1 ≡ k → k ≤ get_or uses n 0 → get_or parts n core.True ≡ root → get_or kept n None ≡ Some answer → IsTraced reduces system root answer steps
  IsTraced-end end n answer next needed at e =
      let cs = closures_due parts (length system.rules) 1 in
      let all : take k parts ≡ parts = take_all k parts (omega arith) in
      record {
        parts = parts;
        parts_are = are;
        made = far.made;
        done = subst (λ (ps : List Core). AreSteps (IsWrittenStep system parts) nothing_made (cs ++ parts_due (λ i. reduces) 0 ps) (map as_step steps) far.made) all far.done;
        is = subst (λ (f : Core). IsAnswerOf parts far.made f (as_answer answer)) at (far.kept_made n answer (omega arith) needed e);
        value = λ v same. far.value n v next needed (e ∙ ap Some same);
      }

-- ---- with what the engine knows

pub targets_there : (system : PatternSystem) (options : Options) (f : Core) (d : Decided) (answer : Last) → (is_negation f ≡ false → IsAnswerMade system options f d answer) → HasTargets f answer d.targets
targets_there system options f d (Truth b) made = tt
targets_there system options f d (Auto table) made = λ e. let m = made e in (m.list, m.listed)

pub AreRecordedTo-more : (reduces : Bool) (system : PatternSystem) → IsSystem system → (cap : ℕ) (o : Outline) (k : ℕ) (kept : List (Option Last)) → IsNextPart system (recorded_with cap reduces) o k kept → (d : Decided)
    → IsFound system (recorded_with cap reduces) (parts_in o) kept (core_at o k) d → (old mid new : List Step) → AreRecordedTo reduces system o k kept old → CountsPushed k d.counts old mid
    → AnswerAdded k (core_at o k) d.answer d.targets d.classes mid new → AreRecordedTo reduces system o (k + 1) (kept ++ Some d.answer ∷ []) new
AreRecordedTo-more reduces system is cap o k kept next d found old mid new h pushed added =
    let parts = parts_in o in
    let own = core_at o k in
    let uses = o.last_uses.items in
    let laid = next.laid in
    let far = h.recorded in
    let within : k < length parts = omega (arith, next.within, length-cores_of o.roots.items) in
    let made_are = operands_made reduces system next.formula next.decided parts laid.parts o.whole uses laid.uses k kept old next.count far within in
    let part =
    part_recorded reduces system is next.formula next.decided parts laid.parts k within cap kept far.made d d.answer old mid new next.operands far.closures made_are
    (counts_added parts far.made kept k d.counts old mid own made_are found.counted pushed) found.right
    (turned_answer system cap reduces parts far.made kept own d.answer next.operands made_are found.turned) (found.made refl) added in
    record {
      few = h.few;
      recorded =
          IsRecordedTo-more reduces system next.formula next.decided parts laid.parts o.whole uses laid.uses k kept old next.count far within d.answer found.right new part;
    }

module _ (reduces : Bool) (system : PatternSystem) (root : Core) (o : Outline) (plan : IsPlanned system root o) (cap k : ℕ) (kept : List (Option Last)) (far : IsSoFar system (recorded_with cap reduces) (parts_in o) o.last_uses.items k kept) where
  module _ (all : k ≡ length o.roots.items) where
    end : k ≡ length (parts_in o)
    end = all ∙ sym (length-cores_of o.roots.items)

    low : o.whole < length (parts_in o)
    low = omega (arith, plan.laid.within, length-cores_of o.roots.items)

    pub taken_right : HasRightAnswer system (recorded_with cap reduces) root (get_or kept o.whole None)
    taken_right = HasRightAnswer-root system (recorded_with cap reduces) root (parts_in o) plan.laid.parts o.whole o.last_uses.items plan.laid.uses k kept far end low plan.laid.whole_is

    pub none_over_end : KeepsCapAt system reduces root cap
    none_over_end ps j also l over = none_over system (recorded_with cap reduces) root (parts_in o) plan.laid.parts o.whole o.last_uses.items plan.laid.uses k kept far end ps j also l over

    -- the root is the last part
    root_last : (n : ℕ) → length (parts_in o) ≡ suc n → o.whole ≡ n
    root_last n e =
        let at = last_part root (parts_in o) plan.laid.parts n e in
        part_one root (parts_in o) plan.laid.parts root o.whole n (low, plan.laid.whole_is) (omega arith, at)

    pub IsTraced-root : (steps : List Step) → IsRecordedTo reduces system (parts_in o) o.last_uses.items k kept steps → (answer : Last) → get_or kept o.whole None ≡ Some answer
        → IsTraced reduces system root answer steps
    IsTraced-root steps recorded answer e =
        let next : o.whole + 1 ≡ k = by (length (parts_in o)) refl in
        IsTraced-end reduces system root plan.decided (parts_in o) plan.laid.parts o.whole o.last_uses.items plan.laid.uses k kept steps far.kept_are.count recorded end o.whole answer next
        (omega (arith, end, plan.laid.uses.whole_is)) plan.laid.whole_is e
      where
        by : (n : ℕ) → length (parts_in o) ≡ n → o.whole + 1 ≡ k
        by zero e = absurd (omega (arith, low))
        by (suc n) e = let at = root_last n e in omega (arith, end)

-- a closed formula has a truth
pub no_table : (system : PatternSystem) (f : Core) (answer : Last) (table : Listed) → IsClosed f → IsAnswerTo (pattern_structure system) f (as_answer answer) → answer ≡ Auto table → ⊥
no_table system f answer table closed h e =
    let right : IsAnswerTo (pattern_structure system) f (OfTable (listed_table table)) = subst (λ a. IsAnswerTo (pattern_structure system) f (as_answer a)) e h in
    let some : has_columns f ≡ true = lt-ltb 0 (length (columns_of f)) right.over.some in
    true≢false (sym some ∙ no_columns_closed f closed)
