-- A certificate in order proves its verdict: step after step, the counts and answers that are made are right, whatever is merged, and the last answer is that of the formula.
use Rattle.std.proofs.Common.{◌≡◌, ℕ, zero, suc, ◌+◌, ◌<◌, ◌≤◌, ◌⊎◌, List, [], ◌∷◌, ◌++◌, length, get_or, Bool, true, false, ◌==◌, ◌&&◌, if◌then◌else◌, Some, true≢false, refl, ap, sym, ◌∙◌, arith, subst, inl, inr, ⊎_elim}
use Rattle.std.specs.Prelude.{Contains}
use Rattle.std.specs.List.{list_any}
use Rattle.std.proofs.lemmas.Bool.{cases_lt}
use Rattle.std.proofs.lemmas.List.Elements.{Contains-get_or, Contains-push_cases, Contains-append_cases, Contains-append_left, Contains-append_right}
use Rattle.std.proofs.lemmas.List.{get_or_default}
use Rattle.fort_theory.proofs.Members.{Contains-cons_cases, Contains-none}
use Rattle.fort_theory.specs.Patterns.{PatternSystem, IsSystem}
use Rattle.fort_theory.specs.Cores as core
use Rattle.fort_theory.specs.Cores.{Core, Rel, Atom}
use Rattle.fort_theory.specs.Parts.{IsClosed, postorder}
use Rattle.fort_theory.specs.PartLists.{AreParts}
use Rattle.fort_theory.specs.PatternStructures.{pattern_structure}
use Rattle.fort_tables.specs.Tables.{Table, listed_table}
use Rattle.fort_tables.proofs.EqualTests.{test_from_apart, equal_from_test}
use Rattle.fort_tables.specs.Counts.{Count, KeepRules, count_at}
use Rattle.fort_parts.specs.PartColumns.{columns_of, place_in}
use Rattle.fort_parts.specs.PartAnswers.{Answer, OfTable, IsAnswerTo}
use Rattle.fort_parts.specs.PartAnswers as answers
use Rattle.fort_parts.specs.DecidedCores.{IsDecided, IsOverSystem, IsOperandOf, IsAtomOver}
use Rattle.fort_parts.proofs.PartColumnLaws.{is_free-from_column}
use Rattle.fort_parts.proofs.PartFacts.{IsOverSystem-part}
use Rattle.fort_parts.proofs.PartOrder.{Contains-postorder, operand_earlier}
use Rattle.fort_alike.specs.ListedClosures as listed_closures
use Rattle.fort_certificate_theory.specs.Certificates as certificates
use Rattle.fort_alike.specs.ListedClosures.{Which, Star, Conv, reads, asks, atom_asks}
use Rattle.fort_certificate_theory.specs.Certificates.{Step, Closure, Part, Merge, Counts, Certificate}
use Rattle.fort_certificate_theory.specs.Outcomes.{Fine}
use Rattle.fort_certificate_theory.specs.MergeSteps.{listed_merge}
use Rattle.fort_certificate_theory.specs.Dues.{DueStep, OfPart, OfMerge, OfCounts, OfValue, due_of, closures_due, has_columns, is_turned, counts_due, table_due, answer_due, parts_due, is_merged_in, dues_of}
use Rattle.fort_certificate_theory.specs.Made.{MadeSoFar, nothing_made, with_counts, with_answer, IsAnswerOf, OfStep, Turned}
use Rattle.fort_certificate_theory.specs.PartRules.{IsCounted, IsLocalOf, IsValueOf}
use Rattle.fort_certificate_theory.specs.Checked.{IsClosureJudged, IsFine, FineValue, AreSteps, NoSteps, MoreSteps, last_value, AreAllFine, IsChecked, InOrder, OtherVerdict, FailingStep, Outcome, Certified, IsInOrder}
use Rattle.fort_certificate_theory.proofs.CountOutcomes.{KeepRules-right}
use Rattle.fort_certificate_theory.proofs.RuleLaws.{part_one, counted_one}
use Rattle.fort_certificate_theory.proofs.CheckedLaws.{number_same, under_same}
use Rattle.fort_certificate_theory.proofs.AtomTables.{HasClosuresFor}
use Rattle.fort_certificate_theory.proofs.RightParts.{some_columns, HasCountsFor, HasAnswers, IsRight, local_right, value_right}
use Rattle.fort_certificate_theory.proofs.MergedTables.{IsAnswerTo-listed_merge}
use Rattle.fort_certificate_theory.proofs.FineSteps.{cut_steps, counts_step, part_step, merge_step, value_step, one_step, no_step, chosen, passed_over, itself, value_number, HasClosures, closures_done}

-- answers by what was made depend on the answers that were made alone
pub moved_answer : (parts : List Core) (made other : MadeSoFar) (f : Core) (answer : Answer) → made.answers ≡ other.answers → IsAnswerOf parts made f answer → IsAnswerOf parts other f answer
moved_answer parts made other f answer e (OfStep k p t a) = OfStep k p t (sym (ap (λ (g : ℕ → Answer). g k) e) ∙ a)
moved_answer parts made other f answer e (Turned {f = g} body h r) = Turned body h (moved_answer parts made other g (OfTable body) e r)

pub moved_counted : (parts : List Core) (made other : MadeSoFar) (n : ℕ) (f : Core) (body : Table) (states : List ℕ) → made.answers ≡ other.answers → IsCounted parts made n f body states → IsCounted parts other n f body states
moved_counted parts made other n f body states e h = record { body_is = moved_answer parts made other f (OfTable body) e h.body_is; pure = h.pure }

-- ---- which closures a formula asks for

and_second : (a b : Bool) → (a && b) ≡ true → b ≡ true
and_second true b h = h
and_second false b h = absurd cc

asked_by : (system : PatternSystem) (which : Which) (i : ℕ) (a : Atom) → atom_asks which i a ≡ true → IsAtomOver system a → (1 ≤ i) × (i ≤ length system.rules)
asked_by system which i (core.Related rel index x y) h o =
    let e = equal_from_test index i (and_second (reads which rel) (index == i) h) in (omega (arith, o.low), omega (arith, o.high))
asked_by system which i (core.InContext e number place x y) h o = absurd cc
asked_by system which i (core.Normal index x) h o = absurd cc
asked_by system which i (core.IsTerm x term) h o = absurd cc

asked_index : (system : PatternSystem) (which : Which) (i : ℕ) (f : Core) → asks which i f ≡ true → IsOverSystem system f → (1 ≤ i) × (i ≤ length system.rules)
asked_index system which i core.True h o = absurd cc
asked_index system which i (core.Leaf a) h o = asked_by system which i a h o
asked_index system which i (core.Not f) h o = absurd cc
asked_index system which i (core.Binary op f g) h o = absurd cc
asked_index system which i (core.Exists n f) h o = absurd cc
asked_index system which i (core.Infinite n f) h o = absurd cc

any_from : {A : Type 0} (p : A → Bool) (xs : List A) (x : A) → Contains xs x → p x ≡ true → list_any p xs ≡ true
any_from p [] x c e = absurd (Contains-none x c)
any_from p (y ∷ xs) x c e = by (λ k. any_from p xs x k e) (p y) refl
  where
    by : (Contains xs x → list_any p xs ≡ true) → (b : Bool) → p y ≡ b → list_any p (y ∷ xs) ≡ true
    by rest true h = rw h refl
    by rest false h = rw h (⊎_elim (λ s. absurd (true≢false (sym e ∙ (ap p (sym s) ∙ h)))) rest (Contains-cons_cases y xs x c))

-- ---- the steps of one part

module _ (system : PatternSystem) (root : Core) (parts : List Core) (are : AreParts root parts) where
  record IsCountsDone (k : ℕ) (f : Core) (made next : MadeSoFar) : Type 0 where
    counts : HasCountsFor parts next k f
    answers : next.answers ≡ made.answers
    closures : next.closures ≡ made.closures

  no_counts : (k : ℕ) (f : Core) (made next : MadeSoFar) (ss : List Step) → ((n : ℕ) (g : Core) → f ≡ core.Infinite n g → ⊥) → AreSteps (IsFine system parts) made [] ss next → IsCountsDone k f made next
  no_counts k f made next ss other h =
      subst (λ (x : MadeSoFar). IsCountsDone k f made x) (no_step (IsFine system parts) made next ss h) (record {
        counts = λ n g body states e c. absurd (other n g e);
        answers = refl;
        closures = refl;
      })

  some_counts : (k n : ℕ) (f : Core) (made next : MadeSoFar) (ss : List Step) → get_or parts k core.True ≡ core.Infinite n f → AreSteps (IsFine system parts) made (OfCounts k ∷ []) ss next
      → IsCountsDone k (core.Infinite n f) made next
  some_counts k n f made next ss part h =
      let s = one_step (IsFine system parts) made next (OfCounts k) ss h in
      let m = counts_step system parts made s.0 next k s.1 s.2 in
      let j = m.judged in
      let other = with_counts made k m.marks in
      subst (λ (x : MadeSoFar). IsCountsDone k (core.Infinite n f) made x) (sym m.is) (record {
        counts = λ i g body states e c.
            let same : core.Infinite j.number j.body ≡ core.Infinite i g = sym j.part ∙ (part ∙ e) in
            let a : j.number ≡ i = number_same j.number i j.body g same in
            let b : j.body ≡ g = under_same j.number i j.body g same in
            let d : IsCounted parts made i g j.table j.states =
            subst (λ (z : ℕ). IsCounted parts made z g j.table j.states) a (subst (λ (z : Core). IsCounted parts made j.number z j.table j.states) b j.counted) in
            let one = counted_one root parts are made i g j.table body j.states states d (moved_counted parts other made i g body states refl c) in
            let keep : KeepRules j.table (place_in (columns_of j.body) j.number) (count_at j.states m.marks) = KeepRules-right j.table (place_in (columns_of j.body) j.number) j.states m.marks j.counted.pure j.is in
            let here : KeepRules j.table (place_in (columns_of g) i) (count_at j.states m.marks) =
            subst (λ (z : ℕ). KeepRules j.table (place_in (columns_of g) z) (count_at j.states m.marks)) a (subst (λ (z : Core). KeepRules j.table (place_in (columns_of z) j.number) (count_at j.states m.marks)) b keep) in
            let there : KeepRules body (place_in (columns_of g) i) (count_at states m.marks) =
            subst (λ (zs : List ℕ). KeepRules body (place_in (columns_of g) i) (count_at zs m.marks)) one.states (subst (λ (z : Table). KeepRules z (place_in (columns_of g) i) (count_at j.states m.marks)) one.table here) in
            subst (λ (z : List Count). KeepRules body (place_in (columns_of g) i) (count_at states z)) (sym (chosen (k == k) m.marks (made.counts k) (itself k))) there;
        answers = refl;
        closures = refl;
      })

  counts_done : (k : ℕ) (f : Core) (made next : MadeSoFar) (ss : List Step) → get_or parts k core.True ≡ f → AreSteps (IsFine system parts) made (counts_due k f) ss next → IsCountsDone k f made next
  counts_done k core.True made next ss e h = no_counts k core.True made next ss (λ n g d. cc) h
  counts_done k (core.Leaf a) made next ss e h = no_counts k (core.Leaf a) made next ss (λ n g d. cc) h
  counts_done k (core.Not f) made next ss e h = no_counts k (core.Not f) made next ss (λ n g d. cc) h
  counts_done k (core.Binary op f g) made next ss e h = no_counts k (core.Binary op f g) made next ss (λ n i d. cc) h
  counts_done k (core.Exists n f) made next ss e h = no_counts k (core.Exists n f) made next ss (λ i g d. cc) h
  counts_done k (core.Infinite n f) made next ss e h = some_counts k n f made next ss e h

  module _ (is : IsSystem system) (decided : IsDecided system root) where
    abbrev Right : Core → Answer → Type 0
    Right f answer = IsRight system is root decided parts are f answer

    abbrev Has : ℕ → MadeSoFar → Type 0
    Has k made = HasAnswers system is root decided parts are k made

    record IsAnswerDone (k : ℕ) (f : Core) (made next : MadeSoFar) : Type 0 where
      right : is_turned f ≡ false → Right f (next.answers k)
      others : (j : ℕ) → (j ≡ k → ⊥) → next.answers j ≡ made.answers j
      closures : next.closures ≡ made.closures

    answered : (k : ℕ) (f : Core) (made : MadeSoFar) (answer : Answer) → Right f answer → IsAnswerDone k f made (with_answer made k answer)
    answered k f made answer right = record {
      right = λ t. subst (λ (x : Answer). Right f x) (sym (chosen (k == k) answer (made.answers k) (itself k))) right;
      others = λ j other. passed_over (j == k) answer (made.answers j) (test_from_apart j k other);
      closures = refl;
    }

    -- a merge of the table that was made
    merge_done : (k : ℕ) (f : Core) (made mid next : MadeSoFar) (ss : List Step) → is_turned f ≡ false → IsAnswerDone k f made mid → AreSteps (IsFine system parts) mid (OfMerge k ∷ []) ss next
        → IsAnswerDone k f made next
    merge_done k f made mid next ss t done h =
        let s = one_step (IsFine system parts) mid next (OfMerge k) ss h in
        let m = merge_step system parts mid s.0 next k s.1 s.2 in
        let old : Right f (OfTable m.table) = subst (λ (x : Answer). Right f x) m.table_is (done.right t) in
        let new = answered k f mid (OfTable (listed_table (listed_merge m.table m.classes m.entries))) (IsAnswerTo-listed_merge system f m.table m.classes m.entries old m.merge m.entries_are) in
        subst (λ (x : MadeSoFar). IsAnswerDone k f made x) (sym m.is) (record {
          right = new.right;
          others = λ j other. new.others j other ∙ done.others j other;
          closures = done.closures;
        })

    answer_done : (merges : ℕ → Bool) (k : ℕ) (f : Core) (made next : MadeSoFar) (ss : List Step) → k < length parts → get_or parts k core.True ≡ f → Has k made → HasClosuresFor system made f → HasCountsFor parts made k f
        → AreSteps (IsFine system parts) made (answer_due merges k f) ss next → IsAnswerDone k f made next
    answer_done merges k f made next ss l e has closures counts h = by (has_columns f) (is_turned f) refl refl h
      where
        own_counts : HasCountsFor parts made k (get_or parts k core.True)
        own_counts = subst (HasCountsFor parts made k) (sym e) counts

        table_made : (mid : MadeSoFar) (ts : List Step) → has_columns f ≡ true → AreSteps (IsFine system parts) made (OfPart k ∷ []) ts mid → IsAnswerDone k f made mid
        table_made mid ts m g =
            let s = one_step (IsFine system parts) made mid (OfPart k) ts g in
            let p = part_step system parts made s.0 mid k s.1 s.2 in
            let right = local_right system is root decided parts are k l made has f p.local p.table e m closures own_counts (subst (λ (z : Core). IsLocalOf system parts made k z p.local) e p.local_is) p.by in
            subst (λ (x : MadeSoFar). IsAnswerDone k f made x) (sym p.is) (answered k f made (OfTable p.table) right)

        merged_or_not : (b : Bool) (mid : MadeSoFar) (ts : List Step) → is_turned f ≡ false → IsAnswerDone k f made mid → AreSteps (IsFine system parts) mid (if b then (OfMerge k ∷ []) else []) ts next
            → IsAnswerDone k f made next
        merged_or_not true mid ts t done g = merge_done k f made mid next ts t done g
        merged_or_not false mid ts t done g = subst (λ (x : MadeSoFar). IsAnswerDone k f made x) (no_step (IsFine system parts) mid next ts g) done

        by : (b c : Bool) → has_columns f ≡ b → is_turned f ≡ c → AreSteps (IsFine system parts) made (if b then (if c then [] else table_due merges k) else (OfValue k ∷ [])) ss next → IsAnswerDone k f made next
        by true true m t g =
            subst (λ (x : MadeSoFar). IsAnswerDone k f made x) (no_step (IsFine system parts) made next ss g) (record {
              right = λ other. absurd (true≢false (sym t ∙ other));
              others = λ j other. refl;
              closures = refl;
            })
        by true false m t g =
            let c = cut_steps (IsFine system parts) made (OfPart k ∷ []) (if merges k then (OfMerge k ∷ []) else []) ss next g in
            merged_or_not (merges k) c.mid c.rest t (table_made c.mid c.front m c.first) c.second
        by false c m t g =
            let s = one_step (IsFine system parts) made next (OfValue k) ss g in
            let p = value_step system parts made s.0 next k s.1 s.2 in
            let right = value_right system is root decided parts are k l made has f p.value e m own_counts (subst (λ (z : Core). IsValueOf parts made k z p.value) e p.value_is) in
            subst (λ (x : MadeSoFar). IsAnswerDone k f made x) (sym p.is) (answered k f made (answers.OfValue p.value) right)

    -- ---- all parts

    -- the same of the closures alone
    abbrev AreRightBelow : ℕ → (Which → ℕ → List listed_closures.Pair) → Type 0
    AreRightBelow i made = (which : Which) (j : ℕ) → 1 ≤ j → j < i → list_any (asks which j) parts ≡ true → IsClosureJudged system which j (made which j) Fine

    pub asked_closures : (k : ℕ) (made : MadeSoFar) → k < length parts → HasClosures system parts (1 + length system.rules) made → HasClosuresFor system made (get_or parts k core.True)
    asked_closures k made l has which i asked =
        let f = get_or parts k core.True in
        let c = Contains-get_or parts k core.True l in
        let o = IsOverSystem-part system root f decided.over ((are.same f).1 c) in
        let w = asked_index system which i f asked o in
        has which i w.0 (omega (arith, w.1)) (any_from (asks which i) parts f c asked)

    parts_done : (merges : ℕ → Bool) (fs : List Core) (k : ℕ) (made last : MadeSoFar) (ss : List Step) → length parts ≡ k + length fs → ((j : ℕ) → get_or fs j core.True ≡ get_or parts (k + j) core.True)
        → Has k made → HasClosures system parts (1 + length system.rules) made → AreSteps (IsFine system parts) made (parts_due merges k fs) ss last → Has (length parts) last
    parts_done merges [] k made last ss count at has closures h =
        let e : k ≡ length parts = omega arith in
        subst (λ (n : ℕ). Has n last) e (subst (λ (x : MadeSoFar). Has k x) (no_step (IsFine system parts) made last ss h) has)
    parts_done merges (f ∷ fs) k made last ss count at has closures h =
        let l : k < length parts = omega arith in
        let zero_more : k + 0 ≡ k = omega arith in
        let own : get_or parts k core.True ≡ f = sym (at 0 ∙ ap (λ i. get_or parts i core.True) zero_more) in
        let c = cut_steps (IsFine system parts) made (counts_due k f) (answer_due merges k f ++ parts_due merges (suc k) fs) ss last h in
        let d = cut_steps (IsFine system parts) c.mid (answer_due merges k f) (parts_due merges (suc k) fs) c.rest last c.second in
        let counts = counts_done k f made c.mid c.front own c.first in
        let has_mid : Has k c.mid = λ j m n t. subst (λ (g : ℕ → Answer). Right (get_or parts j core.True) (g j)) (sym counts.answers) (has j m n t) in
        let closures_mid : HasClosures system parts (1 + length system.rules) c.mid = subst (λ (g : Which → ℕ → List listed_closures.Pair). AreRightBelow (1 + length system.rules) g) (sym counts.closures) closures in
        let asked : HasClosuresFor system c.mid f = subst (HasClosuresFor system c.mid) own (asked_closures k c.mid l closures_mid) in
        let answer = answer_done merges k f c.mid d.mid d.front l own has_mid asked counts.counts d.first in
        let has_next : Has (suc k) d.mid =
        λ j m n t. ⊎_elim
        (λ (b : j < k). let apart : j ≡ k → ⊥ = λ z. omega arith in subst (λ (x : Answer). Right (get_or parts j core.True) x) (sym (answer.others j apart)) (has_mid j b n t))
        (λ (b : k ≤ j).
        let z : k ≡ j = omega arith in
        let turned : is_turned f ≡ false = ap is_turned (sym own ∙ ap (λ i. get_or parts i core.True) z) ∙ t in
        subst (λ (i : ℕ). Right (get_or parts i core.True) (d.mid.answers i)) z (subst (λ (g : Core). Right g (d.mid.answers k)) (sym own) (answer.right turned)))
        (cases_lt j k) in
        let closures_next : HasClosures system parts (1 + length system.rules) d.mid = subst (λ (g : Which → ℕ → List listed_closures.Pair). AreRightBelow (1 + length system.rules) g) (sym answer.closures) closures_mid in
        parts_done merges fs (suc k) d.mid last d.rest (omega arith) (λ j. let i : k + suc j ≡ suc k + j = omega arith in at (suc j) ∙ ap (λ z. get_or parts z core.True) i) has_next closures_next d.second

-- ---- the last answer

-- the last of some dues
data EndsIn : List DueStep → DueStep → Type 0 where
  AtEnd : {d : DueStep} → EndsIn (d ∷ []) d
  Behind : {e d : DueStep} {ds : List DueStep} → EndsIn ds d → EndsIn (e ∷ ds) d

ends_nothing : (ds : List DueStep) (d : DueStep) → EndsIn ds d → ds ≡ [] → ⊥
ends_nothing ds d AtEnd e = cc
ends_nothing ds d (Behind h) e = cc

ends_append : (ds es : List DueStep) (d : DueStep) → EndsIn es d → EndsIn (ds ++ es) d
ends_append [] es d h = h
ends_append (e ∷ ds) es d h = Behind (ends_append ds es d h)

parts_end : (merges : ℕ → Bool) (fs : List Core) (k n : ℕ) → length fs ≡ suc n → has_columns (get_or fs n core.True) ≡ false → EndsIn (parts_due merges k fs) (OfValue (k + n))
parts_end merges [] k n e none = absurd (omega arith)
parts_end merges (f ∷ []) k zero e none =
    let z : k ≡ k + 0 = omega arith in
    let due : (OfValue k ∷ []) ≡ answer_due merges k f = sym (passed_over (has_columns f) (if is_turned f then [] else table_due merges k) (OfValue k ∷ []) none) in
    ends_append (counts_due k f) (answer_due merges k f ++ []) (OfValue (k + 0))
    (subst (λ (ds : List DueStep). EndsIn (ds ++ []) (OfValue (k + 0))) due (subst (λ (i : ℕ). EndsIn (OfValue k ∷ []) (OfValue i)) z AtEnd))
parts_end merges (f ∷ []) k (suc n) e none = absurd (omega arith)
parts_end merges (f ∷ g ∷ fs) k zero e none = absurd (omega arith)
parts_end merges (f ∷ g ∷ fs) k (suc n) e none =
    let z : suc k + n ≡ k + suc n = omega arith in
    ends_append (counts_due k f) (answer_due merges k f ++ parts_due merges (suc k) (g ∷ fs)) (OfValue (k + suc n))
    (ends_append (answer_due merges k f) (parts_due merges (suc k) (g ∷ fs)) (OfValue (k + suc n))
    (subst (λ (i : ℕ). EndsIn (parts_due merges (suc k) (g ∷ fs)) (OfValue i)) z (parts_end merges (g ∷ fs) (suc k) n (omega arith) none)))

module _ (system : PatternSystem) (parts : List Core) where
  own_value : (s : Step) (v : Bool) → last_value (s ∷ []) ≡ Some v → (k : ℕ) × (s ≡ certificates.Value k v)
  own_value (Closure which index items) v e = absurd cc
  own_value (Part k targets) v e = absurd cc
  own_value (Merge k classes) v e = absurd cc
  own_value (Counts k marks) v e = absurd cc
  own_value (certificates.Value k u) v e = let same : u ≡ v = cc in (k, ap (certificates.Value k) same)

  value_made : (made next : MadeSoFar) (k i : ℕ) (v : Bool) → due_of (certificates.Value i v) ≡ OfValue k → IsFine system parts made (certificates.Value i v) next → next.answers k ≡ answers.OfValue v
  value_made made next k i v e h =
      let p = value_is made i v next h in
      let same = value_number i k e in
      ap (λ (m : MadeSoFar). m.answers k) p ∙ (ap (λ j. (with_answer made j (answers.OfValue v)).answers k) same ∙ chosen (k == k) (answers.OfValue v) (made.answers k) (itself k))
    where
      value_is : (m : MadeSoFar) (j : ℕ) (w : Bool) (n : MadeSoFar) → IsFine system parts m (certificates.Value j w) n → n ≡ with_answer m j (answers.OfValue w)
      value_is m j w n (FineValue g) = refl

  last_made : (made last : MadeSoFar) (ds : List DueStep) (ss : List Step) (k : ℕ) (v : Bool) → AreSteps (IsFine system parts) made ds ss last → EndsIn ds (OfValue k) → last_value ss ≡ Some v → last.answers k ≡ answers.OfValue v
  last_made made last ds ss k v NoSteps end e = absurd cc
  last_made made last ds ss k v (MoreSteps {s = s} d h NoSteps) AtEnd e =
      let w = own_value s v e in
      value_made made last k w.0 v (ap due_of (sym w.1) ∙ d) (subst (λ (z : Step). IsFine system parts made z last) w.1 h)
  last_made made last ds ss k v (MoreSteps d h NoSteps) (Behind end) e = absurd (ends_nothing [] (OfValue k) end refl)
  last_made made last ds ss k v (MoreSteps {next = next} d h (MoreSteps {s = t} {d = d'} {ds = es} {ss = ts} d'' h' more)) (Behind end) e =
      last_made next last (d' ∷ es) (t ∷ ts) k v (MoreSteps d'' h' more) end e

-- ---- the root is the last part

-- each formula in the postorder is the root, or an operand of one there
record IsUnder (root g : Core) : Type 0 where
  whole : Core
  among : Contains (postorder root) whole
  operand : IsOperandOf g whole

under_one : (f h g : Core) → postorder h ≡ postorder f ++ h ∷ [] → IsOperandOf f h → ((x : Core) → Contains (postorder f) x → (x ≡ f) ⊎ IsUnder f x) → Contains (postorder h) g → (g ≡ h) ⊎ IsUnder h g
under_one f h g e o each c =
    ⊎_elim
    (λ d. ⊎_elim
    (λ is. inr (record { whole = h; among = Contains-postorder h; operand = subst (λ (x : Core). IsOperandOf x h) (sym is) o }))
    (λ u. inr (record { whole = u.whole; among = subst (λ (xs : List Core). Contains xs u.whole) (sym e) (Contains-append_left (postorder f) (h ∷ []) u.whole u.among); operand = u.operand }))
    (each g d))
    (λ is. inl (sym is))
    (Contains-push_cases (postorder f) h g (subst (λ (xs : List Core). Contains xs g) e c))

under_two : (f k h g : Core) → postorder h ≡ postorder f ++ (postorder k ++ h ∷ []) → IsOperandOf f h → IsOperandOf k h → ((x : Core) → Contains (postorder f) x → (x ≡ f) ⊎ IsUnder f x)
    → ((x : Core) → Contains (postorder k) x → (x ≡ k) ⊎ IsUnder k x) → Contains (postorder h) g → (g ≡ h) ⊎ IsUnder h g
under_two f k h g e o p first second c =
    ⊎_elim
    (λ d. ⊎_elim
    (λ is. inr (record { whole = h; among = Contains-postorder h; operand = subst (λ (x : Core). IsOperandOf x h) (sym is) o }))
    (λ u. inr (record { whole = u.whole; among = subst (λ (xs : List Core). Contains xs u.whole) (sym e) (Contains-append_left (postorder f) (postorder k ++ h ∷ []) u.whole u.among); operand = u.operand }))
    (first g d))
    (λ d. ⊎_elim
    (λ b. ⊎_elim
    (λ is. inr (record { whole = h; among = Contains-postorder h; operand = subst (λ (x : Core). IsOperandOf x h) (sym is) p }))
    (λ u. inr (record { whole = u.whole; among = subst (λ (xs : List Core). Contains xs u.whole) (sym e) (Contains-append_right (postorder f) (postorder k ++ h ∷ []) u.whole (Contains-append_left (postorder k) (h ∷ []) u.whole u.among)); operand = u.operand }))
    (second g b))
    (λ is. inl (sym is))
    (Contains-push_cases (postorder k) h g d))
    (Contains-append_cases (postorder f) (postorder k ++ h ∷ []) g (subst (λ (xs : List Core). Contains xs g) e c))

only_one : (h g : Core) → Contains (h ∷ []) g → (g ≡ h) ⊎ IsUnder h g
only_one h g c = ⊎_elim (λ e. inl (sym e)) (λ n. absurd (Contains-none g n)) (Contains-cons_cases h [] g c)

under : (h g : Core) → Contains (postorder h) g → (g ≡ h) ⊎ IsUnder h g
under core.True g c = only_one core.True g c
under (core.Leaf a) g c = only_one (core.Leaf a) g c
under (core.Not f) g c = under_one f (core.Not f) g refl refl (λ x d. under f x d) c
under (core.Binary op f k) g c = under_two f k (core.Binary op f k) g refl (inl refl) (inr refl) (λ x d. under f x d) (λ x d. under k x d) c
under (core.Exists n f) g c = under_one f (core.Exists n f) g refl refl (λ x d. under f x d) c
under (core.Infinite n f) g c = under_one f (core.Infinite n f) g refl refl (λ x d. under f x d) c

pub last_part : (root : Core) (parts : List Core) → AreParts root parts → (n : ℕ) → length parts ≡ suc n → get_or parts n core.True ≡ root
last_part root parts are n count =
    let g = get_or parts n core.True in
    let l : n < length parts = omega arith in
    ⊎_elim (λ e. e)
    (λ u.
    let at = (are.same u.whole).0 u.among in
    let place : get_or parts at.0 core.True ≡ u.whole = get_or_default parts at.0 core.True u.whole at.1 ∙ at.2 in
    let before = operand_earlier root parts are at.0 at.1 g (subst (IsOperandOf g) (sym place) u.operand) in
    let same : before.place ≡ n = part_one root parts are g before.place n (omega (arith, before.before, at.1), before.is) (l, refl) in
    absurd (omega (arith, before.before, at.1)))
    (under root g ((are.same g).1 (Contains-get_or parts n core.True l)))

-- ---- the theorem

pub no_columns_closed : (f : Core) → IsClosed f → has_columns f ≡ false
no_columns_closed f closed = by (has_columns f) refl
  where
    by : (b : Bool) → has_columns f ≡ b → has_columns f ≡ false
    by false e = e
    by true e = absurd (let l = some_columns f e in closed (get_or (columns_of f) 0 0) (is_free-from_column f (get_or (columns_of f) 0 0) (Contains-get_or (columns_of f) 0 0 l)))

pub turned_closed : (f : Core) → has_columns f ≡ false → is_turned f ≡ false
turned_closed core.True h = refl
turned_closed (core.Leaf a) h = refl
turned_closed (core.Not f) h = h
turned_closed (core.Binary op f g) h = refl
turned_closed (core.Exists n f) h = refl
turned_closed (core.Infinite n f) h = refl

-- the steps of a certificate in order
record IsFineTo (system : PatternSystem) (parts : List Core) (c : Certificate) (verdict : Bool) : Type 0 where
  made : MadeSoFar
  steps : AreAllFine system parts c.steps made
  last : last_value c.steps ≡ Some verdict

verdict_same : (u v : Bool) → Certified u ≡ Certified v → u ≡ v
verdict_same u v h = cc

fine_to : (system : PatternSystem) (parts : List Core) (c : Certificate) (verdict : Bool) (o : Outcome) → IsChecked system parts c o → o ≡ Certified verdict → IsFineTo system parts c verdict
fine_to system parts c verdict o (InOrder made steps last) e = record { made = made; steps = steps; last = last ∙ ap Some (verdict_same c.verdict verdict e) }
fine_to system parts c verdict o (OtherVerdict made v steps last other) e = absurd cc
fine_to system parts c verdict o (FailingStep front place reason h) e = absurd cc

-- Result: whoever wrote a certificate that is in order, its verdict is the formula's truth
pub certified_truth : (system : PatternSystem) → IsSystem system → (f : Core) → IsDecided system f → IsClosed f → (c : Certificate) (verdict : Bool) → IsInOrder system f c verdict
    → IsAnswerTo (pattern_structure system) f (answers.OfValue verdict)
certified_truth system is f decided closed c verdict h =
    let parts = h.parts in
    let are = h.parts_are in
    let merges = is_merged_in c.steps in
    let fine = fine_to system parts c verdict (Certified verdict) h.checked refl in
    let cut = cut_steps (IsFine system parts) nothing_made (closures_due parts (length system.rules) 1) (parts_due merges 0 parts) c.steps fine.made fine.steps in
    let closures = closures_done system parts (length system.rules) 1 nothing_made cut.mid cut.front (λ which j low l asked. absurd (omega arith)) cut.first in
    let has = parts_done system f parts are is decided merges parts 0 cut.mid fine.made cut.rest (omega arith) (λ j. let e : j ≡ 0 + j = omega arith in ap (λ i. get_or parts i core.True) e) (λ j l m t. absurd (omega arith)) closures cut.second in
    let at = (are.same f).0 (Contains-postorder f) in
    let some = some_part parts f at in
    let n = some.0 in
    let root = last_part f parts are n some.1 in
    let none = no_columns_closed f closed in
    let end = ends_append (closures_due parts (length system.rules) 1) (parts_due merges 0 parts) (OfValue n) (let e : 0 + n ≡ n = omega arith in subst (λ (i : ℕ). EndsIn (parts_due merges 0 parts) (OfValue i)) e (parts_end merges parts 0 n some.1 (ap has_columns root ∙ none))) in
    let last = last_made system parts nothing_made fine.made (dues_of c.steps (length system.rules) parts) c.steps n verdict fine.steps end fine.last in
    let right = has n (omega (arith, some.1)) (omega (arith, some.1)) (ap is_turned root ∙ turned_closed f none) in
    subst (λ (a : Answer). IsAnswerTo (pattern_structure system) f a) last (subst (λ (g : Core). IsAnswerTo (pattern_structure system) g (fine.made.answers n)) root right)
  where
    some_part : (xs : List Core) (g : Core) → Contains xs g → (n : ℕ) × (length xs ≡ suc n)
    some_part [] g k = absurd (Contains-none g k)
    some_part (x ∷ xs) g k = (length xs, refl)
