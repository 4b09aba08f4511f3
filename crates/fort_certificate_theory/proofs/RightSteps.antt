-- Where steps are those due and fine, each answer that they make is right, whichever parts are merged.
use Rattle.std.proofs.Common.{◌≡◌, ℕ, suc, ◌+◌, ◌<◌, ◌≤◌, List, [], ◌∷◌, ◌++◌, length, get_or, Bool, true, false, ◌==◌, if◌then◌else◌, true≢false, refl, ap, sym, ◌∙◌, arith, subst, ⊎_elim}
use Rattle.std.proofs.lemmas.Bool.{cases_lt}
use Rattle.fort_theory.specs.Patterns.{PatternSystem, IsSystem}
use Rattle.fort_theory.specs.Cores as core
use Rattle.fort_theory.specs.Cores.{Core}
use Rattle.fort_theory.specs.PartLists.{AreParts}
use Rattle.fort_theory.specs.PatternStructures.{pattern_structure}
use Rattle.fort_tables.specs.Tables.{Table, listed_table}
use Rattle.fort_tables.proofs.EqualTests.{test_from_apart}
use Rattle.fort_tables.specs.Counts.{Count, KeepRules, count_at}
use Rattle.fort_parts.specs.PartColumns.{columns_of, place_in}
use Rattle.fort_parts.specs.PartAnswers.{Answer, OfValue, OfTable, IsAnswerTo}
use Rattle.fort_parts.specs.DecidedCores.{IsDecided}
use Rattle.fort_alike.specs.ListedClosures.{Which, Pair as Item}
use Rattle.fort_certificate_theory.specs.Certificates.{Step}
use Rattle.fort_certificate_theory.specs.MergeSteps.{listed_merge}
use Rattle.fort_certificate_theory.specs.Dues as dues
use Rattle.fort_certificate_theory.specs.Dues.{DueStep, OfPart, OfMerge, OfCounts, closures_due, has_columns, is_turned, counts_due, table_due, answer_due, parts_due}
use Rattle.fort_certificate_theory.specs.Made.{MadeSoFar, nothing_made, with_counts, with_answer, IsAnswerOf, OfStep, Turned}
use Rattle.fort_certificate_theory.specs.PartRules.{IsCounted, IsLocalOf, IsValueOf}
use Rattle.fort_certificate_theory.specs.Checked.{IsFine, AreSteps}
use Rattle.fort_certificate_theory.proofs.CountOutcomes.{KeepRules-right}
use Rattle.fort_certificate_theory.proofs.RuleLaws.{counted_one}
use Rattle.fort_certificate_theory.proofs.AtomTables.{HasClosuresFor}
use Rattle.fort_certificate_theory.proofs.JoinedTables.{not_table_right}
use Rattle.fort_certificate_theory.proofs.RightParts.{HasCountsFor, HasAnswers, local_right, value_right}
use Rattle.fort_certificate_theory.proofs.MergedTables.{IsAnswerTo-listed_merge}
use Rattle.fort_certificate_theory.proofs.FineSteps.{cut_steps, counts_step, part_step, merge_step, value_step, one_step, no_step, chosen, passed_over, itself, HasClosures, closures_done}
use Rattle.fort_certificate_theory.proofs.CertifiedTruth.{moved_counted, asked_closures}

-- ---- counts

-- what is counted of "infinitely many", and that the counts hold by their rules
abbrev CountsOf : List Core → MadeSoFar → Core → Table → List ℕ → Type 0
CountsOf parts made (core.Infinite n f) body states = IsCounted parts made n f body states
CountsOf parts made other body states = ⊥

abbrev HaveRules : Core → Table → List ℕ → List Count → Type 0
HaveRules (core.Infinite n f) body states marks = KeepRules body (place_in (columns_of f) n) (count_at states marks)
HaveRules other body states marks = ⊥

module _ (system : PatternSystem) (root : Core) (parts : List Core) (are : AreParts root parts) where
  abbrev Makes : MadeSoFar → List DueStep → List Step → MadeSoFar → Type 0
  Makes made ds ss next = AreSteps (IsFine system parts) made ds ss next

  record IsCountsDone (k : ℕ) (f : Core) (made next : MadeSoFar) : Type 0 where
    counts : HasCountsFor parts next k f
    answers : next.answers ≡ made.answers
    closures : next.closures ≡ made.closures

  no_counts : (k : ℕ) (f : Core) (made next : MadeSoFar) (ss : List Step) → ((n : ℕ) (g : Core) → f ≡ core.Infinite n g → ⊥)
      → Makes made [] ss next → IsCountsDone k f made next
  no_counts k f made next ss other h =
      subst (λ (x : MadeSoFar). IsCountsDone k f made x) (no_step (IsFine system parts) made next ss h)
      (record { counts = λ n g body states e c. absurd (other n g e); answers = refl; closures = refl })

  some_counts : (k n : ℕ) (f : Core) (made next : MadeSoFar) (ss : List Step) → get_or parts k core.True ≡ core.Infinite n f
      → Makes made (OfCounts k ∷ []) ss next → IsCountsDone k (core.Infinite n f) made next
  some_counts k n f made next ss part h =
      let s = one_step (IsFine system parts) made next (OfCounts k) ss h in
      let m = counts_step system parts made s.0 next k s.1 s.2 in
      let j = m.judged in
      let other = with_counts made k m.marks in
      subst (λ (x : MadeSoFar). IsCountsDone k (core.Infinite n f) made x) (sym m.is) (record {
        counts = λ i g body states e c.
            let own = core.Infinite i g in
            let same : core.Infinite j.number j.body ≡ own = sym j.part ∙ (part ∙ e) in
            let here : IsCounted parts made i g j.table j.states =
            subst (λ (z : Core). CountsOf parts made z j.table j.states) same j.counted in
            let one = counted_one root parts are made i g j.table body j.states states here
            (moved_counted parts other made i g body states refl c) in
            let rules : HaveRules (core.Infinite j.number j.body) j.table j.states m.marks =
            KeepRules-right j.table (place_in (columns_of j.body) j.number) j.states m.marks j.counted.pure j.is in
            let moved : HaveRules own body j.states m.marks =
            subst (λ (z : Table). HaveRules own z j.states m.marks) one.table
            (subst (λ (z : Core). HaveRules z j.table j.states m.marks) same rules) in
            subst (λ (z : List Count). HaveRules own body states z)
            (sym (chosen (k == k) m.marks (made.counts k) (itself k)))
            (subst (λ (z : List ℕ). HaveRules own body z m.marks) one.states moved);
        answers = refl;
        closures = refl;
      })

  counts_done : (k : ℕ) (f : Core) (made next : MadeSoFar) (ss : List Step) → get_or parts k core.True ≡ f
      → Makes made (counts_due k f) ss next → IsCountsDone k f made next
  counts_done k core.True made next ss e h = no_counts k core.True made next ss (λ n g d. cc) h
  counts_done k (core.Leaf a) made next ss e h = no_counts k (core.Leaf a) made next ss (λ n g d. cc) h
  counts_done k (core.Not f) made next ss e h = no_counts k (core.Not f) made next ss (λ n g d. cc) h
  counts_done k (core.Binary op f g) made next ss e h = no_counts k (core.Binary op f g) made next ss (λ n i d. cc) h
  counts_done k (core.Exists n f) made next ss e h = no_counts k (core.Exists n f) made next ss (λ i g d. cc) h
  counts_done k (core.Infinite n f) made next ss e h = some_counts k n f made next ss e h

  module _ (is : IsSystem system) (decided : IsDecided system root) where
    abbrev Right : Core → Answer → Type 0
    Right f answer = IsAnswerTo (pattern_structure system) f answer

    -- the answers of the first k parts, but those of negations with columns, are right
    abbrev Has : ℕ → MadeSoFar → Type 0
    Has k made = HasAnswers system is root decided parts are k made

    -- ---- the answer of one part

    record IsAnswerDone (k : ℕ) (f : Core) (made next : MadeSoFar) : Type 0 where
      right : is_turned f ≡ false → Right f (next.answers k)
      others : (j : ℕ) → (j ≡ k → ⊥) → next.answers j ≡ made.answers j
      closures : next.closures ≡ made.closures

    answered : (k : ℕ) (f : Core) (made : MadeSoFar) (answer : Answer) → Right f answer
        → IsAnswerDone k f made (with_answer made k answer)
    answered k f made answer right = record {
      right = λ t. subst (λ (x : Answer). Right f x) (sym (chosen (k == k) answer (made.answers k) (itself k))) right;
      others = λ j other. passed_over (j == k) answer (made.answers j) (test_from_apart j k other);
      closures = refl;
    }

    merge_done : (k : ℕ) (f : Core) (made mid next : MadeSoFar) (ss : List Step) → is_turned f ≡ false → IsAnswerDone k f made mid
        → Makes mid (OfMerge k ∷ []) ss next → IsAnswerDone k f made next
    merge_done k f made mid next ss t done h =
        let s = one_step (IsFine system parts) mid next (OfMerge k) ss h in
        let m = merge_step system parts mid s.0 next k s.1 s.2 in
        let old : Right f (OfTable m.table) = subst (λ (x : Answer). Right f x) m.table_is (done.right t) in
        let new = answered k f mid (OfTable (listed_table (listed_merge m.table m.classes m.entries)))
        (IsAnswerTo-listed_merge system f m.table m.classes m.entries old m.merge m.entries_are) in
        subst (λ (x : MadeSoFar). IsAnswerDone k f made x) (sym m.is) (record {
          right = new.right;
          others = λ j other. new.others j other ∙ done.others j other;
          closures = done.closures;
        })

    answer_done : (merges : ℕ → Bool) (k : ℕ) (f : Core) (made next : MadeSoFar) (ss : List Step) → k < length parts
        → get_or parts k core.True ≡ f → Has k made → HasClosuresFor system made f → HasCountsFor parts made k f
        → Makes made (answer_due merges k f) ss next → IsAnswerDone k f made next
    answer_done merges k f made next ss l e has closures counts h = by (has_columns f) (is_turned f) refl refl h
      where
        own_counts : HasCountsFor parts made k (get_or parts k core.True)
        own_counts = subst (HasCountsFor parts made k) (sym e) counts

        table_made : (mid : MadeSoFar) (ts : List Step) → has_columns f ≡ true → Makes made (OfPart k ∷ []) ts mid
            → IsAnswerDone k f made mid
        table_made mid ts m g =
            let s = one_step (IsFine system parts) made mid (OfPart k) ts g in
            let p = part_step system parts made s.0 mid k s.1 s.2 in
            let local = subst (λ (z : Core). IsLocalOf system parts made k z p.local) e p.local_is in
            let right =
            local_right system is root decided parts are k l made has f p.local p.table e m closures own_counts local p.by in
            subst (λ (x : MadeSoFar). IsAnswerDone k f made x) (sym p.is) (answered k f made (OfTable p.table) right)

        merged_or_not : (b : Bool) (mid : MadeSoFar) (ts : List Step) → is_turned f ≡ false → IsAnswerDone k f made mid
            → Makes mid (if b then (OfMerge k ∷ []) else []) ts next → IsAnswerDone k f made next
        merged_or_not true mid ts t done g = merge_done k f made mid next ts t done g
        merged_or_not false mid ts t done g =
            subst (λ (x : MadeSoFar). IsAnswerDone k f made x) (no_step (IsFine system parts) mid next ts g) done

        by : (b c : Bool) → has_columns f ≡ b → is_turned f ≡ c
            → Makes made (if b then (if c then [] else table_due merges k) else (dues.OfValue k ∷ [])) ss next
            → IsAnswerDone k f made next
        by true true m t g =
            subst (λ (x : MadeSoFar). IsAnswerDone k f made x) (no_step (IsFine system parts) made next ss g)
            (record { right = λ other. absurd (true≢false (sym t ∙ other)); others = λ j other. refl; closures = refl })
        by true false m t g =
            let merge = if merges k then (OfMerge k ∷ []) else [] in
            let c = cut_steps (IsFine system parts) made (OfPart k ∷ []) merge ss next g in
            merged_or_not (merges k) c.mid c.rest t (table_made c.mid c.front m c.first) c.second
        by false c m t g =
            let s = one_step (IsFine system parts) made next (dues.OfValue k) ss g in
            let p = value_step system parts made s.0 next k s.1 s.2 in
            let value = subst (λ (z : Core). IsValueOf parts made k z p.value) e p.value_is in
            let right = value_right system is root decided parts are k l made has f p.value e m own_counts value in
            subst (λ (x : MadeSoFar). IsAnswerDone k f made x) (sym p.is) (answered k f made (OfValue p.value) right)

    -- ---- all parts

    -- the closures of all indices that are asked for are right
    abbrev AreClosed : (Which → ℕ → List Item) → Type 0
    AreClosed closures =
        HasClosures system parts (1 + length system.rules)
        (record { closures = closures; counts = nothing_made.counts; answers = nothing_made.answers })

    one_more : (k : ℕ) (f : Core) (made next : MadeSoFar) → get_or parts k core.True ≡ f → Has k made
        → IsAnswerDone k f made next → Has (suc k) next
    one_more k f made next own has answer j m n t =
        ⊎_elim
        (λ (b : j < k).
        let apart : j ≡ k → ⊥ = λ z. omega arith in
        subst (λ (x : Answer). Right (get_or parts j core.True) x) (sym (answer.others j apart)) (has j b n t))
        (λ (b : k ≤ j).
        let z : k ≡ j = omega arith in
        let turned : is_turned f ≡ false = ap is_turned (sym own ∙ ap (λ i. get_or parts i core.True) z) ∙ t in
        subst (λ (i : ℕ). Right (get_or parts i core.True) (next.answers i)) z
        (subst (λ (g : Core). Right g (next.answers k)) (sym own) (answer.right turned)))
        (cases_lt j k)

    parts_done : (merges : ℕ → Bool) (fs : List Core) (k : ℕ) (made last : MadeSoFar) (ss : List Step)
        → length parts ≡ k + length fs → ((j : ℕ) → get_or fs j core.True ≡ get_or parts (k + j) core.True) → Has k made
        → AreClosed made.closures → Makes made (parts_due merges k fs) ss last → Has (length parts) last
    parts_done merges [] k made last ss count at has closures h =
        let e : k ≡ length parts = omega arith in
        subst (λ (n : ℕ). Has n last) e (subst (λ (x : MadeSoFar). Has k x) (no_step (IsFine system parts) made last ss h) has)
    parts_done merges (f ∷ fs) k made last ss count at has closures h =
        let l : k < length parts = omega arith in
        let zero_more : k + 0 ≡ k = omega arith in
        let own : get_or parts k core.True ≡ f = sym (at 0 ∙ ap (λ i. get_or parts i core.True) zero_more) in
        let mine = answer_due merges k f in
        let later = parts_due merges (suc k) fs in
        let c = cut_steps (IsFine system parts) made (counts_due k f) (mine ++ later) ss last h in
        let d = cut_steps (IsFine system parts) c.mid mine later c.rest last c.second in
        let counts = counts_done k f made c.mid c.front own c.first in
        let has_mid : Has k c.mid =
        λ j m n t. subst (λ (g : ℕ → Answer). Right (get_or parts j core.True) (g j)) (sym counts.answers) (has j m n t) in
        let closures_mid : AreClosed c.mid.closures = subst AreClosed (sym counts.closures) closures in
        let asked : HasClosuresFor system c.mid f =
        subst (HasClosuresFor system c.mid) own (asked_closures system root parts are is decided k c.mid l closures_mid) in
        let answer = answer_done merges k f c.mid d.mid d.front l own has_mid asked counts.counts d.first in
        parts_done merges fs (suc k) d.mid last d.rest (omega arith)
        (λ j. let i : k + suc j ≡ suc k + j = omega arith in at (suc j) ∙ ap (λ z. get_or parts z core.True) i)
        (one_more k f c.mid d.mid own has_mid answer) (subst AreClosed (sym answer.closures) closures_mid) d.second

    all_done : (merges : ℕ → Bool) (made : MadeSoFar) (ss : List Step)
        → Makes nothing_made (dues.dues merges (length system.rules) parts) ss made → Has (length parts) made
    all_done merges made ss h =
        let n = length system.rules in
        let front = closures_due parts n 1 in
        let cut = cut_steps (IsFine system parts) nothing_made front (parts_due merges 0 parts) ss made h in
        let closures = closures_done system parts n 1 nothing_made cut.mid cut.front
        (λ which j low l asked. absurd (omega arith)) cut.first in
        parts_done merges parts 0 cut.mid made cut.rest (omega arith)
        (λ j. let e : j ≡ 0 + j = omega arith in ap (λ i. get_or parts i core.True) e)
        (λ j l m t. absurd (omega arith)) closures cut.second

    made_right : (made : MadeSoFar) → Has (length parts) made → (f : Core) (answer : Answer)
        → IsAnswerOf parts made f answer → Right f answer
    made_right made has f answer (OfStep k p t a) =
        let right = has k p.0 p.0 (ap is_turned p.1 ∙ t) in
        subst (λ (x : Answer). Right f x) a (subst (λ (g : Core). Right g (made.answers k)) p.1 right)
    made_right made has f answer (Turned {f = g} body h r) =
        not_table_right system g body (made_right made has g (OfTable body) r)

-- Result
pub answer_right : (system : PatternSystem) → IsSystem system → (root : Core) → IsDecided system root → (parts : List Core)
    → AreParts root parts → (merges : ℕ → Bool) (made : MadeSoFar) (ss : List Step)
    → AreSteps (IsFine system parts) nothing_made (dues.dues merges (length system.rules) parts) ss made
    → (f : Core) (answer : Answer) → IsAnswerOf parts made f answer → IsAnswerTo (pattern_structure system) f answer
answer_right system is root decided parts are merges made ss steps f answer h =
    let has = all_done system root parts are is decided merges made ss steps in
    made_right system root parts are is decided made has f answer h
