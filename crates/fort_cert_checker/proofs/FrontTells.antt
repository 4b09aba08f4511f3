-- What the steps in front have made: the items of closures, the counts, the values; and the counts hold by their rules.
use Rattle.std.specs.Prelude.{◌≡◌, ℕ, zero, suc, ◌<◌, ◌≤◌, List, [], ◌∷◌, ◌++◌, length, get_or, Contains, Bool, true, false, ◌&&◌, ◌==◌, refl}
use Rattle.std.proofs.Common.{sym, ap, ◌∙◌, subst, arith, eq-eqb, ⊎_elim}
use Rattle.std.proofs.lemmas.List.Elements.{Contains-push_cases}
use Rattle.fort_theory.specs.Patterns.{PatternSystem}
use Rattle.fort_theory.proofs.Members.{Contains-none}
use Rattle.fort_theory.specs.Cores as core
use Rattle.fort_theory.specs.Cores.{Core}
use Rattle.fort_theory.specs.PartLists.{AreParts}
use Rattle.fort_tables.specs.Tables.{Table}
use Rattle.fort_tables.proofs.EqualTests.{test_from_apart}
use Rattle.fort_tables.specs.Counts.{Count, KeepRules, count_at}
use Rattle.fort_parts.specs.PartColumns.{columns_of, place_in}
use Rattle.fort_parts.specs.PartAnswers.{Answer, OfValue, OfTable}
use Rattle.fort_parts.proofs.PartOrder.{operand_earlier}
use Rattle.fort_parts.specs.DecidedCores.{IsOperandOf}
use Rattle.fort_alike.specs.ListedClosures.{Which, Star, Conv, Pair as Item}
use Rattle.fort_certificate_theory.specs.Certificates.{Step, Closure, Part, Merge, Counts, Value}
use Rattle.fort_certificate_theory.specs.Outcomes.{StepOutcome, Fine}
use Rattle.fort_certificate_theory.specs.CountSteps.{IsCountOutcome, IsRight, NotAsMany, NotRanked, NotFed}
use Rattle.fort_certificate_theory.specs.Dues.{OfClosure, OfPart, OfMerge, OfValue, due_of}
use Rattle.fort_certificate_theory.specs.Made.{MadeSoFar, nothing_made, same_which, with_closure, with_counts, with_answer, IsAnswerOf}
use Rattle.fort_certificate_theory.specs.PartRules.{IsCounted}
use Rattle.fort_certificate_theory.specs.Checked.{IsCountJudged, IsFine, FineClosure, FinePart, FineMerge, FineCounts, FineValue}
use Rattle.fort_certificate_theory.proofs.CountOutcomes.{KeepRules-right}
use Rattle.fort_certificate_theory.proofs.RuleLaws.{counted_one}
use Rattle.fort_certificate_theory.proofs.CheckedLaws.{number_same, under_same}
use Rattle.fort_certificate_theory.proofs.FineSteps.{chosen, passed_over, itself}
use Rattle.fort_certificate_theory.proofs.CertifiedTruth.{moved_counted}
use Rattle.fort_certificate_theory.proofs.StepsOfParts.{kept_answer}
use Rattle.fort_cert_checker.specs.KnownMarks.{HasMarksFor}
use Rattle.fort_cert_checker.specs.Fronts.{Tells}
use Rattle.fort_cert_checker.proofs.DueKeys.{key}

pub tells_none : (parts : List Core) → Tells parts [] nothing_made
tells_none parts = record {
  closures = λ which index items c. absurd (Contains-none (Closure which index items) c);
  counts = λ k marks c. absurd (Contains-none (Counts k marks) c);
  values = λ k value c. absurd (Contains-none (Value k value) c);
  rules = λ k marks c. absurd (Contains-none (Counts k marks) c);
}

-- ---- which closure a test of an index chooses

closure_other : (n : ℕ) (w v : Which) (i j : ℕ) → key n (OfClosure w i) < key n (OfClosure v j) → (same_which w v && (i == j)) ≡ false
closure_other n Star Star i j l = test_from_apart i j (λ e. omega (arith, l, e))
closure_other n Star Conv i j l = refl
closure_other n Conv Star i j l = refl
closure_other n Conv Conv i j l = test_from_apart i j (λ e. omega (arith, l, e))

closure_same : (w v : Which) (i j : ℕ) → w ≡ v → i ≡ j → (same_which w v && (i == j)) ≡ true
closure_same Star Star i j a b = eq-eqb i j b
closure_same Star Conv i j a b = absurd cc
closure_same Conv Star i j a b = absurd cc
closure_same Conv Conv i j a b = eq-eqb i j b

part_within : (fs : List Core) (j m : ℕ) (g : Core) → get_or fs j core.True ≡ core.Infinite m g → j < length fs
part_within [] j m g e = absurd cc
part_within (f ∷ fs) zero m g e = omega arith
part_within (f ∷ fs) (suc j) m g e = let l = part_within fs j m g e in omega (arith, l)

right_count : (body : Table) (c : ℕ) (states : List ℕ) (marks : List Count) (o : StepOutcome) → IsCountOutcome body c states marks o → o ≡ Fine → length marks ≡ length states
right_count body c states marks o (IsRight r) e = r.count
right_count body c states marks o (NotAsMany h) e = absurd cc
right_count body c states marks o (NotRanked i r k h l is child below) e = absurd cc
right_count body c states marks o (NotFed i q h l is none) e = absurd cc

no_table : (table : Table) (value : Bool) → OfTable table ≡ OfValue value → ⊥
no_table table value e = cc

module _ (n : ℕ) (system : PatternSystem) (root : Core) (parts : List Core) (are : AreParts root parts) where
  -- an answer stays, where a later step is done, which isn't its merge
  pub answer_kept : (k : ℕ) (s : Step) (made next : MadeSoFar) → key n (OfPart k) < key n (due_of s) → (due_of s ≡ OfMerge k → ⊥) → IsFine system parts made s next → next.answers k ≡ made.answers k
  answer_kept k s made next l other (FineClosure h) = refl
  answer_kept k s made next l other (FinePart {k = i} local es ws h r) = passed_over (k == i) _ (made.answers k) (test_from_apart k i (λ e. omega (arith, l, e)))
  answer_kept k s made next l other (FineMerge {k = i} table es is h r) = passed_over (k == i) _ (made.answers k) (test_from_apart k i (λ e. other (ap OfMerge (sym e))))
  answer_kept k s made next l other (FineCounts h) = refl
  answer_kept k s made next l other (FineValue {k = i} h) = passed_over (k == i) _ (made.answers k) (test_from_apart k i (λ e. omega (arith, l, e)))

  -- the rules of counts stay, where an answer of this part or a later one comes
  rules_kept : (j k : ℕ) (a : Answer) (made : MadeSoFar) → j ≤ k → HasMarksFor parts made j (get_or parts j core.True) → HasMarksFor parts (with_answer made k a) j (get_or parts j core.True)
  rules_kept j k a made l h = λ m g body states e c.
      let within = part_within parts j m g e in
      let o : IsOperandOf g (get_or parts j core.True) = subst (IsOperandOf g) (sym e) refl in
      let before = operand_earlier root parts are j within g o in
      let back : IsAnswerOf parts made g (OfTable body) =
      kept_answer root parts are k (with_answer made k a) made (λ i z. sym (passed_over (i == k) a (made.answers i) (test_from_apart i k z)))
      g (OfTable body) before.place (omega (arith, before.before)) (omega (arith, before.before, within)) before.is c.body_is in
      h m g body states e (record { body_is = back; pure = c.pure })

  rules_new : (k : ℕ) (marks : List Count) (made : MadeSoFar) → IsCountJudged parts made k marks Fine → HasMarksFor parts (with_counts made k marks) k (get_or parts k core.True)
  rules_new k marks made j = λ i g body states e c.
      let other = with_counts made k marks in
      let same : core.Infinite j.number j.body ≡ core.Infinite i g = sym j.part ∙ e in
      let a : j.number ≡ i = number_same j.number i j.body g same in
      let b : j.body ≡ g = under_same j.number i j.body g same in
      let d : IsCounted parts made i g j.table j.states =
      subst (λ (z : ℕ). IsCounted parts made z g j.table j.states) a (subst (λ (z : Core). IsCounted parts made j.number z j.table j.states) b j.counted) in
      let one = counted_one root parts are made i g j.table body j.states states d (moved_counted parts other made i g body states refl c) in
      let keep : KeepRules j.table (place_in (columns_of j.body) j.number) (count_at j.states marks) = KeepRules-right j.table (place_in (columns_of j.body) j.number) j.states marks j.counted.pure j.is in
      let here : KeepRules j.table (place_in (columns_of g) i) (count_at j.states marks) =
      subst (λ (z : ℕ). KeepRules j.table (place_in (columns_of g) z) (count_at j.states marks)) a (subst (λ (z : Core). KeepRules j.table (place_in (columns_of z) j.number) (count_at j.states marks)) b keep) in
      let there : KeepRules body (place_in (columns_of g) i) (count_at states marks) =
      subst (λ (zs : List ℕ). KeepRules body (place_in (columns_of g) i) (count_at zs marks)) one.states (subst (λ (z : Table). KeepRules z (place_in (columns_of g) i) (count_at j.states marks)) one.table here) in
      let count : length marks ≡ length states = right_count j.table (place_in (columns_of j.body) j.number) j.states marks Fine j.is refl ∙ ap length one.states in
      subst (λ (z : List Count). KeepRules body (place_in (columns_of g) i) (count_at states z) × (length z ≡ length states)) (sym (chosen (k == k) marks (made.counts k) (itself k))) (there, count)

  rules_old : (j k : ℕ) (marks : List Count) (made : MadeSoFar) → (j ≡ k → ⊥) → HasMarksFor parts made j (get_or parts j core.True) → HasMarksFor parts (with_counts made k marks) j (get_or parts j core.True)
  rules_old j k marks made apart h = λ i g body states e c.
      subst (λ (z : List Count). KeepRules body (place_in (columns_of g) i) (count_at states z) × (length z ≡ length states)) (sym (passed_over (j == k) marks (made.counts j) (test_from_apart j k apart)))
      (h i g body states e (moved_counted parts (with_counts made k marks) made i g body states refl c))

  -- ---- one more step

  module _ (front : List Step) (made : MadeSoFar) (h : Tells parts front made) where
    abbrev IsLater : Step → Type 0
    IsLater s = (t : Step) → Contains front t → key n (due_of t) < key n (due_of s)

    tells_closure : (which : Which) (index : ℕ) (items : List Item) → IsLater (Closure which index items) → Tells parts (front ++ Closure which index items ∷ []) (with_closure made which index items)
    tells_closure v j items later = record {
      closures = λ w i xs c. ⊎_elim
          (λ a. passed_over (same_which w v && (i == j)) items (made.closures w i) (closure_other n w v i j (later (Closure w i xs) a)) ∙ h.closures w i xs a)
          (λ (e : Closure v j items ≡ Closure w i xs).
          let p : w ≡ v = cc in
          let q : i ≡ j = cc in
          let r : items ≡ xs = cc in
          chosen (same_which w v && (i == j)) items (made.closures w i) (closure_same w v i j p q) ∙ r)
          (Contains-push_cases front (Closure v j items) (Closure w i xs) c);
      counts = λ k marks c. ⊎_elim (λ a. h.counts k marks a) (λ (e : Closure v j items ≡ Counts k marks). absurd cc) (Contains-push_cases front (Closure v j items) (Counts k marks) c);
      values = λ k value c. ⊎_elim (λ a. h.values k value a) (λ (e : Closure v j items ≡ Value k value). absurd cc) (Contains-push_cases front (Closure v j items) (Value k value) c);
      rules = λ k marks c. ⊎_elim
          (λ a. λ i g body states e d. h.rules k marks a i g body states e (moved_counted parts (with_closure made v j items) made i g body states refl d))
          (λ (e : Closure v j items ≡ Counts k marks). absurd cc)
          (Contains-push_cases front (Closure v j items) (Counts k marks) c);
    }

    tells_part : (k : ℕ) (targets : List ℕ) (a : Answer) → IsLater (Part k targets) → Tells parts (front ++ Part k targets ∷ []) (with_answer made k a)
    tells_part k targets a later = record {
      closures = λ w i xs c. ⊎_elim (λ b. h.closures w i xs b) (λ (e : Part k targets ≡ Closure w i xs). absurd cc) (Contains-push_cases front (Part k targets) (Closure w i xs) c);
      counts = λ j marks c. ⊎_elim (λ b. h.counts j marks b) (λ (e : Part k targets ≡ Counts j marks). absurd cc) (Contains-push_cases front (Part k targets) (Counts j marks) c);
      values = λ j value c. ⊎_elim
          (λ b. passed_over (j == k) a (made.answers j) (test_from_apart j k (λ e. let l = later (Value j value) b in omega (arith, l, e))) ∙ h.values j value b)
          (λ (e : Part k targets ≡ Value j value). absurd cc)
          (Contains-push_cases front (Part k targets) (Value j value) c);
      rules = λ j marks c. ⊎_elim
          (λ b. rules_kept j k a made (let l = later (Counts j marks) b in omega (arith, l)) (h.rules j marks b))
          (λ (e : Part k targets ≡ Counts j marks). absurd cc)
          (Contains-push_cases front (Part k targets) (Counts j marks) c);
    }

    tells_merge : (k : ℕ) (classes : List ℕ) (table : Table) (a : Answer) → made.answers k ≡ OfTable table → IsLater (Merge k classes) → Tells parts (front ++ Merge k classes ∷ []) (with_answer made k a)
    tells_merge k classes table a is later = record {
      closures = λ w i xs c. ⊎_elim (λ b. h.closures w i xs b) (λ (e : Merge k classes ≡ Closure w i xs). absurd cc) (Contains-push_cases front (Merge k classes) (Closure w i xs) c);
      counts = λ j marks c. ⊎_elim (λ b. h.counts j marks b) (λ (e : Merge k classes ≡ Counts j marks). absurd cc) (Contains-push_cases front (Merge k classes) (Counts j marks) c);
      values = λ j value c. ⊎_elim
          (λ b. passed_over (j == k) a (made.answers j) (test_from_apart j k (λ e. no_table table value (sym is ∙ (ap made.answers (sym e) ∙ h.values j value b)))) ∙ h.values j value b)
          (λ (e : Merge k classes ≡ Value j value). absurd cc)
          (Contains-push_cases front (Merge k classes) (Value j value) c);
      rules = λ j marks c. ⊎_elim
          (λ b. rules_kept j k a made (let l = later (Counts j marks) b in omega (arith, l)) (h.rules j marks b))
          (λ (e : Merge k classes ≡ Counts j marks). absurd cc)
          (Contains-push_cases front (Merge k classes) (Counts j marks) c);
    }

    tells_value : (k : ℕ) (value : Bool) → IsLater (Value k value) → Tells parts (front ++ Value k value ∷ []) (with_answer made k (OfValue value))
    tells_value k value later = record {
      closures = λ w i xs c. ⊎_elim (λ b. h.closures w i xs b) (λ (e : Value k value ≡ Closure w i xs). absurd cc) (Contains-push_cases front (Value k value) (Closure w i xs) c);
      counts = λ j marks c. ⊎_elim (λ b. h.counts j marks b) (λ (e : Value k value ≡ Counts j marks). absurd cc) (Contains-push_cases front (Value k value) (Counts j marks) c);
      values = λ j v c. ⊎_elim
          (λ b. passed_over (j == k) (OfValue value) (made.answers j) (test_from_apart j k (λ e. let l = later (Value j v) b in omega (arith, l, e))) ∙ h.values j v b)
          (λ (e : Value k value ≡ Value j v).
          let p : j ≡ k = cc in
          let q : value ≡ v = cc in
          chosen (j == k) (OfValue value) (made.answers j) (eq-eqb j k p) ∙ ap OfValue q)
          (Contains-push_cases front (Value k value) (Value j v) c);
      rules = λ j marks c. ⊎_elim
          (λ b. rules_kept j k (OfValue value) made (let l = later (Counts j marks) b in omega (arith, l)) (h.rules j marks b))
          (λ (e : Value k value ≡ Counts j marks). absurd cc)
          (Contains-push_cases front (Value k value) (Counts j marks) c);
    }

    tells_counts : (k : ℕ) (marks : List Count) → IsLater (Counts k marks) → IsCountJudged parts made k marks Fine → Tells parts (front ++ Counts k marks ∷ []) (with_counts made k marks)
    tells_counts k marks later judged = record {
      closures = λ w i xs c. ⊎_elim (λ b. h.closures w i xs b) (λ (e : Counts k marks ≡ Closure w i xs). absurd cc) (Contains-push_cases front (Counts k marks) (Closure w i xs) c);
      counts = λ j ms c. ⊎_elim
          (λ b. passed_over (j == k) marks (made.counts j) (test_from_apart j k (λ e. let l = later (Counts j ms) b in omega (arith, l, e))) ∙ h.counts j ms b)
          (λ (e : Counts k marks ≡ Counts j ms).
          let p : j ≡ k = cc in
          let q : marks ≡ ms = cc in
          chosen (j == k) marks (made.counts j) (eq-eqb j k p) ∙ q)
          (Contains-push_cases front (Counts k marks) (Counts j ms) c);
      values = λ j v c. ⊎_elim (λ b. h.values j v b) (λ (e : Counts k marks ≡ Value j v). absurd cc) (Contains-push_cases front (Counts k marks) (Value j v) c);
      rules = λ j ms c. ⊎_elim
          (λ b. rules_old j k marks made (λ e. let l = later (Counts j ms) b in omega (arith, l, e)) (h.rules j ms b))
          (λ (e : Counts k marks ≡ Counts j ms).
          let p : k ≡ j = cc in
          subst (λ (i : ℕ). HasMarksFor parts (with_counts made k marks) i (get_or parts i core.True)) p (rules_new k marks made judged))
          (Contains-push_cases front (Counts k marks) (Counts j ms) c);
    }

    -- Result
    pub tells_next : (s : Step) (next : MadeSoFar) → ((t : Step) → Contains front t → key n (due_of t) < key n (due_of s)) → IsFine system parts made s next → Tells parts (front ++ s ∷ []) next
    tells_next s next later (FineClosure {which = v} {index = j} {items = items} g) = tells_closure v j items later
    tells_next s next later (FinePart {k = k} {targets = targets} local es ws g r) = tells_part k targets _ later
    tells_next s next later (FineMerge {k = k} {classes = classes} table es is g r) = tells_merge k classes table _ is later
    tells_next s next later (FineCounts {k = k} {marks = marks} g) = tells_counts k marks later g
    tells_next s next later (FineValue {k = k} {value = value} g) = tells_value k value later
