-- A certificate has at most one outcome.
use Rattle.std.proofs.Common.{◌≡◌, ℕ, suc, ◌+◌, Bool, List, [], ◌∷◌, ◌++◌, map, length, get_or, Some, refl, ap, sym, ◌∙◌, arith, subst, append-nil}
use Rattle.fort_theory.specs.Patterns.{Pair, PatternSystem}
use Rattle.fort_theory.specs.PatternOrder.{AreSubpatternsInOrder}
use Rattle.fort_theory.specs.Cores as core
use Rattle.fort_theory.specs.Cores.{Core}
use Rattle.fort_theory.specs.PartLists.{AreParts}
use Rattle.fort_theory.proofs.EachOnceUnique.{AreEachOnce-unique}
use Rattle.fort_theory.specs.Parts.{postorder}
use Rattle.fort_tables.specs.Entries.{Entry}
use Rattle.fort_tables.specs.Tables.{Table, listed_table}
use Rattle.fort_tables.specs.Counts as counts
use Rattle.fort_tables.specs.Merges.{merged, IsMerge}
use Rattle.fort_tables.specs.MergeOutcomes.{AreEntriesOf, IsMergeOutcome}
use Rattle.fort_tables.proofs.MergeOutcomeLaws.{merge_outcome}
use Rattle.fort_parts.specs.PartColumns.{columns_of, place_in}
use Rattle.fort_parts.specs.PartAnswers.{OfTable}
use Rattle.fort_alike.specs.ListedClosures.{Which, Pair as Item}
use Rattle.fort_certificate_theory.specs.Certificates.{Step, Certificate}
use Rattle.fort_certificate_theory.specs.Outcomes.{Reason, Due, Verdict, StepOutcome, Fine, Fails}
use Rattle.fort_certificate_theory.specs.PartSteps as part
use Rattle.fort_certificate_theory.specs.PartSteps.{IsRightPart, part_table}
use Rattle.fort_certificate_theory.specs.ClosureSteps.{ClosureRules, AreClosureRules, IsClosureOutcome}
use Rattle.fort_certificate_theory.specs.CountSteps.{IsCountOutcome}
use Rattle.fort_certificate_theory.specs.MergeSteps.{step_outcome, listed_merge}
use Rattle.fort_certificate_theory.specs.Dues.{DueStep, due_of, dues_of}
use Rattle.fort_certificate_theory.specs.Made.{MadeSoFar, nothing_made, with_answer}
use Rattle.fort_certificate_theory.specs.PartRules.{Local, IsCounted}
use Rattle.fort_certificate_theory.specs.Checked.{IsClosureJudged, IsCountJudged, IsFine, FineClosure, FinePart, FineMerge, FineCounts, FineValue, IsFailing, FailingClosure, FailingPart, FailingMerge, FailingCounts, FailingValue, AreSteps, NoSteps, MoreSteps, last_value, Outcome, Certified, Rejected, IsUpTo, AreAllFine, IsFirstFailure, Failing, NotDue, OneTooMany, Missing, form_behind, IsChecked, InOrder, OtherVerdict, FailingStep, HasOutcome}
use Rattle.fort_certificate_theory.proofs.PartLaws.{right_same}
use Rattle.fort_certificate_theory.proofs.PartOutcomes.{outcome_one}
use Rattle.fort_certificate_theory.proofs.ClosureOutcomes.{closure_one}
use Rattle.fort_certificate_theory.proofs.CountOutcomes.{counts_one}
use Rattle.fort_certificate_theory.proofs.MergeOutcomeLaws.{entries_one, merge_outcome_one}
use Rattle.fort_alike.proofs.OneInOrder.{subpatterns_one}
use Rattle.fort_certificate_theory.proofs.SameLabels.{AreOneOrSame, part_moved, failure_moved}
use Rattle.fort_certificate_theory.proofs.RuleLaws.{table_same, counted_one, local_one, value_one}

pub closure_rules_one : (system : PatternSystem) (which : Which) (index : ℕ) (a b : ClosureRules) → AreClosureRules system which index a → AreClosureRules system which index b → a ≡ b
closure_rules_one system which index a b h k =
    let pairs : a.pairs ≡ b.pairs = h.pairs ∙ sym k.pairs in
    let rights : a.rights ≡ b.rights =
    subpatterns_one (map (λ (pair : Pair). pair.1) b.pairs) a.rights b.rights
    (subst (λ (ps : List Pair). AreSubpatternsInOrder (map (λ (pair : Pair). pair.1) ps) a.rights) pairs h.patterns.right) k.patterns.right in
    let lefts : a.lefts ≡ b.lefts =
    subpatterns_one (map (λ (pair : Pair). pair.0) b.pairs) a.lefts b.lefts
    (subst (λ (ps : List Pair). AreSubpatternsInOrder (map (λ (pair : Pair). pair.0) ps) a.lefts) pairs h.patterns.left) k.patterns.left in
    λ i. record { pairs = pairs i; rights = rights i; lefts = lefts i }

closure_judged_one : (system : PatternSystem) (which : Which) (index : ℕ) (items : List Item) (a b : StepOutcome) → IsClosureJudged system which index items a → IsClosureJudged system which index items b → a ≡ b
closure_judged_one system which index items a b h k =
    let e = closure_rules_one system which index h.rules k.rules h.rules_are k.rules_are in
    closure_one k.rules items a b (subst (λ (c : ClosureRules). IsClosureOutcome c items a) e h.is) k.is

pub number_same : (n m : ℕ) (f g : Core) → core.Infinite n f ≡ core.Infinite m g → n ≡ m
number_same n m f g h = cc

pub under_same : (n m : ℕ) (f g : Core) → core.Infinite n f ≡ core.Infinite m g → f ≡ g
under_same n m f g h = cc

pub record IsOneFailure (n m : ℕ) (a b : Reason) : Type 0 where
  pub place : n ≡ m
  pub reason : a ≡ b

one_from_fails : (n m : ℕ) (a b : Reason) → Fails n a ≡ Fails m b → IsOneFailure n m a b
one_from_fails n m a b h = record { place = cc; reason = cc }

fine_or_fails : (n : ℕ) (a : Reason) → Fine ≡ Fails n a → ⊥
fine_or_fails n a h = cc

some_same : (u v : Bool) → Some u ≡ Some v → u ≡ v
some_same u v h = cc

rejected_same : (form n m : ℕ) (a b : Reason) → IsOneFailure n m a b → Rejected form n a ≡ Rejected form m b
rejected_same form n m a b h = ap (λ i. Rejected form i a) h.place ∙ ap (Rejected form m) h.reason

module _ (system : PatternSystem) (root : Core) (parts : List Core) (are : AreParts root parts) where
  count_judged_one : (made : MadeSoFar) (k : ℕ) (marks : List counts.Count) (a b : StepOutcome) → IsCountJudged parts made k marks a → IsCountJudged parts made k marks b → a ≡ b
  count_judged_one made k marks a b h l =
      let same : core.Infinite h.number h.body ≡ core.Infinite l.number l.body = sym h.part ∙ l.part in
      let n : h.number ≡ l.number = number_same h.number l.number h.body l.body same in
      let f : h.body ≡ l.body = under_same h.number l.number h.body l.body same in
      let c : IsCounted parts made l.number l.body h.table h.states =
      subst (λ (i : ℕ). IsCounted parts made i l.body h.table h.states) n (subst (λ (g : Core). IsCounted parts made h.number g h.table h.states) f h.counted) in
      let one = counted_one root parts are made l.number l.body h.table l.table h.states l.states c l.counted in
      let o : IsCountOutcome h.table (place_in (columns_of l.body) l.number) h.states marks a =
      subst (λ (i : ℕ). IsCountOutcome h.table (place_in (columns_of l.body) i) h.states marks a) n (subst (λ (g : Core). IsCountOutcome h.table (place_in (columns_of g) h.number) h.states marks a) f h.is) in
      counts_one l.table (place_in (columns_of l.body) l.number) l.states marks a b
      (subst (λ (xs : List ℕ). IsCountOutcome l.table (place_in (columns_of l.body) l.number) xs marks a) one.states
      (subst (λ (t : Table). IsCountOutcome t (place_in (columns_of l.body) l.number) h.states marks a) one.table o)) l.is

  -- the table of a part
  part_made_one : (made : MadeSoFar) (k : ℕ) (targets : List ℕ) (a b : Local) (es fs : List Entry) (ws us : List (List ℕ)) → AreOneOrSame a b
      → IsRightPart a.rule targets es ws → IsRightPart b.rule targets fs us
      → with_answer made k (OfTable (listed_table (part_table a.rule a.accepting es targets ws))) ≡ with_answer made k (OfTable (listed_table (part_table b.rule b.accepting fs targets us)))
  part_made_one made k targets a b es fs ws us either h l =
      let there = part_moved a b either targets es ws h in
      let same = right_same b.rule targets (length targets) es fs there.labels us there.right.right l.right in
      ap (λ t. with_answer made k (OfTable (listed_table t))) there.table
      ∙ (ap (λ xs. with_answer made k (OfTable (listed_table (part_table b.rule b.accepting xs targets there.labels)))) same.entries_same
      ∙ ap (λ xs. with_answer made k (OfTable (listed_table (part_table b.rule b.accepting fs targets xs)))) same.labels_same)

  -- and that of its classes
  merge_made_one : (made : MadeSoFar) (k : ℕ) (classes : List ℕ) (a b : Table) (es fs : List Entry) → a ≡ b → AreEntriesOf (merged a classes) es → AreEntriesOf (merged b classes) fs
      → with_answer made k (OfTable (listed_table (listed_merge a classes es))) ≡ with_answer made k (OfTable (listed_table (listed_merge b classes fs)))
  merge_made_one made k classes a b es fs same h l =
      let e : es ≡ fs = entries_one (merged b classes) es fs (subst (λ (t : Table). AreEntriesOf (merged t classes) es) same h) l in
      ap (λ (t : Table). with_answer made k (OfTable (listed_table (listed_merge t classes es)))) same
      ∙ ap (λ (xs : List Entry). with_answer made k (OfTable (listed_table (listed_merge b classes xs)))) e

  -- the table that stands at one number
  made_table_one : (made : MadeSoFar) (k : ℕ) (a b : Table) → made.answers k ≡ OfTable a → made.answers k ≡ OfTable b → a ≡ b
  made_table_one made k a b h l = table_same a b (sym h ∙ l)

  pub fine_one : (made : MadeSoFar) (s : Step) (x y : MadeSoFar) → IsFine system parts made s x → IsFine system parts made s y → x ≡ y
  fine_one made s x y (FineClosure h) (FineClosure k) = refl
  fine_one made s x y (FinePart {k = k} {targets = targets} a es ws is h) (FinePart b fs us js l) =
      part_made_one made k targets a b es fs ws us (local_one root parts are made system k (get_or parts k core.True) a b is js) h l
  fine_one made s x y (FineMerge {k = k} {classes = classes} a es at m h) (FineMerge b fs also n l) =
      merge_made_one made k classes a b es fs (made_table_one made k a b at also) h l
  fine_one made s x y (FineCounts h) (FineCounts k) = refl
  fine_one made s x y (FineValue h) (FineValue k) = refl

  pub fine_not_failing : (made : MadeSoFar) (s : Step) (x : MadeSoFar) (n : ℕ) (a : Reason) → IsFine system parts made s x → IsFailing system parts made s n a → ⊥
  fine_not_failing made s x n a (FineClosure {which = w} {index = i} {items = es} h) (FailingClosure k) = fine_or_fails n a (closure_judged_one system w i es Fine (Fails n a) h k)
  fine_not_failing made s x n a (FinePart {k = k} {targets = targets} l es ws is h) (FailingPart m js f) =
      let there = part_moved l m (local_one root parts are made system k (get_or parts k core.True) l m is js) targets es ws h in
      fine_or_fails n a (outcome_one m.rule targets Fine (Fails n a) (part.IsRight es there.labels there.right) (part.IsFailed n a f))
  fine_not_failing made s x n a (FineMerge {k = k} {classes = classes} t es at m h) (FailingMerge u outcome also o e) =
      let same : t ≡ u = made_table_one made k t u at also in
      fine_or_fails n a (sym (ap step_outcome (merge_outcome u classes (subst (λ (z : Table). IsMerge z classes) same m) o)) ∙ e)
  fine_not_failing made s x n a (FineCounts {k = k} {marks = cs} h) (FailingCounts l) = fine_or_fails n a (count_judged_one made k cs Fine (Fails n a) h l)
  fine_not_failing made s x n a (FineValue {k = k} {value = v} h) (FailingValue own l other) = other (value_one root parts are made k (get_or parts k core.True) v own h l)

  pub failing_one : (made : MadeSoFar) (s : Step) (n m : ℕ) (a b : Reason) → IsFailing system parts made s n a → IsFailing system parts made s m b → IsOneFailure n m a b
  failing_one made s n m a b (FailingClosure {which = w} {index = i} {items = es} h) (FailingClosure k) = one_from_fails n m a b (closure_judged_one system w i es (Fails n a) (Fails m b) h k)
  failing_one made s n m a b (FailingPart {k = k} {targets = targets} l is f) (FailingPart z js g) =
      let here = failure_moved l z (local_one root parts are made system k (get_or parts k core.True) l z is js) targets n a f in
      one_from_fails n m a b (outcome_one z.rule targets (Fails n a) (Fails m b) (part.IsFailed n a here) (part.IsFailed m b g))
  failing_one made s n m a b (FailingMerge {k = k} {classes = classes} t o at h e) (FailingMerge u p also l f) =
      let same : t ≡ u = made_table_one made k t u at also in
      let one : o ≡ p = merge_outcome_one u classes o p (subst (λ (z : Table). IsMergeOutcome z classes o) same h) l in
      one_from_fails n m a b (sym e ∙ (ap step_outcome one ∙ f))
  failing_one made s n m a b (FailingCounts {k = k} {marks = cs} h) (FailingCounts l) = one_from_fails n m a b (count_judged_one made k cs (Fails n a) (Fails m b) h l)
  failing_one made s n m a b (FailingValue own h l) (FailingValue other k g) = record { place = refl; reason = refl }

  -- from one step to the next, with the number of the next form
  data Runs (c : Certificate) : MadeSoFar → ℕ → List DueStep → List Step → Outcome → Type 0 where
    End : {m : MadeSoFar} {form : ℕ} → last_value c.steps ≡ Some c.verdict → Runs c m form [] [] (Certified c.verdict)
    EndOther : {m : MadeSoFar} {form : ℕ} (v : Bool) → last_value c.steps ≡ Some v → (c.verdict ≡ v → ⊥) → Runs c m form [] [] (Rejected c.first 0 Verdict)
    Fail : {m : MadeSoFar} {form : ℕ} {d : DueStep} {ds : List DueStep} {s : Step} {ss : List Step} (place : ℕ) (reason : Reason) → due_of s ≡ d → IsFailing system parts m s place reason → Runs c m form (d ∷ ds) (s ∷ ss) (Rejected form place reason)
    Strange : {m : MadeSoFar} {form : ℕ} {d : DueStep} {ds : List DueStep} {s : Step} {ss : List Step} → (due_of s ≡ d → ⊥) → Runs c m form (d ∷ ds) (s ∷ ss) (Rejected form 0 Due)
    Over : {m : MadeSoFar} {form : ℕ} {s : Step} {ss : List Step} → Runs c m form [] (s ∷ ss) (Rejected form 0 Due)
    Under : {m : MadeSoFar} {form : ℕ} {d : DueStep} {ds : List DueStep} → Runs c m form (d ∷ ds) [] (Rejected form 0 Due)
    On : {m mid : MadeSoFar} {form : ℕ} {d : DueStep} {ds : List DueStep} {s : Step} {ss : List Step} {o : Outcome} → due_of s ≡ d → IsFine system parts m s mid → Runs c mid (suc form) ds ss o → Runs c m form (d ∷ ds) (s ∷ ss) o

  runs_one : (c : Certificate) (m : MadeSoFar) (form : ℕ) (ds : List DueStep) (ss : List Step) (a b : Outcome) → Runs c m form ds ss a → Runs c m form ds ss b → a ≡ b
  runs_one c m form ds ss a b (End h) (End k) = refl
  runs_one c m form ds ss a b (End h) (EndOther v k other) = absurd (other (some_same c.verdict v (sym h ∙ k)))
  runs_one c m form ds ss a b (EndOther v k other) (End h) = absurd (other (some_same c.verdict v (sym h ∙ k)))
  runs_one c m form ds ss a b (EndOther v h other) (EndOther w k another) = refl
  runs_one c m form ds ss a b (Fail {s = s} n x e h) (Fail k y f l) = rejected_same form n k x y (failing_one m s n k x y h l)
  runs_one c m form ds ss a b (Fail n x e h) (Strange other) = absurd (other e)
  runs_one c m form ds ss a b (Fail {s = s} n x e h) (On {mid = mid} f l r) = absurd (fine_not_failing m s mid n x l h)
  runs_one c m form ds ss a b (Strange other) (Fail n x e h) = absurd (other e)
  runs_one c m form ds ss a b (Strange other) (Strange another) = refl
  runs_one c m form ds ss a b (Strange other) (On e h r) = absurd (other e)
  runs_one c m form ds ss a b Over Over = refl
  runs_one c m form ds ss a b Under Under = refl
  runs_one c m form ds ss a b (On {mid = mid} {s = s} e h r) (Fail n x f l) = absurd (fine_not_failing m s mid n x h l)
  runs_one c m form ds ss a b (On e h r) (Strange other) = absurd (other e)
  runs_one c m form ds ss a b (On {mid = mid} {ds = es} {s = s} {ss = ts} e h r) (On {mid = mid'} f l t) =
      let same = fine_one m s mid mid' h l in
      runs_one c mid' (suc form) es ts a b (subst (λ (x : MadeSoFar). Runs c x (suc form) es ts a) same r) t

  -- over steps that are fine
  runs_over : (c : Certificate) (m last : MadeSoFar) (form : ℕ) (given : List DueStep) (front : List Step) (ds : List DueStep) (ss : List Step) (o : Outcome) → AreSteps (IsFine system parts) m given front last → Runs c last (form + length front) ds ss o → Runs c m form (given ++ ds) (front ++ ss) o
  runs_over c m last form given front ds ss o NoSteps r = let e : form + 0 ≡ form = omega arith in subst (λ (n : ℕ). Runs c m n ds ss o) e r
  runs_over c m last form given front ds ss o (MoreSteps {next = mid} {ds = es} {ss = ts} e h more) r =
      let n : form + suc (length ts) ≡ suc form + length ts = omega arith in
      On e h (runs_over c mid last (suc form) es ts ds ss o more (subst (λ (n : ℕ). Runs c last n ds ss o) n r))

  abbrev all_due : Certificate → List DueStep
  all_due c = dues_of c.steps (length system.rules) parts

  runs_whole : (c : Certificate) (m : MadeSoFar) (o : Outcome) → AreAllFine system parts c.steps m → ((form : ℕ) → Runs c m form [] [] o) → Runs c nothing_made (c.first + 1) (all_due c) c.steps o
  runs_whole c m o h r =
      let x = runs_over c nothing_made m (c.first + 1) (all_due c) c.steps [] [] o h (r ((c.first + 1) + length c.steps)) in
      subst (λ (ds : List DueStep). Runs c nothing_made (c.first + 1) ds c.steps o) (append-nil (all_due c)) (subst (λ (ss : List Step). Runs c nothing_made (c.first + 1) (all_due c ++ []) ss o) (append-nil c.steps) x)

  runs_up_to : (c : Certificate) (front : List Step) (wanted : List DueStep) (rest : List Step) (m : MadeSoFar) (o : Outcome) → IsUpTo system parts c.steps front wanted rest m → Runs c m (form_behind c front) wanted rest o → Runs c nothing_made (c.first + 1) (all_due c) c.steps o
  runs_up_to c front wanted rest m o u r =
      let x = runs_over c nothing_made m (c.first + 1) u.done front wanted rest o u.fine r in
      subst (λ (ds : List DueStep). Runs c nothing_made (c.first + 1) ds c.steps o) (sym u.dues_are) (subst (λ (ss : List Step). Runs c nothing_made (c.first + 1) (u.done ++ wanted) ss o) (sym u.steps_are) x)

  runs_failing : (c : Certificate) (front : List Step) (place : ℕ) (reason : Reason) → IsFirstFailure system parts c.steps front place reason
      → Runs c nothing_made (c.first + 1) (all_due c) c.steps (Rejected (form_behind c front) place reason)
  runs_failing c front place reason (Failing f rest s d wanted m u e h) = runs_up_to c front (d ∷ wanted) (s ∷ rest) m (Rejected (form_behind c front) place reason) u (Fail place reason e h)
  runs_failing c front place reason (NotDue f rest s d wanted m u other) = runs_up_to c front (d ∷ wanted) (s ∷ rest) m (Rejected (form_behind c front) 0 Due) u (Strange other)
  runs_failing c front place reason (OneTooMany f rest s m u) = runs_up_to c front [] (s ∷ rest) m (Rejected (form_behind c front) 0 Due) u Over
  runs_failing c front place reason (Missing f d wanted m u) = runs_up_to c front (d ∷ wanted) [] m (Rejected (form_behind c front) 0 Due) u Under

  runs : (c : Certificate) (o : Outcome) → IsChecked system parts c o → Runs c nothing_made (c.first + 1) (all_due c) c.steps o
  runs c o (InOrder m h v) = runs_whole c m o h (λ form. End v)
  runs c o (OtherVerdict m v h is other) = runs_whole c m o h (λ form. EndOther v is other)
  runs c o (FailingStep front place reason h) = runs_failing c front place reason h

  pub checked_one : (c : Certificate) (a b : Outcome) → IsChecked system parts c a → IsChecked system parts c b → a ≡ b
  checked_one c a b h k = runs_one c nothing_made (c.first + 1) (all_due c) c.steps a b (runs c a h) (runs c b k)

-- Result: whatever the parts are listed as
pub HasOutcome-one : (system : PatternSystem) (f : Core) (c : Certificate) (a b : Outcome) → HasOutcome system f c a → HasOutcome system f c b → a ≡ b
HasOutcome-one system f c a b h k =
    let same = AreEachOnce-unique (postorder f) h.parts k.parts h.parts_are k.parts_are in
    checked_one system f k.parts k.parts_are c a b (subst (λ (ps : List Core). IsChecked system ps c a) same h.checked) k.checked
