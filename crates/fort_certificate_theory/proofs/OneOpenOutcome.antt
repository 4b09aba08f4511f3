-- A certificate of an open formula has at most one outcome.
use Rattle.std.proofs.Common.{◌≡◌, ℕ, suc, ◌+◌, ◌<◌, List, [], ◌∷◌, ◌++◌, length, get_or, take, refl, ap, sym, ◌∙◌, arith, subst, append-nil, ⊎_elim}
use Rattle.std.proofs.lemmas.Bool.{cases_lt}
use Rattle.std.proofs.lemmas.List.{length-take-le, get_or-take, take-take}
use Rattle.fort_theory.specs.Patterns.{PatternSystem}
use Rattle.fort_theory.specs.Cores.{Core}
use Rattle.fort_theory.specs.Parts.{postorder}
use Rattle.fort_theory.specs.PartLists.{AreParts}
use Rattle.fort_theory.proofs.EachOnceUnique.{AreEachOnce-unique}
use Rattle.fort_tables.specs.Entries.{Entry, IsEntry, node_presences}
use Rattle.fort_tables.specs.Tables.{Table}
use Rattle.fort_parts.specs.PartColumns.{columns_of}
use Rattle.fort_parts.specs.PartAnswers.{OfTable}
use Rattle.fort_certificate_theory.specs.Certificates.{Step}
use Rattle.fort_certificate_theory.specs.Outcomes.{Reason, Due, Verdict}
use Rattle.fort_certificate_theory.specs.Dues.{DueStep, due_of, dues_of}
use Rattle.fort_certificate_theory.specs.Made.{MadeSoFar, nothing_made, IsAnswerOf}
use Rattle.fort_certificate_theory.specs.Checked.{IsFine, IsFailing, AreSteps, NoSteps, MoreSteps, IsUpTo, AreAllFine, IsFirstFailure, Failing, NotDue, OneTooMany, Missing}
use Rattle.fort_certificate_theory.proofs.CheckedLaws.{IsOneFailure, fine_one, fine_not_failing, failing_one}
use Rattle.fort_certificate_theory.proofs.RuleLaws.{body_one}
use Rattle.fort_certificate_theory.specs.OpenCertificates.{Claim, Found, Empty, OpenCertificate}
use Rattle.fort_certificate_theory.specs.OpenChecked.{OpenOutcome, Confirmed, Rejected, NoEntry, node_form, AcceptsLast, AcceptsSome, AreFormulaNodes, IsFormulaNode, IsOpenChecked, FailingStep, NodeOfEmpty, FailingNode, FoundLast, NotFound, NoneThere, SomeThere, HasOpenOutcome}

-- ---- the steps

-- what they make, or how many are fine before the place where they fail
data StepsEnd : Type 0 where
  Makes : MadeSoFar → StepsEnd
  FailsBehind : (front place : ℕ) → Reason → StepsEnd

made_same : (a b : MadeSoFar) → Makes a ≡ Makes b → a ≡ b
made_same a b h = cc

makes_or_fails : (a : MadeSoFar) (n place : ℕ) (reason : Reason) → Makes a ≡ FailsBehind n place reason → ⊥
makes_or_fails a n place reason h = cc

fails_same : (front n m : ℕ) (a b : Reason) → IsOneFailure n m a b → FailsBehind front n a ≡ FailsBehind front m b
fails_same front n m a b h = ap (λ i. FailsBehind front i a) h.place ∙ ap (FailsBehind front m) h.reason

-- how an outcome comes of a place where steps fail
abbrev rejected_at : (form : ℕ) → StepsEnd → OpenOutcome → OpenOutcome
rejected_at form (Makes made) o = o
rejected_at form (FailsBehind front place reason) o = Rejected (form + front) place reason

module _ (system : PatternSystem) (root : Core) (parts : List Core) (are : AreParts root parts) where
  -- from one step to the next, with the number of those before
  data Runs : MadeSoFar → ℕ → List DueStep → List Step → StepsEnd → Type 0 where
    End : {m : MadeSoFar} {n : ℕ} → Runs m n [] [] (Makes m)
    Fail : {m : MadeSoFar} {n : ℕ} {d : DueStep} {ds : List DueStep} {s : Step} {ss : List Step} (place : ℕ) (reason : Reason) → due_of s ≡ d
        → IsFailing system parts m s place reason → Runs m n (d ∷ ds) (s ∷ ss) (FailsBehind n place reason)
    Strange : {m : MadeSoFar} {n : ℕ} {d : DueStep} {ds : List DueStep} {s : Step} {ss : List Step} → (due_of s ≡ d → ⊥)
        → Runs m n (d ∷ ds) (s ∷ ss) (FailsBehind n 0 Due)
    Over : {m : MadeSoFar} {n : ℕ} {s : Step} {ss : List Step} → Runs m n [] (s ∷ ss) (FailsBehind n 0 Due)
    Under : {m : MadeSoFar} {n : ℕ} {d : DueStep} {ds : List DueStep} → Runs m n (d ∷ ds) [] (FailsBehind n 0 Due)
    On : {m mid : MadeSoFar} {n : ℕ} {d : DueStep} {ds : List DueStep} {s : Step} {ss : List Step} {e : StepsEnd} → due_of s ≡ d
        → IsFine system parts m s mid → Runs mid (suc n) ds ss e → Runs m n (d ∷ ds) (s ∷ ss) e

  runs_one : (m : MadeSoFar) (n : ℕ) (ds : List DueStep) (ss : List Step) (a b : StepsEnd) → Runs m n ds ss a → Runs m n ds ss b → a ≡ b
  runs_one m n ds ss a b End End = refl
  runs_one m n ds ss a b (Fail {s = s} p x e h) (Fail q y f l) = fails_same n p q x y (failing_one system root parts are m s p q x y h l)
  runs_one m n ds ss a b (Fail p x e h) (Strange other) = absurd (other e)
  runs_one m n ds ss a b (Fail {s = s} p x e h) (On {mid = mid} f l r) = absurd (fine_not_failing system root parts are m s mid p x l h)
  runs_one m n ds ss a b (Strange other) (Fail p x e h) = absurd (other e)
  runs_one m n ds ss a b (Strange other) (Strange another) = refl
  runs_one m n ds ss a b (Strange other) (On e h r) = absurd (other e)
  runs_one m n ds ss a b Over Over = refl
  runs_one m n ds ss a b Under Under = refl
  runs_one m n ds ss a b (On {mid = mid} {s = s} e h r) (Fail p x f l) = absurd (fine_not_failing system root parts are m s mid p x h l)
  runs_one m n ds ss a b (On e h r) (Strange other) = absurd (other e)
  runs_one m n ds ss a b (On {mid = mid} {ds = es} {s = s} {ss = ts} e h r) (On {mid = mid'} f l t) =
      let same = fine_one system root parts are m s mid mid' h l in
      runs_one mid' (suc n) es ts a b (subst (λ (x : MadeSoFar). Runs x (suc n) es ts a) same r) t

  -- over steps that are fine
  runs_over : (m last : MadeSoFar) (n : ℕ) (given : List DueStep) (front : List Step) (ds : List DueStep) (ss : List Step) (e : StepsEnd)
      → AreSteps (IsFine system parts) m given front last → Runs last (n + length front) ds ss e → Runs m n (given ++ ds) (front ++ ss) e
  runs_over m last n given front ds ss e NoSteps r = let at : n + 0 ≡ n = omega arith in subst (λ (k : ℕ). Runs m k ds ss e) at r
  runs_over m last n given front ds ss e (MoreSteps {next = mid} {ds = es} {ss = ts} d h more) r =
      let at : n + suc (length ts) ≡ suc n + length ts = omega arith in
      On d h (runs_over mid last (suc n) es ts ds ss e more (subst (λ (k : ℕ). Runs last k ds ss e) at r))

  abbrev all_due : List Step → List DueStep
  all_due steps = dues_of steps (length system.rules) parts

  runs_whole : (steps : List Step) (m : MadeSoFar) → AreAllFine system parts steps m → Runs nothing_made 0 (all_due steps) steps (Makes m)
  runs_whole steps m h =
      let x = runs_over nothing_made m 0 (all_due steps) steps [] [] (Makes m) h End in
      subst (λ (ds : List DueStep). Runs nothing_made 0 ds steps (Makes m)) (append-nil (all_due steps))
      (subst (λ (ss : List Step). Runs nothing_made 0 (all_due steps ++ []) ss (Makes m)) (append-nil steps) x)

  runs_up_to : (steps front : List Step) (wanted : List DueStep) (rest : List Step) (m : MadeSoFar) (e : StepsEnd) → IsUpTo system parts steps front wanted rest m
      → Runs m (length front) wanted rest e → Runs nothing_made 0 (all_due steps) steps e
  runs_up_to steps front wanted rest m e u r =
      let at : length front ≡ 0 + length front = omega arith in
      let x = runs_over nothing_made m 0 u.done front wanted rest e u.fine (subst (λ (k : ℕ). Runs m k wanted rest e) at r) in
      subst (λ (ds : List DueStep). Runs nothing_made 0 ds steps e) (sym u.dues_are)
      (subst (λ (ss : List Step). Runs nothing_made 0 (u.done ++ wanted) ss e) (sym u.steps_are) x)

  runs_failing : (steps front : List Step) (place : ℕ) (reason : Reason) → IsFirstFailure system parts steps front place reason
      → Runs nothing_made 0 (all_due steps) steps (FailsBehind (length front) place reason)
  runs_failing steps front place reason (Failing f rest s d wanted m u e h) =
      runs_up_to steps front (d ∷ wanted) (s ∷ rest) m (FailsBehind (length front) place reason) u (Fail place reason e h)
  runs_failing steps front place reason (NotDue f rest s d wanted m u other) =
      runs_up_to steps front (d ∷ wanted) (s ∷ rest) m (FailsBehind (length front) 0 Due) u (Strange other)
  runs_failing steps front place reason (OneTooMany f rest s m u) =
      runs_up_to steps front [] (s ∷ rest) m (FailsBehind (length front) 0 Due) u Over
  runs_failing steps front place reason (Missing f d wanted m u) =
      runs_up_to steps front (d ∷ wanted) [] m (FailsBehind (length front) 0 Due) u Under

  -- Result: steps that are fine make one thing
  pub all_fine_one : (steps : List Step) (a b : MadeSoFar) → AreAllFine system parts steps a → AreAllFine system parts steps b → a ≡ b
  all_fine_one steps a b h k =
      made_same a b (runs_one nothing_made 0 (all_due steps) steps (Makes a) (Makes b) (runs_whole steps a h) (runs_whole steps b k))

-- ---- nodes

module _ (system : PatternSystem) (f : Core) where
  nodes_no_failing : (nodes : List Entry) (k : ℕ) (node : Entry) → k < length nodes → get_or nodes k node ≡ node → AreFormulaNodes system f nodes
      → (IsFormulaNode system f (take k nodes) node → ⊥) → ⊥
  nodes_no_failing nodes k node l is h other =
      other (subst (λ (e : Entry). IsEntry system.signature (length (columns_of f)) (node_presences (take k nodes)) e) is (h k node l))

  -- a node that fails stands behind none that does
  not_before : (nodes : List Entry) (j k : ℕ) (node : Entry) → j < k → k < length nodes → get_or nodes j node ≡ node
      → AreFormulaNodes system f (take k nodes) → (IsFormulaNode system f (take j nodes) node → ⊥) → ⊥
  not_before nodes j k node l m is h other =
      nodes_no_failing (take k nodes) j node (omega (arith, length-take-le k nodes (omega arith))) (get_or-take k nodes j node l ∙ is) h
      (λ entry. other (subst (λ (es : List Entry). IsFormulaNode system f es node) (take-take j k nodes (omega arith)) entry))

  failing_node_one : (nodes : List Entry) (j k : ℕ) (a b : Entry) → j < length nodes → k < length nodes → get_or nodes j a ≡ a → get_or nodes k b ≡ b
      → AreFormulaNodes system f (take j nodes) → AreFormulaNodes system f (take k nodes) → (IsFormulaNode system f (take j nodes) a → ⊥)
      → (IsFormulaNode system f (take k nodes) b → ⊥) → j ≡ k
  failing_node_one nodes j k a b l m is at h i other another =
      ⊎_elim (λ x. absurd (not_before nodes j k a x m is i other))
      (λ x. ⊎_elim (λ y. absurd (not_before nodes k j b y l at h another)) (λ y. omega arith) (cases_lt k j))
      (cases_lt j k)

  -- what comes of the claim and the nodes, by the formula's table
  data IsJudged (c : OpenCertificate) (table : Table) : OpenOutcome → Type 0 where
    ANode : c.claim ≡ Empty → 0 < length c.nodes → IsJudged c table (Rejected (node_form c 0) 0 Due)
    BadNode : (k : ℕ) (node : Entry) → c.claim ≡ Found → k < length c.nodes → get_or c.nodes k node ≡ node
        → AreFormulaNodes system f (take k c.nodes) → (IsFormulaNode system f (take k c.nodes) node → ⊥)
        → IsJudged c table (NoEntry (node_form c k))
    Accepted : c.claim ≡ Found → AreFormulaNodes system f c.nodes → AcceptsLast table c.nodes → IsJudged c table (Confirmed Found)
    NotAccepted : c.claim ≡ Found → AreFormulaNodes system f c.nodes → (AcceptsLast table c.nodes → ⊥) → IsJudged c table (Rejected c.first 0 Verdict)
    Nothing : c.claim ≡ Empty → c.nodes ≡ [] → (AcceptsSome table → ⊥) → IsJudged c table (Confirmed Empty)
    Something : c.claim ≡ Empty → c.nodes ≡ [] → AcceptsSome table → IsJudged c table (Rejected c.first 0 Verdict)

  found_or_empty : (claim : Claim) → claim ≡ Found → claim ≡ Empty → ⊥
  found_or_empty claim h k = let e : Found ≡ Empty = sym h ∙ k in absurd cc

  some_or_none : (nodes : List Entry) → 0 < length nodes → nodes ≡ [] → ⊥
  some_or_none nodes l e = omega (arith, ap length e)

  judged_one : (c : OpenCertificate) (table : Table) (a b : OpenOutcome) → IsJudged c table a → IsJudged c table b → a ≡ b
  judged_one c table a b (ANode h l) (ANode k m) = refl
  judged_one c table a b (ANode h l) (BadNode i node k m is fine other) = absurd (found_or_empty c.claim k h)
  judged_one c table a b (ANode h l) (Accepted k are last) = absurd (found_or_empty c.claim k h)
  judged_one c table a b (ANode h l) (NotAccepted k are other) = absurd (found_or_empty c.claim k h)
  judged_one c table a b (ANode h l) (Nothing k none other) = absurd (some_or_none c.nodes l none)
  judged_one c table a b (ANode h l) (Something k none some) = absurd (some_or_none c.nodes l none)
  judged_one c table a b (BadNode i node h l is fine other) (ANode k m) = absurd (found_or_empty c.claim h k)
  judged_one c table a b (BadNode i x h l is fine other) (BadNode j y k m at good another) =
      ap (λ n. NoEntry (node_form c n)) (failing_node_one c.nodes i j x y l m is at fine good other another)
  judged_one c table a b (BadNode i node h l is fine other) (Accepted k are last) = absurd (nodes_no_failing c.nodes i node l is are other)
  judged_one c table a b (BadNode i node h l is fine other) (NotAccepted k are another) = absurd (nodes_no_failing c.nodes i node l is are other)
  judged_one c table a b (BadNode i node h l is fine other) (Nothing k none another) = absurd (found_or_empty c.claim h k)
  judged_one c table a b (BadNode i node h l is fine other) (Something k none some) = absurd (found_or_empty c.claim h k)
  judged_one c table a b (Accepted h are last) (ANode k m) = absurd (found_or_empty c.claim h k)
  judged_one c table a b (Accepted h are last) (BadNode i node k m is fine other) = absurd (nodes_no_failing c.nodes i node m is are other)
  judged_one c table a b (Accepted h are last) (Accepted k too final) = refl
  judged_one c table a b (Accepted h are last) (NotAccepted k too other) = absurd (other last)
  judged_one c table a b (Accepted h are last) (Nothing k none other) = absurd (found_or_empty c.claim h k)
  judged_one c table a b (Accepted h are last) (Something k none some) = absurd (found_or_empty c.claim h k)
  judged_one c table a b (NotAccepted h are other) (ANode k m) = absurd (found_or_empty c.claim h k)
  judged_one c table a b (NotAccepted h are other) (BadNode i node k m is fine another) = absurd (nodes_no_failing c.nodes i node m is are another)
  judged_one c table a b (NotAccepted h are other) (Accepted k too last) = absurd (other last)
  judged_one c table a b (NotAccepted h are other) (NotAccepted k too another) = refl
  judged_one c table a b (NotAccepted h are other) (Nothing k none another) = absurd (found_or_empty c.claim h k)
  judged_one c table a b (NotAccepted h are other) (Something k none some) = refl
  judged_one c table a b (Nothing h none other) (ANode k m) = absurd (some_or_none c.nodes m none)
  judged_one c table a b (Nothing h none other) (BadNode i node k m is fine another) = absurd (found_or_empty c.claim k h)
  judged_one c table a b (Nothing h none other) (Accepted k are last) = absurd (found_or_empty c.claim k h)
  judged_one c table a b (Nothing h none other) (NotAccepted k are another) = absurd (found_or_empty c.claim k h)
  judged_one c table a b (Nothing h none other) (Nothing k too another) = refl
  judged_one c table a b (Nothing h none other) (Something k too some) = absurd (other some)
  judged_one c table a b (Something h none some) (ANode k m) = absurd (some_or_none c.nodes m none)
  judged_one c table a b (Something h none some) (BadNode i node k m is fine another) = absurd (found_or_empty c.claim k h)
  judged_one c table a b (Something h none some) (Accepted k are last) = absurd (found_or_empty c.claim k h)
  judged_one c table a b (Something h none some) (NotAccepted k are another) = refl
  judged_one c table a b (Something h none some) (Nothing k too another) = absurd (another some)
  judged_one c table a b (Something h none some) (Something k too more) = refl

  -- ---- both

  module _ (parts : List Core) (are : AreParts f parts) (c : OpenCertificate) where
    -- a place where steps fail, or what is made and is judged
    data IsSeen : OpenOutcome → Type 0 where
      AtStep : (front place : ℕ) (reason : Reason) → Runs system f parts are nothing_made 0 (all_due system f parts are c.steps) c.steps (FailsBehind front place reason)
          → IsSeen (Rejected (c.first + 1 + front) place reason)
      AtTable : (made : MadeSoFar) (table : Table) (o : OpenOutcome) → Runs system f parts are nothing_made 0 (all_due system f parts are c.steps) c.steps (Makes made)
          → IsAnswerOf parts made f (OfTable table) → IsJudged c table o → IsSeen o

    ends_one : (a b : StepsEnd) → Runs system f parts are nothing_made 0 (all_due system f parts are c.steps) c.steps a
        → Runs system f parts are nothing_made 0 (all_due system f parts are c.steps) c.steps b → a ≡ b
    ends_one a b h k = runs_one system f parts are nothing_made 0 (all_due system f parts are c.steps) c.steps a b h k

    seen_one : (a b : OpenOutcome) → IsSeen a → IsSeen b → a ≡ b
    seen_one a b (AtStep n p x h) (AtStep m q y k) =
        ap (λ e. rejected_at (c.first + 1) e (Confirmed Empty)) (ends_one (FailsBehind n p x) (FailsBehind m q y) h k)
    seen_one a b (AtStep n p x h) (AtTable made table o k is j) = absurd (makes_or_fails made n p x (ends_one (Makes made) (FailsBehind n p x) k h))
    seen_one a b (AtTable made table o k is j) (AtStep n p x h) = absurd (makes_or_fails made n p x (ends_one (Makes made) (FailsBehind n p x) k h))
    seen_one a b (AtTable made table o h is j) (AtTable made' table' o' k is' j') =
        let same : made ≡ made' = made_same made made' (ends_one (Makes made) (Makes made') h k) in
        let tables : table ≡ table' =
        body_one f parts are made' f table table' (subst (λ (m : MadeSoFar). IsAnswerOf parts m f (OfTable table)) same is) is' in
        judged_one c table' a b (subst (λ (t : Table). IsJudged c t a) tables j) j'

    seen : (o : OpenOutcome) → IsOpenChecked system f parts c o → IsSeen o
    seen o (FailingStep front place reason h) = AtStep (length front) place reason (runs_failing system f parts are c.steps front place reason h)
    seen o (NodeOfEmpty table m empty some) = AtTable m.made table o (runs_whole system f parts are c.steps m.made m.fine) m.table_is (ANode empty some)
    seen o (FailingNode table k node m found l is fine other) =
        AtTable m.made table o (runs_whole system f parts are c.steps m.made m.fine) m.table_is (BadNode k node found l is fine other)
    seen o (FoundLast table m found nodes last) =
        AtTable m.made table o (runs_whole system f parts are c.steps m.made m.fine) m.table_is (Accepted found nodes last)
    seen o (NotFound table m found nodes other) =
        AtTable m.made table o (runs_whole system f parts are c.steps m.made m.fine) m.table_is (NotAccepted found nodes other)
    seen o (NoneThere table m empty none other) =
        AtTable m.made table o (runs_whole system f parts are c.steps m.made m.fine) m.table_is (Nothing empty none other)
    seen o (SomeThere table m empty none some) =
        AtTable m.made table o (runs_whole system f parts are c.steps m.made m.fine) m.table_is (Something empty none some)

    open_checked_one : (a b : OpenOutcome) → IsOpenChecked system f parts c a → IsOpenChecked system f parts c b → a ≡ b
    open_checked_one a b h k = seen_one a b (seen a h) (seen b k)

-- Result: whatever the parts are listed as
pub HasOpenOutcome-one : (system : PatternSystem) (f : Core) (c : OpenCertificate) (a b : OpenOutcome) → HasOpenOutcome system f c a
    → HasOpenOutcome system f c b → a ≡ b
HasOpenOutcome-one system f c a b h k =
    let same = AreEachOnce-unique (postorder f) h.parts k.parts h.parts_are k.parts_are in
    open_checked_one system f k.parts k.parts_are c a b (subst (λ (ps : List Core). IsOpenChecked system f ps c a) same h.checked) k.checked
