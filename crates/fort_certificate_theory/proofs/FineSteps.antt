-- What a fine step of each kind makes; and when the steps of the closures are done, each closure that some part asks for is right.
use Rattle.std.proofs.Common.{◌≡◌, ℕ, zero, suc, ◌+◌, ◌<◌, ◌≤◌, List, [], ◌∷◌, ◌++◌, get_or, Bool, true, false, ◌==◌, ◌&&◌, if◌then◌else◌, eq-eqb, true≢false, refl, ap, sym, ◌∙◌, arith, subst, ⊎_elim}
use Rattle.std.specs.List.{list_any}
use Rattle.std.proofs.lemmas.Bool.{cases_lt}
use Rattle.fort_theory.specs.Patterns.{PatternSystem}
use Rattle.fort_theory.specs.Cores as core
use Rattle.fort_theory.specs.Cores.{Core, Rel}
use Rattle.fort_tables.specs.Entries.{Entry}
use Rattle.fort_tables.specs.Tables.{Table, listed_table}
use Rattle.fort_tables.proofs.EqualTests.{test_from_apart}
use Rattle.fort_tables.specs.Merges.{merged, IsMerge}
use Rattle.fort_tables.specs.MergeOutcomes.{AreEntriesOf}
use Rattle.fort_tables.specs.Counts.{Count}
use Rattle.fort_parts.specs.PartAnswers.{OfValue, OfTable}
use Rattle.fort_alike.specs.ListedClosures.{Which, Star, Conv, Pair as Item, asks}
use Rattle.fort_certificate_theory.specs.Certificates.{Step}
use Rattle.fort_certificate_theory.specs.Outcomes.{Fine}
use Rattle.fort_certificate_theory.specs.PartSteps.{part_table}
use Rattle.fort_certificate_theory.specs.MergeSteps.{listed_merge}
use Rattle.fort_certificate_theory.specs.Dues.{DueStep, OfClosure, OfPart, OfMerge, OfCounts, OfValue, due_of, closure_due, closures_due}
use Rattle.fort_certificate_theory.specs.Made.{MadeSoFar, same_which, with_closure, with_counts, with_answer}
use Rattle.fort_certificate_theory.specs.PartRules.{Local, IsLocalOf, IsValueOf}
use Rattle.fort_certificate_theory.specs.Checked.{IsClosureJudged, IsCountJudged, IsFine, FineClosure, FinePart, FineMerge, FineCounts, FineValue, AreSteps, NoSteps, MoreSteps}
use Rattle.fort_certificate_theory.proofs.MadeTables.{IsMadeBy}

-- steps for two lists of dues are some for the first, and then some for the second
pub record IsCut (IsStep : MadeSoFar → Step → MadeSoFar → Type 0) (made : MadeSoFar) (ds es : List DueStep) (ss : List Step) (last : MadeSoFar) : Type 0 where
  pub front : List Step
  pub rest : List Step
  pub mid : MadeSoFar
  pub split : ss ≡ front ++ rest
  pub first : AreSteps IsStep made ds front mid
  pub second : AreSteps IsStep mid es rest last

pub cut_steps : (IsStep : MadeSoFar → Step → MadeSoFar → Type 0) (made : MadeSoFar) (ds es : List DueStep) (ss : List Step) (last : MadeSoFar) → AreSteps IsStep made (ds ++ es) ss last → IsCut IsStep made ds es ss last
cut_steps IsStep made [] es ss last h = record { front = []; rest = ss; mid = made; split = refl; first = NoSteps; second = h }
cut_steps IsStep made (d ∷ ds) es ss last (MoreSteps {next = next} {s = s} {ss = us} e h more) =
    let c = cut_steps IsStep next ds es us last more in
    record { front = s ∷ c.front; rest = c.rest; mid = c.mid; split = ap (λ xs. s ∷ xs) c.split; first = MoreSteps e h c.first; second = c.second }

closure_which : (v w : Which) (i j : ℕ) → OfClosure v i ≡ OfClosure w j → v ≡ w
closure_which v w i j h = cc

closure_index : (v w : Which) (i j : ℕ) → OfClosure v i ≡ OfClosure w j → i ≡ j
closure_index v w i j h = cc

part_number : (i j : ℕ) → OfPart i ≡ OfPart j → i ≡ j
part_number i j h = cc

merge_number : (i j : ℕ) → OfMerge i ≡ OfMerge j → i ≡ j
merge_number i j h = cc

counts_number : (i j : ℕ) → OfCounts i ≡ OfCounts j → i ≡ j
counts_number i j h = cc

pub value_number : (i j : ℕ) → ◌≡◌ {A = DueStep} (OfValue i) (OfValue j) → i ≡ j
value_number i j h = cc

-- what a fine step of each kind makes
module _ (system : PatternSystem) (parts : List Core) (made : MadeSoFar) where
  pub record IsClosureMade (which : Which) (index : ℕ) (next : MadeSoFar) : Type 0 where
    pub items : List Item
    pub judged : IsClosureJudged system which index items Fine
    pub is : next ≡ with_closure made which index items

  pub record IsCountsMade (k : ℕ) (next : MadeSoFar) : Type 0 where
    pub marks : List Count
    pub judged : IsCountJudged parts made k marks Fine
    pub is : next ≡ with_counts made k marks

  pub record IsPartMade (k : ℕ) (next : MadeSoFar) : Type 0 where
    pub local : Local
    pub table : Table
    pub local_is : IsLocalOf system parts made k (get_or parts k core.True) local
    pub by : IsMadeBy local table
    pub is : next ≡ with_answer made k (OfTable table)

  pub record IsMergeMade (k : ℕ) (next : MadeSoFar) : Type 0 where
    pub classes : List ℕ
    pub table : Table
    pub entries : List Entry
    pub table_is : made.answers k ≡ OfTable table
    pub merge : IsMerge table classes
    pub entries_are : AreEntriesOf (merged table classes) entries
    pub is : next ≡ with_answer made k (OfTable (listed_table (listed_merge table classes entries)))

  pub record IsValueMade (k : ℕ) (next : MadeSoFar) : Type 0 where
    pub value : Bool
    pub value_is : IsValueOf parts made k (get_or parts k core.True) value
    pub is : next ≡ with_answer made k (OfValue value)

  pub closure_step : (s : Step) (next : MadeSoFar) (which : Which) (index : ℕ) → due_of s ≡ OfClosure which index → IsFine system parts made s next → IsClosureMade which index next
  closure_step s next which index e (FineClosure {which = v} {index = i} {items = items} h) =
      let a = closure_which v which i index e in
      let b = closure_index v which i index e in
      record {
        items = items;
        judged = subst (λ (w : Which). IsClosureJudged system w index items Fine) a (subst (λ (j : ℕ). IsClosureJudged system v j items Fine) b h);
        is = λ n. with_closure made (a n) (b n) items;
      }
  closure_step s next which index e (FinePart local es ws h r) = absurd cc
  closure_step s next which index e (FineMerge table es at m h) = absurd cc
  closure_step s next which index e (FineCounts h) = absurd cc
  closure_step s next which index e (FineValue h) = absurd cc

  pub counts_step : (s : Step) (next : MadeSoFar) (k : ℕ) → due_of s ≡ OfCounts k → IsFine system parts made s next → IsCountsMade k next
  counts_step s next k e (FineClosure h) = absurd cc
  counts_step s next k e (FinePart local es ws h r) = absurd cc
  counts_step s next k e (FineMerge table es at m h) = absurd cc
  counts_step s next k e (FineCounts {k = i} {marks = marks} h) =
      let a = counts_number i k e in
      record { marks = marks; judged = subst (λ (j : ℕ). IsCountJudged parts made j marks Fine) a h; is = λ n. with_counts made (a n) marks }
  counts_step s next k e (FineValue h) = absurd cc

  pub part_step : (s : Step) (next : MadeSoFar) (k : ℕ) → due_of s ≡ OfPart k → IsFine system parts made s next → IsPartMade k next
  part_step s next k e (FineClosure h) = absurd cc
  part_step s next k e (FinePart {k = i} {targets = targets} local es ws h r) =
      let a = part_number i k e in
      let table = listed_table (part_table local.rule local.accepting es targets ws) in
      record {
        local = local;
        table = table;
        local_is = subst (λ (j : ℕ). IsLocalOf system parts made j (get_or parts j core.True) local) a h;
        by = record { targets = targets; entries = es; labels = ws; right = r; is = refl };
        is = λ n. with_answer made (a n) (OfTable table);
      }
  part_step s next k e (FineMerge table es at m h) = absurd cc
  part_step s next k e (FineCounts h) = absurd cc
  part_step s next k e (FineValue h) = absurd cc

  pub merge_step : (s : Step) (next : MadeSoFar) (k : ℕ) → due_of s ≡ OfMerge k → IsFine system parts made s next → IsMergeMade k next
  merge_step s next k e (FineClosure h) = absurd cc
  merge_step s next k e (FinePart local es ws h r) = absurd cc
  merge_step s next k e (FineMerge {k = i} {classes = classes} table es at m h) =
      let a = merge_number i k e in
      record {
        classes = classes;
        table = table;
        entries = es;
        table_is = subst (λ (j : ℕ). made.answers j ≡ OfTable table) a at;
        merge = m;
        entries_are = h;
        is = λ n. with_answer made (a n) (OfTable (listed_table (listed_merge table classes es)));
      }
  merge_step s next k e (FineCounts h) = absurd cc
  merge_step s next k e (FineValue h) = absurd cc

  pub value_step : (s : Step) (next : MadeSoFar) (k : ℕ) → due_of s ≡ OfValue k → IsFine system parts made s next → IsValueMade k next
  value_step s next k e (FineClosure h) = absurd cc
  value_step s next k e (FinePart local es ws h r) = absurd cc
  value_step s next k e (FineMerge table es at m h) = absurd cc
  value_step s next k e (FineCounts h) = absurd cc
  value_step s next k e (FineValue {k = i} {value = value} h) =
      let a = value_number i k e in
      record { value = value; value_is = subst (λ (j : ℕ). IsValueOf parts made j (get_or parts j core.True) value) a h; is = λ n. with_answer made (a n) (OfValue value) }

-- what is chosen by a test
pub chosen : {A : Type 0} (b : Bool) (x y : A) → b ≡ true → (if b then x else y) ≡ x
chosen true x y e = refl
chosen false x y e = absurd (true≢false (sym e))

pub passed_over : {A : Type 0} (b : Bool) (x y : A) → b ≡ false → (if b then x else y) ≡ y
passed_over true x y e = absurd (true≢false e)
passed_over false x y e = refl

and_false : (a b : Bool) → b ≡ false → (a && b) ≡ false
and_false true b e = e
and_false false b e = refl

pub itself : (n : ℕ) → (n == n) ≡ true
itself n = eq-eqb n n refl

which_itself : (w : Which) (b : Bool) → b ≡ true → (same_which w w && b) ≡ true
which_itself Star b e = e
which_itself Conv b e = e

pub one_step : (IsStep : MadeSoFar → Step → MadeSoFar → Type 0) (made next : MadeSoFar) (d : DueStep) (ss : List Step) → AreSteps IsStep made (d ∷ []) ss next → (s : Step) × (due_of s ≡ d) × IsStep made s next
one_step IsStep made next d ss (MoreSteps {s = s} e h NoSteps) = (s, e, h)

pub no_step : (IsStep : MadeSoFar → Step → MadeSoFar → Type 0) (made next : MadeSoFar) (ss : List Step) → AreSteps IsStep made [] ss next → made ≡ next
no_step IsStep made next ss NoSteps = refl

-- ---- closures

module _ (system : PatternSystem) (parts : List Core) where
  abbrev pub IsRightClosure : MadeSoFar → Which → ℕ → Type 0
  IsRightClosure made which index = IsClosureJudged system which index (made.closures which index) Fine

  -- those of the indices below this one that are asked for are right
  abbrev pub HasClosures : ℕ → MadeSoFar → Type 0
  HasClosures i made = (which : Which) (j : ℕ) → 1 ≤ j → j < i → list_any (asks which j) parts ≡ true → IsRightClosure made which j

  record IsClosureDone (which : Which) (index : ℕ) (made next : MadeSoFar) : Type 0 where
    right : list_any (asks which index) parts ≡ true → IsRightClosure next which index
    others : (v : Which) (j : ℕ) → (same_which v which && (j == index)) ≡ false → next.closures v j ≡ made.closures v j

  closure_done : (which : Which) (index : ℕ) (made next : MadeSoFar) (ss : List Step) → AreSteps (IsFine system parts) made (closure_due parts index which) ss next → IsClosureDone which index made next
  closure_done which index made next ss h = by (list_any (asks which index) parts) refl h
    where
      by : (b : Bool) → list_any (asks which index) parts ≡ b → AreSteps (IsFine system parts) made (if b then (OfClosure which index ∷ []) else []) ss next → IsClosureDone which index made next
      by true e k =
          let s = one_step (IsFine system parts) made next (OfClosure which index) ss k in
          let m = closure_step system parts made s.0 next which index s.1 s.2 in
          let w = with_closure made which index m.items in
          subst (λ (x : MadeSoFar). IsClosureDone which index made x) (sym m.is) (record {
            right = λ asked. subst (λ (items : List Item). IsClosureJudged system which index items Fine)
                (sym (chosen (same_which which which && (index == index)) m.items (made.closures which index) (which_itself which (index == index) (itself index)))) m.judged;
            others = λ v j f. passed_over (same_which v which && (j == index)) m.items (made.closures v j) f;
          })
      by false e k =
          subst (λ (x : MadeSoFar). IsClosureDone which index made x) (no_step (IsFine system parts) made next ss k) (record {
            right = λ asked. absurd (true≢false (sym asked ∙ e));
            others = λ v j f. refl;
          })

  kept_closure : (which v : Which) (i j : ℕ) (made next : MadeSoFar) → IsClosureDone which i made next → (same_which v which && (j == i)) ≡ false → IsRightClosure made v j → IsRightClosure next v j
  kept_closure which v i j made next done f right = subst (λ (items : List Item). IsClosureJudged system v j items Fine) (sym (done.others v j f)) right

  index_done : (i : ℕ) (made mid next : MadeSoFar) → HasClosures i made → IsClosureDone Star i made mid → IsClosureDone Conv i mid next → HasClosures (suc i) next
  index_done i made mid next has star conv which j low l asked =
      ⊎_elim
      (λ (m : j < i).
      let f = test_from_apart j i (λ e. omega arith) in
      kept_closure Conv which i j mid next conv (and_false (same_which which Conv) (j == i) f)
      (kept_closure Star which i j made mid star (and_false (same_which which Star) (j == i) f) (has which j low m asked)))
      (λ (m : i ≤ j). let e : i ≡ j = omega arith in here which (subst (λ (n : ℕ). list_any (asks which n) parts ≡ true) (sym e) asked) e)
      (cases_lt j i)
    where
      here : (w : Which) → list_any (asks w i) parts ≡ true → i ≡ j → IsRightClosure next w j
      here Star a e = subst (λ (n : ℕ). IsRightClosure next Star n) e (kept_closure Conv Star i i mid next conv refl (star.right a))
      here Conv a e = subst (λ (n : ℕ). IsRightClosure next Conv n) e (conv.right a)

  pub closures_done : (n i : ℕ) (made last : MadeSoFar) (ss : List Step) → HasClosures i made → AreSteps (IsFine system parts) made (closures_due parts n i) ss last → HasClosures (i + n) last
  closures_done zero i made last ss has h =
      let e : i ≡ i + 0 = omega arith in
      subst (λ (m : ℕ). HasClosures m last) e (subst (λ (x : MadeSoFar). HasClosures i x) (no_step (IsFine system parts) made last ss h) has)
  closures_done (suc n) i made last ss has h =
      let c = cut_steps (IsFine system parts) made (closure_due parts i Star) (closure_due parts i Conv ++ closures_due parts n (suc i)) ss last h in
      let d = cut_steps (IsFine system parts) c.mid (closure_due parts i Conv) (closures_due parts n (suc i)) c.rest last c.second in
      let both = index_done i made c.mid d.mid has (closure_done Star i made c.mid c.front c.first) (closure_done Conv i c.mid d.mid d.front d.first) in
      let e : suc i + n ≡ i + suc n = omega arith in
      subst (λ (m : ℕ). HasClosures m last) e (closures_done n (suc i) d.mid last d.rest both d.second)
