-- The steps of one part behind those before it: its counts, and its answer, merged or as it is; what was made before stays.
use Rattle.std.proofs.Common.{◌≡◌, ℕ, ◌+◌, ◌<◌, List, [], ◌∷◌, ◌++◌, length, get_or, Bool, true, false, ◌==◌, if◌then◌else◌, Some, refl, sym, ◌∙◌, arith, subst}
use Rattle.fort_theory.specs.Patterns.{PatternSystem, IsSystem}
use Rattle.fort_theory.specs.Cores as core
use Rattle.fort_theory.specs.Cores.{Core}
use Rattle.fort_theory.specs.PartLists.{AreParts}
use Rattle.fort_tables.specs.Entries.{Entry}
use Rattle.fort_tables.specs.Tables.{Table, Listed, listed_table, IsListed}
use Rattle.fort_tables.proofs.EqualTests.{test_from_apart}
use Rattle.fort_tables.specs.Merges.{merged, IsCoarsest}
use Rattle.fort_tables.specs.MergeOutcomes.{AreEntriesOf}
use Rattle.fort_tables.specs.Projections.{ArePure}
use Rattle.fort_tables.specs.Counts as counts
use Rattle.fort_tables.specs.Counts.{AreCounts, KeepRules, count_at}
use Rattle.fort_parts.specs.PartColumns.{columns_of, place_in}
use Rattle.fort_parts.specs.PartAnswers.{Answer, OfValue, OfTable}
use Rattle.fort_parts.specs.DecidedCores.{IsOperandOf}
use Rattle.fort_parts.specs.RightAnswers.{IsRightBy}
use Rattle.fort_parts.proofs.PartOrder.{operand_earlier}
use Rattle.fort_parts.specs.ReducedParts.{AlikeWith}
use Rattle.fort_parts.specs.ToldParts.{ToldWith}
use Rattle.fort_certificate_theory.specs.Certificates.{Step, Part, Merge, Counts, Value}
use Rattle.fort_certificate_theory.specs.Dues.{DueStep, OfPart, OfMerge, OfValue, has_columns, is_turned, closures_due, counts_due, table_due, answer_due}
use Rattle.fort_certificate_theory.specs.MergeSteps.{listed_merge}
use Rattle.fort_certificate_theory.specs.Made.{MadeSoFar, nothing_made, with_counts, with_answer, IsAnswerOf, OfStep, Turned}
use Rattle.fort_certificate_theory.specs.PartRules.{IsCounted, IsValueOf}
use Rattle.fort_certificate_theory.specs.Checked.{IsFine, AreSteps, NoSteps, MoreSteps, last_value}
use Rattle.fort_certificate_theory.specs.Written.{IsWrittenStep}
use Rattle.fort_certificate_theory.proofs.RuleLaws.{part_one}
use Rattle.fort_certificate_theory.proofs.FineSteps.{HasClosures, closures_done, chosen, passed_over, itself}
use Rattle.fort_certificate_theory.proofs.CertifiedTruth.{moved_counted, turned_closed}
use Rattle.fort_certificate_theory.proofs.WrittenSteps.{written_part, written_merge, written_counts, written_value}
use Rattle.fort_certificate_theory.proofs.LabelledParts.{right_targets_of}
use Rattle.fort_certificate_theory.proofs.AnsweredParts.{AreCountsRight, HasLabels}

pub last_value-push : (ss : List Step) (k : ℕ) (v : Bool) → last_value (ss ++ Value k v ∷ []) ≡ Some v
last_value-push [] k v = refl
last_value-push (s ∷ []) k v = refl
last_value-push (s ∷ t ∷ ss) k v = last_value-push (t ∷ ss) k v

-- an answer that was made stays, where those of other parts than k do
pub kept_answer : (root : Core) (parts : List Core) → AreParts root parts → (k : ℕ) (made other : MadeSoFar) → ((j : ℕ) → (j ≡ k → ⊥) → other.answers j ≡ made.answers j)
    → (g : Core) (answer : Answer) (j : ℕ) → j < k → j < length parts → get_or parts j core.True ≡ g → IsAnswerOf parts made g answer → IsAnswerOf parts other g answer
kept_answer root parts are k made other others g answer j l m e (OfStep i p t a) =
    let same : i ≡ j = part_one root parts are g i j p (m, e) in
    OfStep i p t (others i (λ z. omega arith) ∙ a)
kept_answer root parts are k made other others g answer j l m e (Turned {f = f} body h r) =
    let o : IsOperandOf f (get_or parts j core.True) = subst (IsOperandOf f) (sym e) refl in
    let before = operand_earlier root parts are j m f o in
    Turned body h (kept_answer root parts are k made other others f (OfTable body) before.place (omega (arith, before.before)) (omega (arith, before.before)) before.is r)

-- the counts of part k
pub record AreCountsDone (reduces : Bool) (system : PatternSystem) (parts : List Core) (k : ℕ) (made : MadeSoFar) (f : Core) (added : List Step) (mid : MadeSoFar) : Type 0 where
  pub done : AreSteps (IsWrittenStep system parts) made (counts_due k f) added mid
  pub closures : HasClosures system parts (1 + length system.rules) mid
  pub answers : mid.answers ≡ made.answers
  pub counts : AreCountsRight reduces system parts mid k f

-- its answer
pub record IsAnswerDone (reduces : Bool) (system : PatternSystem) (parts : List Core) (k : ℕ) (made : MadeSoFar) (answer : Answer) (added : List Step) (last : MadeSoFar) : Type 0 where
  pub done : AreSteps (IsWrittenStep system parts) made (answer_due (λ i. reduces) k (get_or parts k core.True)) added last
  pub closures : HasClosures system parts (1 + length system.rules) last
  pub others : (j : ℕ) → (j ≡ k → ⊥) → last.answers j ≡ made.answers j
  pub is : IsAnswerOf parts last (get_or parts k core.True) answer

module _ (reduces : Bool) (system : PatternSystem) (parts : List Core) (k : ℕ) (made : MadeSoFar) (closures : HasClosures system parts (1 + length system.rules) made) where
  pub no_counts_done : (f : Core) → counts_due k f ≡ [] → AreCountsRight reduces system parts made k f → AreCountsDone reduces system parts k made f [] made
  no_counts_done f e counts = record {
    done = subst (λ (ds : List DueStep). AreSteps (IsWrittenStep system parts) made ds [] made) (sym e) NoSteps;
    closures = closures;
    answers = refl;
    counts = counts;
  }

  pub counts_done : (n : ℕ) (g : Core) (table : Table) (states : List ℕ) (marks : List counts.Count) → get_or parts k core.True ≡ core.Infinite n g → IsAnswerOf parts made g (OfTable table)
      → IsRightBy system (ToldWith reduces system) g (OfTable table) → ArePure table (place_in (columns_of g) n) states → AreCounts table (place_in (columns_of g) n) states marks
      → AreCountsDone reduces system parts k made (core.Infinite n g) (Counts k marks ∷ []) (with_counts made k marks)
  counts_done n g table states marks part body right pure are =
      let counted : IsCounted parts made n g table states = record { body_is = body; pure = pure } in
      let mid = with_counts made k marks in
      record {
        done = MoreSteps refl (written_counts system parts made k n g table states marks part counted are) NoSteps;
        closures = closures;
        answers = refl;
        counts = record {
          table = table;
          states = states;
          counted = moved_counted parts made mid n g table states refl counted;
          right = right;
          rules = subst (λ (ms : List counts.Count). KeepRules table (place_in (columns_of g) n) (count_at states ms)) (sym (chosen (k == k) marks (made.counts k) (itself k))) are.rules;
        };
      }

  module _ (within : k < length parts) where
    abbrev own : Core
    own = get_or parts k core.True

    others_kept : (answer : Answer) (j : ℕ) → (j ≡ k → ⊥) → (with_answer made k answer).answers j ≡ made.answers j
    others_kept answer j other = passed_over (j == k) answer (made.answers j) (test_from_apart j k other)

    pub value_done : (b : Bool) → has_columns own ≡ false → IsValueOf parts made k own b → IsAnswerDone reduces system parts k made (OfValue b) (Value k b ∷ []) (with_answer made k (OfValue b))
    value_done b none is = record {
      done = subst (λ (ds : List DueStep). AreSteps (IsWrittenStep system parts) made ds (Value k b ∷ []) (with_answer made k (OfValue b)))
          (sym (passed_over (has_columns own) (if is_turned own then [] else table_due (λ i. reduces) k) (OfValue k ∷ []) none))
          (MoreSteps refl (written_value system parts made k b is) NoSteps);
      closures = closures;
      others = others_kept (OfValue b);
      is = OfStep k (within, refl) (turned_closed own none) (chosen (k == k) (OfValue b) (made.answers k) (itself k));
    }

    -- the table as it is made
    pub table_made : IsSystem system → (t : Listed) → HasLabels reduces system parts made k own → IsListed t → length t.finals ≡ length t.presences → IsRightBy system (AlikeWith reduces system) own (OfTable (listed_table t))
        → IsWrittenStep system parts made (Part k t.targets) (with_answer made k (OfTable (listed_table t)))
    table_made lawful t labels listed count right =
        written_part system parts made k labels.local t labels.is (right_targets_of reduces system lawful.constant own labels.local labels.labels t listed count right)

    table_steps : (ss : List Step) (last : MadeSoFar) → has_columns own ≡ true → is_turned own ≡ false → AreSteps (IsWrittenStep system parts) made (table_due (λ i. reduces) k) ss last
        → AreSteps (IsWrittenStep system parts) made (answer_due (λ i. reduces) k own) ss last
    table_steps ss last some turned h =
        subst (λ (ds : List DueStep). AreSteps (IsWrittenStep system parts) made ds ss last)
        (sym (chosen (has_columns own) (if is_turned own then [] else table_due (λ i. reduces) k) (OfValue k ∷ []) some ∙ passed_over (is_turned own) [] (table_due (λ i. reduces) k) turned)) h

    pub table_done : reduces ≡ false → IsSystem system → (t : Listed) → has_columns own ≡ true → is_turned own ≡ false → HasLabels reduces system parts made k own → IsListed t → length t.finals ≡ length t.presences
        → IsRightBy system (AlikeWith reduces system) own (OfTable (listed_table t)) → IsAnswerDone reduces system parts k made (OfTable (listed_table t)) (Part k t.targets ∷ []) (with_answer made k (OfTable (listed_table t)))
    table_done alone lawful t some turned labels listed count right =
        let answer = OfTable (listed_table t) in
        record {
          done = table_steps (Part k t.targets ∷ []) (with_answer made k answer) some turned
              (subst (λ b. AreSteps (IsWrittenStep system parts) made (OfPart k ∷ (if b then (OfMerge k ∷ []) else [])) (Part k t.targets ∷ []) (with_answer made k answer)) (sym alone)
              (MoreSteps refl (table_made lawful t labels listed count right) NoSteps));
          closures = closures;
          others = others_kept answer;
          is = OfStep k (within, refl) turned (chosen (k == k) answer (made.answers k) (itself k));
        }

    -- and then its coarsest classes
    pub merged_done : reduces ≡ true → IsSystem system → (t : Listed) (classes : List ℕ) (entries : List Entry) → has_columns own ≡ true → is_turned own ≡ false → HasLabels reduces system parts made k own → IsListed t
        → length t.finals ≡ length t.presences → IsRightBy system (AlikeWith reduces system) own (OfTable (listed_table t)) → IsCoarsest (listed_table t) classes → AreEntriesOf (merged (listed_table t) classes) entries
        → IsAnswerDone reduces system parts k made (OfTable (listed_table (listed_merge (listed_table t) classes entries))) (Part k t.targets ∷ Merge k classes ∷ [])
        (with_answer (with_answer made k (OfTable (listed_table t))) k (OfTable (listed_table (listed_merge (listed_table t) classes entries))))
    merged_done both lawful t classes entries some turned labels listed count right coarsest are =
        let answer = OfTable (listed_table t) in
        let mid = with_answer made k answer in
        let new = OfTable (listed_table (listed_merge (listed_table t) classes entries)) in
        let merge = written_merge system parts mid k (listed_table t) classes entries (chosen (k == k) answer (made.answers k) (itself k)) coarsest are in
        record {
          done = table_steps (Part k t.targets ∷ Merge k classes ∷ []) (with_answer mid k new) some turned
              (subst (λ b. AreSteps (IsWrittenStep system parts) made (OfPart k ∷ (if b then (OfMerge k ∷ []) else [])) (Part k t.targets ∷ Merge k classes ∷ []) (with_answer mid k new)) (sym both)
              (MoreSteps refl (table_made lawful t labels listed count right) (MoreSteps refl merge NoSteps)));
          closures = closures;
          others = λ j other. passed_over (j == k) new (mid.answers j) (test_from_apart j k other) ∙ others_kept answer j other;
          is = OfStep k (within, refl) turned (chosen (k == k) new (mid.answers k) (itself k));
        }

    pub turned_done : (answer : Answer) → has_columns own ≡ true → is_turned own ≡ true → IsAnswerOf parts made own answer → IsAnswerDone reduces system parts k made answer [] made
    turned_done answer some turned is = record {
      done = subst (λ (ds : List DueStep). AreSteps (IsWrittenStep system parts) made ds [] made)
          (sym (chosen (has_columns own) (if is_turned own then [] else table_due (λ i. reduces) k) (OfValue k ∷ []) some ∙ chosen (is_turned own) [] (table_due (λ i. reduces) k) turned))
          NoSteps;
      closures = closures;
      others = λ j other. refl;
      is = is;
    }

-- ---- steps as they are written are fine

module _ (system : PatternSystem) (parts : List Core) where
  fine_steps : (made last : MadeSoFar) (ds : List DueStep) (ss : List Step) → AreSteps (IsWrittenStep system parts) made ds ss last → AreSteps (IsFine system parts) made ds ss last
  fine_steps made last ds ss NoSteps = NoSteps
  fine_steps made last ds ss (MoreSteps {next = x} {ds = es} {ss = us} e h more) = MoreSteps e h.fine (fine_steps x last es us more)

  -- once the closures are written, each that some part asks for is right
  pub HasClosures-written : (last : MadeSoFar) (ss : List Step) → AreSteps (IsWrittenStep system parts) nothing_made (closures_due parts (length system.rules) 1) ss last
      → HasClosures system parts (1 + length system.rules) last
  HasClosures-written last ss h =
      closures_done system parts (length system.rules) 1 nothing_made last ss (λ which j low l asked. absurd (omega arith))
      (fine_steps nothing_made last (closures_due parts (length system.rules) 1) ss h)
