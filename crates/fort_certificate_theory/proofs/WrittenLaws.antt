-- A certificate that is written is in order; there is at most one with reduced tables, and one with tables as they are.
use Rattle.std.proofs.Common.{◌≡◌, ℕ, Bool, List, ◌∷◌, length, get_or, Some, refl, ap, sym, ◌∙◌, arith, subst}
use Rattle.std.proofs.lemmas.List.{ext_get_or}
use Rattle.fort_theory.specs.Patterns.{PatternSystem}
use Rattle.fort_theory.specs.Cores as core
use Rattle.fort_theory.specs.Cores.{Core}
use Rattle.fort_theory.specs.Parts.{postorder}
use Rattle.fort_theory.specs.PartLists.{AreParts}
use Rattle.fort_theory.proofs.EachOnceUnique.{AreEachOnce-unique}
use Rattle.fort_tables.specs.Tables.{Table}
use Rattle.fort_tables.specs.Merges.{IsCoarsest}
use Rattle.fort_tables.specs.Counts as counts
use Rattle.fort_tables.specs.Counts.{Finite, Infinite, IsCountOf}
use Rattle.fort_tables.specs.PureStates.{GivesAlone}
use Rattle.fort_tables.proofs.HeightLaws.{not_many_from_heights}
use Rattle.fort_parts.specs.PartColumns.{columns_of, place_in}
use Rattle.fort_alike.specs.ListedClosures.{Which, Pair as Item}
use Rattle.fort_certificate_theory.specs.Certificates.{Step, Closure, Part, Merge, Counts, Value, Certificate}
use Rattle.fort_certificate_theory.specs.ClosureSteps.{ClosureRules}
use Rattle.fort_certificate_theory.specs.Dues.{DueStep, OfClosure, OfPart, OfMerge, OfCounts, OfValue, due_of, dues, dues_of}
use Rattle.fort_certificate_theory.specs.Made.{MadeSoFar, nothing_made}
use Rattle.fort_certificate_theory.specs.PartRules.{IsCounted}
use Rattle.fort_certificate_theory.specs.Checked.{IsFine, FineValue, AreSteps, NoSteps, MoreSteps, last_value, InOrder, IsInOrder}
use Rattle.fort_certificate_theory.specs.Passes.{IsListOfPasses}
use Rattle.fort_certificate_theory.specs.Written.{IsWrittenClosure, IsWrittenPart, IsWrittenMerge, IsWrittenCounts, IsWrittenStep, IsWritten}
use Rattle.fort_certificate_theory.proofs.WrittenParts.{targets_one}
use Rattle.fort_certificate_theory.proofs.WrittenClosures.{passes_one}
use Rattle.fort_certificate_theory.proofs.WrittenMerges.{HasAllTargets, classes_one, targets_made}
use Rattle.fort_certificate_theory.proofs.MergedDues.{merged_as_due}
use Rattle.fort_certificate_theory.proofs.SameLabels.{part_moved}
use Rattle.fort_certificate_theory.proofs.RuleLaws.{table_same, counted_one, local_one, value_one}
use Rattle.fort_certificate_theory.proofs.CheckedLaws.{closure_rules_one, number_same, under_same, fine_one}

closure_written_one : (system : PatternSystem) (which : Which) (index : ℕ) (items others : List Item) → IsWrittenClosure system which index items → IsWrittenClosure system which index others → items ≡ others
closure_written_one system which index items others h k =
    let e = closure_rules_one system which index h.rules k.rules h.rules_are k.rules_are in
    passes_one k.rules items others (subst (λ (c : ClosureRules). IsListOfPasses c items) e h.passes) k.passes

-- a state has one count
count_one : (body : Table) (c q : ℕ) (a b : counts.Count) → IsCountOf body c q a → IsCountOf body c q b → a ≡ b
count_one body c q (Finite r) (Finite s) h k =
    let l = h.bound k.term k.gives in
    let m = k.bound h.term h.gives in
    let e : r ≡ s = omega (arith, k.reaches, h.reaches) in ap Finite e
count_one body c q (Finite r) (Infinite p) h k = absurd (not_many_from_heights body.signature (GivesAlone body c q) r (λ u g. g.0) h.bound k.many)
count_one body c q (Infinite p) (Finite r) h k = absurd (not_many_from_heights body.signature (GivesAlone body c q) r (λ u g. g.0) k.bound h.many)
count_one body c q (Infinite p) (Infinite o) h k = let e : p ≡ o = omega (arith, h.least o k.child, k.least p h.child) in ap Infinite e

closure_index : (v w : Which) (i j : ℕ) → OfClosure v i ≡ OfClosure w j → i ≡ j
closure_index v w i j h = cc

closure_which : (v w : Which) (i j : ℕ) → OfClosure v i ≡ OfClosure w j → v ≡ w
closure_which v w i j h = cc

part_number : (i j : ℕ) → OfPart i ≡ OfPart j → i ≡ j
part_number i j h = cc

merge_number : (i j : ℕ) → OfMerge i ≡ OfMerge j → i ≡ j
merge_number i j h = cc

counts_number : (i j : ℕ) → OfCounts i ≡ OfCounts j → i ≡ j
counts_number i j h = cc

value_number : (i j : ℕ) → OfValue i ≡ OfValue j → i ≡ j
value_number i j h = cc

merge_written_one : (made : MadeSoFar) (k : ℕ) (a b : List ℕ) → HasAllTargets made → IsWrittenMerge made k a → IsWrittenMerge made k b → a ≡ b
merge_written_one made k a b has h l =
    let same : h.table ≡ l.table = table_same h.table l.table (sym h.table_is ∙ l.table_is) in
    classes_one l.table (has k l.table l.table_is) a b (subst (λ (t : Table). IsCoarsest t a) same h.coarsest) l.coarsest

module _ (system : PatternSystem) (root : Core) (parts : List Core) (are : AreParts root parts) where
  part_written_one : (made : MadeSoFar) (k : ℕ) (qs ps : List ℕ) → IsWrittenPart system parts made k qs → IsWrittenPart system parts made k ps → qs ≡ ps
  part_written_one made k qs ps h l =
      let either = local_one root parts are made system k (get_or parts k core.True) h.local l.local h.local_is l.local_is in
      let there = part_moved h.local l.local either qs h.entries h.labels h.right in
      targets_one l.local.rule qs ps h.entries l.entries there.labels l.labels there.right l.right (there.once h.once) l.once

  counts_written_one : (made : MadeSoFar) (k : ℕ) (ms ns : List counts.Count) → IsWrittenCounts parts made k ms → IsWrittenCounts parts made k ns → ms ≡ ns
  counts_written_one made k ms ns h l =
      let same : core.Infinite h.number h.body ≡ core.Infinite l.number l.body = sym h.part ∙ l.part in
      let n : h.number ≡ l.number = number_same h.number l.number h.body l.body same in
      let f : h.body ≡ l.body = under_same h.number l.number h.body l.body same in
      let d : IsCounted parts made l.number l.body h.table h.states =
      subst (λ (i : ℕ). IsCounted parts made i l.body h.table h.states) n (subst (λ (g : Core). IsCounted parts made h.number g h.table h.states) f h.counted) in
      let one = counted_one root parts are made l.number l.body h.table l.table h.states l.states d l.counted in
      let states = ap (λ (xs : List ℕ). length xs) one.states in
      ext_get_or (Finite 0) ms ns (omega (arith, h.count, l.count, states))
      (λ i b.
      let c = place_in (columns_of l.body) l.number in
      let o : IsCountOf h.table c (get_or h.states i 0) (get_or ms i (Finite 0)) =
      subst (λ (j : ℕ). IsCountOf h.table (place_in (columns_of l.body) j) (get_or h.states i 0) (get_or ms i (Finite 0))) n
      (subst (λ (g : Core). IsCountOf h.table (place_in (columns_of g) h.number) (get_or h.states i 0) (get_or ms i (Finite 0))) f (h.are i b)) in
      let here : IsCountOf l.table c (get_or l.states i 0) (get_or ms i (Finite 0)) =
      subst (λ (xs : List ℕ). IsCountOf l.table c (get_or xs i 0) (get_or ms i (Finite 0))) one.states
      (subst (λ (t : Table). IsCountOf t c (get_or h.states i 0) (get_or ms i (Finite 0))) one.table o) in
      count_one l.table c (get_or l.states i 0) (get_or ms i (Finite 0)) (get_or ns i (Finite 0)) here (l.are i (omega (arith, h.count, l.count, states))))

  value_written_one : (made : MadeSoFar) (k : ℕ) (u v : Bool) (x y : MadeSoFar) → IsFine system parts made (Value k u) x → IsFine system parts made (Value k v) y → u ≡ v
  value_written_one made k u v x y (FineValue h) (FineValue l) = value_one root parts are made k (get_or parts k core.True) u v h l

  step_one : (made x y : MadeSoFar) (s t : Step) → HasAllTargets made → due_of s ≡ due_of t → IsWrittenStep system parts made s x → IsWrittenStep system parts made t y → s ≡ t
  step_one made x y (Closure v i es) (Closure w j fs) has e h k =
      let a = closure_which v w i j e in
      let b = closure_index v w i j e in
      let here : IsWrittenClosure system w j es = subst (λ (z : Which). IsWrittenClosure system z j es) a (subst (λ (n : ℕ). IsWrittenClosure system v n es) b h.written) in
      λ n. Closure (a n) (b n) (closure_written_one system w j es fs here k.written n)
  step_one made x y (Closure v i es) (Part j fs) has e h k = absurd cc
  step_one made x y (Closure v i es) (Merge j fs) has e h k = absurd cc
  step_one made x y (Closure v i es) (Counts j fs) has e h k = absurd cc
  step_one made x y (Closure v i es) (Value j fs) has e h k = absurd cc
  step_one made x y (Part i es) (Closure w j fs) has e h k = absurd cc
  step_one made x y (Part i es) (Part j fs) has e h k =
      let a = part_number i j e in
      let here : IsWrittenPart system parts made j es = subst (λ (n : ℕ). IsWrittenPart system parts made n es) a h.written in
      λ n. Part (a n) (part_written_one made j es fs here k.written n)
  step_one made x y (Part i es) (Merge j fs) has e h k = absurd cc
  step_one made x y (Part i es) (Counts j fs) has e h k = absurd cc
  step_one made x y (Part i es) (Value j fs) has e h k = absurd cc
  step_one made x y (Merge i es) (Closure w j fs) has e h k = absurd cc
  step_one made x y (Merge i es) (Part j fs) has e h k = absurd cc
  step_one made x y (Merge i es) (Merge j fs) has e h k =
      let a = merge_number i j e in
      let here : IsWrittenMerge made j es = subst (λ (n : ℕ). IsWrittenMerge made n es) a h.written in
      λ n. Merge (a n) (merge_written_one made j es fs has here k.written n)
  step_one made x y (Merge i es) (Counts j fs) has e h k = absurd cc
  step_one made x y (Merge i es) (Value j fs) has e h k = absurd cc
  step_one made x y (Counts i es) (Closure w j fs) has e h k = absurd cc
  step_one made x y (Counts i es) (Part j fs) has e h k = absurd cc
  step_one made x y (Counts i es) (Merge j fs) has e h k = absurd cc
  step_one made x y (Counts i es) (Counts j fs) has e h k =
      let a = counts_number i j e in
      let here : IsWrittenCounts parts made j es = subst (λ (n : ℕ). IsWrittenCounts parts made n es) a h.written in
      λ n. Counts (a n) (counts_written_one made j es fs here k.written n)
  step_one made x y (Counts i es) (Value j fs) has e h k = absurd cc
  step_one made x y (Value i es) (Closure w j fs) has e h k = absurd cc
  step_one made x y (Value i es) (Part j fs) has e h k = absurd cc
  step_one made x y (Value i es) (Merge j fs) has e h k = absurd cc
  step_one made x y (Value i es) (Counts j fs) has e h k = absurd cc
  step_one made x y (Value i u) (Value j v) has e h k =
      let a = value_number i j e in
      let here : IsFine system parts made (Value j u) x = subst (λ (n : ℕ). IsFine system parts made (Value n u) x) a h.fine in
      λ n. Value (a n) (value_written_one made j u v x y here k.fine n)

  steps_one : (made last end : MadeSoFar) (ds : List DueStep) (ss ts : List Step) → HasAllTargets made → AreSteps (IsWrittenStep system parts) made ds ss last → AreSteps (IsWrittenStep system parts) made ds ts end → ss ≡ ts
  steps_one made last end ds ss ts has NoSteps NoSteps = refl
  steps_one made last end ds ss ts has (MoreSteps {next = x} {s = s} {ds = es} {ss = us} e h more) (MoreSteps {next = y} {s = t} {ss = vs} f k others) =
      let same = step_one made x y s t has (e ∙ sym f) h k in
      let next : x ≡ y = fine_one system root parts are made t x y (subst (λ (z : Step). IsFine system parts made z x) same h.fine) k.fine in
      let rest = steps_one y last end es us vs (targets_made system parts made y t k.fine has) (subst (λ (m : MadeSoFar). AreSteps (IsWrittenStep system parts) m es us last) next more) others in
      λ n. same n ∷ rest n

  fine_steps : (made last : MadeSoFar) (ds : List DueStep) (ss : List Step) → AreSteps (IsWrittenStep system parts) made ds ss last → AreSteps (IsFine system parts) made ds ss last
  fine_steps made last ds ss NoSteps = NoSteps
  fine_steps made last ds ss (MoreSteps {next = x} {ds = es} {ss = us} e h more) = MoreSteps e h.fine (fine_steps x last es us more)

-- Result: it is in order
pub IsInOrder-written : (reduces : Bool) (system : PatternSystem) (f : Core) (c : Certificate) → IsWritten reduces system f c → IsInOrder system f c c.verdict
IsInOrder-written reduces system f c h =
    let n = length system.rules in
    let steps : AreSteps (IsFine system h.parts) nothing_made (dues (λ k. reduces) n h.parts) c.steps h.made =
    fine_steps system f h.parts h.parts_are nothing_made h.made (dues (λ k. reduces) n h.parts) c.steps h.steps in
    let due : dues_of c.steps n h.parts ≡ dues (λ k. reduces) n h.parts = merged_as_due (λ k. reduces) (IsFine system h.parts) nothing_made h.made n h.parts c.steps steps in
    record {
      parts = h.parts;
      parts_are = h.parts_are;
      checked = InOrder h.made (subst (λ (ds : List DueStep). AreSteps (IsFine system h.parts) nothing_made ds c.steps h.made) (sym due) steps) h.verdict;
    }

some_same : (u v : Bool) → Some u ≡ Some v → u ≡ v
some_same u v h = cc

-- whatever the number of its first form is
pub record AreOneCertificate (c d : Certificate) : Type 0 where
  pub verdict : c.verdict ≡ d.verdict
  pub steps : c.steps ≡ d.steps

-- Result: with reduced tables there is one, and one with tables as they are
pub IsWritten-one : (reduces : Bool) (system : PatternSystem) (f : Core) (c d : Certificate) → IsWritten reduces system f c → IsWritten reduces system f d → AreOneCertificate c d
IsWritten-one reduces system f c d h k =
    let same = AreEachOnce-unique (postorder f) h.parts k.parts h.parts_are k.parts_are in
    let here : AreSteps (IsWrittenStep system k.parts) nothing_made (dues (λ i. reduces) (length system.rules) k.parts) c.steps h.made =
    subst (λ (ps : List Core). AreSteps (IsWrittenStep system ps) nothing_made (dues (λ i. reduces) (length system.rules) ps) c.steps h.made) same h.steps in
    let steps = steps_one system f k.parts k.parts_are nothing_made h.made k.made (dues (λ i. reduces) (length system.rules) k.parts) c.steps d.steps (λ i table e. cc) here k.steps in
    record { steps = steps; verdict = some_same c.verdict d.verdict (sym h.verdict ∙ (ap last_value steps ∙ k.verdict)) }
