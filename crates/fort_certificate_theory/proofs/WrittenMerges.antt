-- What is made has each target among its states, and so the coarsest classes of a made table are one list.
use Rattle.std.proofs.Common.{◌≡◌, ℕ, ◌<◌, List, map, set, length, get_or, Bool, true, false, ◌==◌, if◌then◌else◌, ap, sym, ◌∙◌, arith, subst}
use Rattle.std.specs.Prelude.{Contains}
use Rattle.std.proofs.lemmas.List.{length-map, get_or-map, map-set}
use Rattle.fort_theory.specs.Patterns.{PatternSystem}
use Rattle.fort_theory.specs.Cores.{Core}
use Rattle.fort_tables.specs.Tuples.{TupleSymbol}
use Rattle.fort_tables.specs.Entries.{Entry, entry}
use Rattle.fort_tables.specs.Tables.{Table, IsTableEntry, listed_table, target_in}
use Rattle.fort_tables.specs.Labels.{first_word}
use Rattle.fort_tables.specs.LabelRules.{LabelRule}
use Rattle.fort_tables.proofs.TupleLaws.{length-tabulate, get_or-tabulate}
use Rattle.fort_tables.proofs.EntryLaws.{target_found}
use Rattle.fort_tables.specs.Separation.{entry_with, IsCongruence}
use Rattle.fort_tables.specs.Merges.{class_of, first_of, count_of, leader, led, lifted, IsMerge, merged, IsCoarsest}
use Rattle.fort_tables.specs.MergeOutcomes.{AreEntriesOf}
use Rattle.fort_tables.proofs.SeparationLaws.{by_equal, unseparated_from_joined}
use Rattle.fort_tables.proofs.NumberedClasses.{first_within, class_within}
use Rattle.fort_tables.proofs.CoarsestLaws.{AreTogether, numbered_one}
use Rattle.fort_parts.specs.PartAnswers.{Answer, OfValue, OfTable}
use Rattle.fort_certificate_theory.specs.Certificates.{Step}
use Rattle.fort_certificate_theory.specs.PartSteps.{IsRightPart, part_table}
use Rattle.fort_certificate_theory.specs.MergeSteps.{listed_merge}
use Rattle.fort_certificate_theory.specs.Made.{MadeSoFar, with_answer}
use Rattle.fort_certificate_theory.specs.Checked.{IsFine, FineClosure, FinePart, FineMerge, FineCounts, FineValue}
use Rattle.fort_certificate_theory.proofs.StageLaws.{target_states}
use Rattle.fort_certificate_theory.proofs.RuleLaws.{table_same}

-- each entry's target is a state
abbrev pub HasTargets : Table → Type 0
HasTargets table = (e : Entry) → IsTableEntry table e → table.target e < length table.presences

-- ---- coarsest classes of such a table, which over a system that isn't lawful need not be lawful itself

module _ (table : Table) (within : HasTargets table) where
  led_alike : (classes : List ℕ) (f : TupleSymbol) (ks : List ℕ) (j p q : ℕ) → class_of classes p ≡ class_of classes q → led classes (entry_with f ks j p) ≡ led classes (entry_with f ks j q)
  led_alike classes f ks j p q e =
      ap (entry f) (map-set (leader classes) ks j p ∙ (ap (λ r. set (map (leader classes) ks) j r) (ap (first_of classes) e) ∙ sym (map-set (leader classes) ks j q)))

  classes_congruence : (classes : List ℕ) → IsMerge table classes
      → IsCongruence table (λ p q. (p < length classes) × (q < length classes) × (class_of classes p ≡ class_of classes q))
  classes_congruence classes m = record {
    columns = λ p q h. m.columns p h.0 ∙ (ap (λ c. get_or table.presences (first_of classes c) 0) h.2 ∙ sym (m.columns q h.1));
    acceptance = λ p q h. m.acceptance p h.0 ∙ (ap (λ c. table.accepting (first_of classes c)) h.2 ∙ sym (m.acceptance q h.1));
    entries = λ f ks j p q stand h. (
      omega (arith, m.count, within (entry_with f ks j p) stand.one),
      omega (arith, m.count, within (entry_with f ks j q) stand.other),
      m.whole (entry_with f ks j p) stand.one
          ∙ (ap (λ (e : Entry). class_of classes (table.target e)) (led_alike classes f ks j p q h.2) ∙ sym (m.whole (entry_with f ks j q) stand.other)),
    );
  }

  together : (a b : List ℕ) → IsCoarsest table a → IsCoarsest table b → AreTogether a b
  together a b ma mb p q l k e =
      let lb : p < length b = omega (arith, ma.merge.count, mb.merge.count) in
      let kb : q < length b = omega (arith, ma.merge.count, mb.merge.count) in
      by_equal (class_of b p ≡ class_of b q) (class_of b p) (class_of b q) (λ x. x)
      (λ n. absurd (unseparated_from_joined table (λ x y. (x < length a) × (y < length a) × (class_of a x ≡ class_of a y)) (classes_congruence a ma.merge) (mb.apart p q lb kb n) (l, k, e)))

  pub classes_one : (a b : List ℕ) → IsCoarsest table a → IsCoarsest table b → a ≡ b
  classes_one a b ma mb = numbered_one a b ma.merge.numbered mb.merge.numbered (ma.merge.count ∙ sym mb.merge.count) (together a b ma mb) (together b a mb ma)

-- ---- made tables have their targets

part_targets : (r : LabelRule) (accepting : List ℕ → Bool) (qs : List ℕ) (entries : List Entry) (ws : List (List ℕ)) → IsRightPart r qs entries ws
    → HasTargets (listed_table (part_table r accepting entries qs ws))
part_targets r accepting qs entries ws h e is =
    let c = h.all e is in
    let f = target_found entries qs e c.0 c.1 c.2 (omega (arith, h.right.count)) in
    let l : f.place < length qs = omega (arith, f.within, h.right.count) in
    omega (arith, f.target, target_states qs f.place (length qs) l l, h.right.states, length-map ws first_word)

-- targets that are a function of their entries
pub mapped_target : (target : Entry → ℕ) (es : List Entry) (e : Entry) → Contains es e → target_in es (map target es) e ≡ target e
mapped_target target es e c =
    let f = target_found es (map target es) e c.0 c.1 c.2 (omega (arith, length-map es target)) in
    f.target ∙ (get_or-map target es f.place e 0 f.within ∙ ap target f.is)

module _ (table : Table) (classes : List ℕ) (m : IsMerge table classes) where
  count_same : length (merged table classes).presences ≡ count_of classes
  count_same = length-tabulate (count_of classes) (λ k. get_or table.presences (first_of classes k) 0)

  entry_lifted : (e : Entry) → IsTableEntry (merged table classes) e → IsTableEntry table (lifted classes e)
  entry_lifted e h =
      let count : length (lifted classes e).kids ≡ length e.kids = length-map e.kids (first_of classes) in
      record {
        symbol = h.symbol;
        count = count ∙ h.count;
        within = λ j l.
            let k : j < length e.kids = omega (arith, count) in
            let c : get_or e.kids j 0 < count_of classes = omega (arith, count_same, h.within j k) in
            omega (arith, get_or-map (first_of classes) e.kids j 0 0 k, m.count, first_within classes (get_or e.kids j 0) m.numbered c);
        presence = λ j l.
            let k : j < length e.kids = omega (arith, count) in
            let c : get_or e.kids j 0 < count_of classes = omega (arith, count_same, h.within j k) in
            ap (λ q. get_or table.presences q 0) (get_or-map (first_of classes) e.kids j 0 0 k)
            ∙ (sym (get_or-tabulate (count_of classes) (λ i. get_or table.presences (first_of classes i) 0) (get_or e.kids j 0) 0 c) ∙ h.presence j k);
      }

  merge_targets : (es : List Entry) → HasTargets table → AreEntriesOf (merged table classes) es → HasTargets (listed_table (listed_merge table classes es))
  merge_targets es within are e is =
      let q = table.target (lifted classes e) in
      let l : q < length classes = omega (arith, m.count, within (lifted classes e) (entry_lifted e is)) in
      omega (arith, mapped_target (merged table classes).target es e (are.all e is), class_within classes q l, count_same)

-- so those of each answer that is made
abbrev pub HasAllTargets : MadeSoFar → Type 0
HasAllTargets made = (k : ℕ) (table : Table) → made.answers k ≡ OfTable table → HasTargets table

answered : (made : MadeSoFar) (k : ℕ) (answer : Answer) → HasAllTargets made → ((table : Table) → answer ≡ OfTable table → HasTargets table) → HasAllTargets (with_answer made k answer)
answered made k answer has own j table = by (j == k)
  where
    by : (b : Bool) → (if b then answer else made.answers j) ≡ OfTable table → HasTargets table
    by true e = own table e
    by false e = has j table e

tables_targets : (made : MadeSoFar) (k : ℕ) (new : Table) → HasAllTargets made → HasTargets new → HasAllTargets (with_answer made k (OfTable new))
tables_targets made k new has own = answered made k (OfTable new) has (λ table e. subst HasTargets (table_same new table e) own)

-- Result
pub targets_made : (system : PatternSystem) (parts : List Core) (made next : MadeSoFar) (s : Step) → IsFine system parts made s next → HasAllTargets made → HasAllTargets next
targets_made system parts made next s (FineClosure h) has = has
targets_made system parts made next s (FinePart {k = k} {targets = qs} local es ws is h) has =
    tables_targets made k (listed_table (part_table local.rule local.accepting es qs ws)) has (part_targets local.rule local.accepting qs es ws h)
targets_made system parts made next s (FineMerge {k = k} {classes = classes} table es at m h) has =
    tables_targets made k (listed_table (listed_merge table classes es)) has (merge_targets table classes m es (has k table at) h)
targets_made system parts made next s (FineCounts h) has = has
targets_made system parts made next s (FineValue {k = k} {value = v} h) has = answered made k (OfValue v) has (λ table e. cc)
