-- Steps as they are written: closures by passes, tables with one state for each label, the coarsest classes of tables, counts of states, values.
use Rattle.std.proofs.Common.{◌≡◌, ℕ, List, Bool, get_or, subst}
use Rattle.fort_theory.specs.Patterns.{PatternSystem}
use Rattle.fort_theory.specs.Cores as core
use Rattle.fort_theory.specs.Cores.{Core}
use Rattle.fort_tables.specs.Entries.{Entry}
use Rattle.fort_tables.specs.Tables.{Table, Listed, listed_table}
use Rattle.fort_tables.specs.Merges.{merged, IsCoarsest}
use Rattle.fort_tables.specs.MergeOutcomes.{AreEntriesOf}
use Rattle.fort_tables.specs.Counts as counts
use Rattle.fort_tables.specs.Counts.{AreCounts}
use Rattle.fort_parts.specs.PartColumns.{columns_of, place_in}
use Rattle.fort_parts.specs.PartAnswers.{OfValue, OfTable}
use Rattle.fort_certificate_theory.specs.Certificates as certificates
use Rattle.fort_alike.specs.ListedClosures.{Which, Pair as Item}
use Rattle.fort_certificate_theory.specs.Certificates.{Step, Closure, Part, Merge, Counts}
use Rattle.fort_certificate_theory.specs.ClosureSteps.{ClosureRules, AreClosureRules}
use Rattle.fort_certificate_theory.specs.MergeSteps.{listed_merge}
use Rattle.fort_certificate_theory.specs.Made.{MadeSoFar, with_closure, with_counts, with_answer}
use Rattle.fort_certificate_theory.specs.PartRules.{Local, IsLocalOf, IsCounted, IsValueOf}
use Rattle.fort_certificate_theory.specs.Checked.{IsFine, FineClosure, FinePart, FineMerge, FineCounts, FineValue}
use Rattle.fort_certificate_theory.specs.Passes.{IsListOfPasses}
use Rattle.fort_certificate_theory.specs.Written.{IsWrittenStep}
use Rattle.fort_certificate_theory.proofs.CountOutcomes.{IsCountOutcome-rules}
use Rattle.fort_certificate_theory.proofs.WrittenClosures.{IsClosureOutcome-passes}
use Rattle.fort_certificate_theory.proofs.ListedParts.{HasRightTargets}

module _ (system : PatternSystem) (parts : List Core) (made : MadeSoFar) where
  pub written_closure : (which : Which) (index : ℕ) (items : List Item) (c : ClosureRules) → AreClosureRules system which index c → IsListOfPasses c items
      → IsWrittenStep system parts made (Closure which index items) (with_closure made which index items)
  written_closure which index items c are passes = record {
    fine = FineClosure (record { rules = c; rules_are = are; is = IsClosureOutcome-passes c items passes });
    written = record { rules = c; rules_are = are; passes = passes };
  }

  -- the table itself is what is made
  pub written_part : (k : ℕ) (local : Local) (t : Listed) → IsLocalOf system parts made k (get_or parts k core.True) local → HasRightTargets local.rule local.accepting t
      → IsWrittenStep system parts made (Part k t.targets) (with_answer made k (OfTable (listed_table t)))
  written_part k local t is h = record {
    fine = subst (λ (x : Listed). IsFine system parts made (Part k t.targets) (with_answer made k (OfTable (listed_table x)))) h.again (FinePart local t.entries h.labels is h.right);
    written = record { local = local; entries = t.entries; labels = h.labels; local_is = is; right = h.right; once = h.once };
  }

  pub written_merge : (k : ℕ) (table : Table) (classes : List ℕ) (entries : List Entry) → made.answers k ≡ OfTable table → IsCoarsest table classes → AreEntriesOf (merged table classes) entries
      → IsWrittenStep system parts made (Merge k classes) (with_answer made k (OfTable (listed_table (listed_merge table classes entries))))
  written_merge k table classes entries at coarsest are = record {
    fine = FineMerge table entries at coarsest.merge are;
    written = record { table = table; table_is = at; coarsest = coarsest };
  }

  pub written_counts : (k n : ℕ) (f : Core) (body : Table) (states : List ℕ) (marks : List counts.Count) → get_or parts k core.True ≡ core.Infinite n f → IsCounted parts made n f body states
      → AreCounts body (place_in (columns_of f) n) states marks → IsWrittenStep system parts made (Counts k marks) (with_counts made k marks)
  written_counts k n f body states marks part counted are =
      let c = place_in (columns_of f) n in
      record {
        fine = FineCounts (record { number = n; body = f; table = body; states = states; part = part; counted = counted; is = IsCountOutcome-rules body c states marks counted.pure are.count are.rules });
        written = record { number = n; body = f; table = body; states = states; part = part; counted = counted; count = are.count; are = are.are };
      }

  pub written_value : (k : ℕ) (value : Bool) → IsValueOf parts made k (get_or parts k core.True) value → IsWrittenStep system parts made (certificates.Value k value) (with_answer made k (OfValue value))
  written_value k value h = record { fine = FineValue h; written = tt }
