-- The terms that a table accepts are those that satisfy the formula to whose core formula it is the answer: the least of them, or none.
use Rattle.std.specs.Prelude.{◌≡◌, ◌<◌, List, [], ◌∷◌, map, length, All, true, Some, refl}
use Rattle.std.proofs.Common.{sym, subst, ◌∙◌, ap, arith}
use Rattle.std.proofs.lemmas.List.{length-map}
use Rattle.std.proofs.lemmas.List.Elements.{All-nil, All-cons}
use Rattle.std.proofs.lemmas.List.FromFn.{length-range_with_len}
use Rattle.fort_theory.specs.Trees.{Tree}
use Rattle.fort_theory.specs.Signatures.{Signature, IsGround}
use Rattle.fort_theory.specs.Sides.{System}
use Rattle.fort_theory.specs.Patterns.{PatternSystem, pattern_system}
use Rattle.fort_logic.specs.Formulas.{Formula}
use Rattle.fort_logic.specs.FreeNames.{free_names}
use Rattle.fort_logic.specs.Translation.{core_of}
use Rattle.fort_logic.specs.Truth.{IsFalseOf}
use Rattle.fort_tables.specs.Tuples.{IsTuple, AreGroundColumns}
use Rattle.fort_tables.specs.Tables.{Table}
use Rattle.fort_tables.specs.OperationTruth.{accepts}
use Rattle.fort_tables.specs.LeastTuple.{Accepted, IsLeastAccepted, AcceptsNone}
use Rattle.fort_tables.proofs.LeastLaws.{least_not_after}
use Rattle.fort_parts.specs.PartColumns.{columns_of}
use Rattle.fort_parts.specs.PartAnswers.{OfTable}
use Rattle.fort_answers.specs.Witnesses.{free_trees, AreWitnesses, AreLeastWitnesses}
use Rattle.fort_answer_laws.proofs.TermTuples.{full-terms, IsTuple-terms, witnesses-count, witnesses-ground}
use Rattle.fort_run.specs.Ready.{IsLawful, IsAnsweredBy}
use Rattle.fort_answer_laws.proofs.NamedColumns.{columns_of-core_of}
use Rattle.fort_run.proofs.WitnessTruth.{said-witnesses, witnesses-said}

-- a column for each free name
pub columns-names : (terms : List Tree) (f : Formula) → length (columns_of (core_of terms f)) ≡ length (free_names f)
columns-names terms f = ap length (columns_of-core_of terms f) ∙ length-range_with_len 0 (length (free_names f))

pub table-columns : (f : Formula) (system : PatternSystem) (terms : List Tree) (table : Table) → IsAnsweredBy f system terms (OfTable table)
    → table.columns ≡ length (free_names f)
table-columns f system terms table answered = answered.answers.over.columns_are ∙ columns-names terms f

pub ground-columns : (sig : Signature) (ts : List Tree) → AreGroundColumns sig (map Some ts) → All (IsGround sig) ts
ground-columns sig [] g = All-nil (IsGround sig)
ground-columns sig (t ∷ ts) g = All-cons (IsGround sig) t ts g.0 (ground-columns sig ts g.1)

module _ (p : System) (lawful : IsLawful p) (f : Formula) (terms : List Tree) (table : Table)
    (answered : IsAnsweredBy f (pattern_system p) terms (OfTable table)) where
  -- terms that satisfy the formula are accepted
  pub accepted : (ts : List Tree) → AreWitnesses p terms f ts → accepts table (map Some ts) ≡ true
  accepted ts are = said-witnesses p lawful f terms (OfTable table) answered ts are

  pub tuple : (ts : List Tree) → AreWitnesses p terms f ts → IsTuple table.signature table.columns (map Some ts)
  tuple ts are =
      let columns = table-columns f (pattern_system p) terms table answered in
      let some : 0 < length (free_names f) = omega (arith, answered.answers.over.some, columns-names terms f) in
      subst (λ (s : Signature). IsTuple s table.columns (map Some ts)) (sym answered.answers.over.signature)
      (subst (λ n. IsTuple p.signature n (map Some ts)) (sym columns)
      (IsTuple-terms p.signature (length (free_names f)) ts some (witnesses-count p terms f ts are) (witnesses-ground p terms f ts are)))

  -- Result: and terms that are accepted satisfy it
  pub accepted-satisfy : (ts : List Tree) → IsTuple table.signature table.columns (map Some ts) → accepts table (map Some ts) ≡ true
      → AreWitnesses p terms f ts
  accepted-satisfy ts is holds =
      let columns = table-columns f (pattern_system p) terms table answered in
      witnesses-said p lawful f terms (OfTable table) answered ts (sym (length-map ts Some) ∙ (is.width ∙ columns))
      (subst (λ (s : Signature). All (IsGround s) ts) answered.answers.over.signature (ground-columns table.signature ts is.grounded)) holds

  -- Result
  pub least-satisfy : (ts : List Tree) → IsLeastAccepted table (map Some ts) → AreLeastWitnesses p terms f ts
  least-satisfy ts is = record {
    are = accepted-satisfy ts is.tuple is.holds;
    least =
        λ us their.
        least_not_after table.signature table.columns (Accepted table) (map Some ts) (map Some us) is (tuple us their) (full-terms us)
        (accepted us their);
  }

  -- Result
  pub none-satisfy : AcceptsNone table → IsFalseOf p terms f
  none-satisfy none m ground given h =
      let ts = free_trees f m in
      let are : AreWitnesses p terms f ts = record { assignment = m; grounded = ground; given = given; holds = h; are = refl } in
      none (map Some ts) (tuple ts are) (full-terms ts) (accepted ts are)
