-- What certificates of open formulas tell: the written one the least terms or that there are none, one that is confirmed terms or none.
use Rattle.std.proofs.Common.{◌≡◌, ℕ, ◌≤◌, List, [], ◌∷◌, map, length, refl, ap, sym, ◌∙◌, subst, arith}
use Rattle.std.specs.Prelude.{All, Some}
use Rattle.std.proofs.lemmas.List.{length-map}
use Rattle.std.proofs.lemmas.List.Elements.{All-nil, All-cons}
use Rattle.fort_theory.specs.Trees.{Tree}
use Rattle.fort_theory.specs.Signatures.{Signature, IsGround, most_columns}
use Rattle.fort_theory.specs.Sides.{System}
use Rattle.fort_theory.specs.Patterns.{PatternSystem, pattern_system, IsSystem}
use Rattle.fort_logic.specs.Formulas.{Formula}
use Rattle.fort_logic.specs.FreeNames.{free_names}
use Rattle.fort_logic.specs.Truth.{IsFalseOf}
use Rattle.fort_theory.specs.Cores.{Core}
use Rattle.fort_theory.specs.CoreTruth.{Places}
use Rattle.fort_tables.specs.Entries.{Entry, AreNodes}
use Rattle.fort_tables.specs.Tables.{Table, IsTable, state_of}
use Rattle.fort_tables.proofs.TableLaws.{table_state}
use Rattle.fort_tables.specs.OperationTruth.{accepts}
use Rattle.fort_parts.specs.ReducedParts.{IsSatisfiedBy}
use Rattle.fort_alike.specs.AssignedTuples.{tuple_of}
use Rattle.fort_tables.specs.LeastTuple.{IsLeastAccepted, AcceptsNone}
use Rattle.fort_parts.specs.PartColumns.{columns_of}
use Rattle.fort_parts.specs.PartAnswers.{OfTable, AreGround}
use Rattle.fort_certificate_theory.specs.OpenCertificates.{Claim, Found, Empty, OpenCertificate}
use Rattle.fort_certificate_theory.specs.OpenChecked.{Confirmed, last_of, AcceptsSome, HasOpenOutcome}
use Rattle.fort_certificate_theory.specs.OpenWritten.{IsWrittenClaim, LeastFound, NoneFound}
use Rattle.fort_certificate_theory.proofs.LastNodes.{last_node}
use Rattle.fort_certificate_theory.proofs.OpenTruthLaws.{IsBorneOut, claim_borne_out, proves}
use Rattle.fort_answers.specs.Witnesses.{AreWitnesses}
use Rattle.fort_answers.specs.FormulaAnswer.{Open}
use Rattle.fort_answer_laws.proofs.TermTuples.{terms_in, terms-one}
use Rattle.fort_run.specs.Confirmed.{TellsLeast}
use Rattle.fort_run.specs.Posed.{IsPosed}
use Rattle.fort_run.specs.Ready.{IsLawful, IsAnsweredBy}
use Rattle.fort_run.specs.Witnesses.{AreLastTerms}
use Rattle.fort_run.proofs.PosedQuestions.{answered_by}
use Rattle.fort_run.proofs.TableWitnesses.{columns-names, least-satisfy, none-satisfy}
use Rattle.fort_run.proofs.WitnessTruth.{witnesses-said}

-- ---- the written one

module _ (p : System) (lawful : IsLawful p) (f : Formula) (terms : List Tree) (table : Table)
    (answered : IsAnsweredBy f (pattern_system p) terms (OfTable table)) where
  -- Result
  pub written_tells : (nodes : List Entry) (claim : Claim) → IsWrittenClaim table nodes claim → TellsLeast p terms f claim nodes
  written_tells nodes Found (LeastFound t least are) =
      let one = terms_in table.signature t least.full least.tuple.grounded in (
        one.0,
        least-satisfy p lawful f terms table answered one.0 (subst (IsLeastAccepted table) one.2 least),
        (last_node table.signature table.columns t nodes are).last ∙ one.2,
      )
  written_tells nodes Empty (NoneFound none empty) = none-satisfy p lawful f terms table answered none

-- ---- one that is confirmed

tuple_terms : (v : Places) (ns : List ℕ) → tuple_of v ns ≡ map Some (map v ns)
tuple_terms v [] = refl
tuple_terms v (n ∷ ns) = ap (λ us. Some (v n) ∷ us) (tuple_terms v ns)

ground_terms : (sig : Signature) (v : Places) (ns : List ℕ) → AreGround sig v → All (IsGround sig) (map v ns)
ground_terms sig v [] ground = All-nil (IsGround sig)
ground_terms sig v (n ∷ ns) ground = All-cons (IsGround sig) (v n) (map v ns) (ground n) (ground_terms sig v ns ground)

none_accepted : (table : Table) → IsTable table → (AcceptsSome table → ⊥) → AcceptsNone table
none_accepted table lawful none t is full accepted =
    none (record { state = state_of table t; within = (table_state table lawful t is).within; accepted = accepted })

module _ (f : Formula) (system : PatternSystem) (terms : List Tree) (k : Core) (posed : IsPosed Open f system terms k) (is : IsSystem system)
    (c : OpenCertificate) where
  module _ (has : HasOpenOutcome system k c (Confirmed Found)) where
    borne : IsBorneOut system k c Found
    borne = claim_borne_out system is k posed.decided c Found has

    satisfied : IsSatisfiedBy system k (last_of c.nodes)
    satisfied = proves system is k posed.decided c Found has

    own_terms : List Tree
    own_terms = map satisfied.places (columns_of k)

    own_last : last_of c.nodes ≡ map Some own_terms
    unfolding own_terms
    own_last = sym satisfied.are ∙ tuple_terms satisfied.places (columns_of k)

    -- Result: the nodes are those of a formula that is narrow
    pub nodes_fit : AreNodes system.signature (length (columns_of k)) c.nodes × (length (columns_of k) ≤ most_columns)
    nodes_fit = (borne.bears.0, omega (arith, borne.answers.over.lawful.narrow, borne.answers.over.columns_are))

    -- Result: the last node has terms
    pub last_terms : (ts : List Tree) × AreLastTerms system.signature (free_names f) c.nodes ts
    unfolding own_terms
    last_terms =
        let columns : length (columns_of k) ≡ length (free_names f) = ap (λ g. length (columns_of g)) posed.is ∙ columns-names terms f in (
          own_terms,
          record {
            are = subst (λ n. AreNodes system.signature n c.nodes) columns borne.bears.0;
            within = omega (arith, borne.bears.1.some);
            terms = own_last;
            count = length-map (columns_of k) satisfied.places ∙ columns;
          },
        )

    -- Result: which satisfy the formula
    pub terms_satisfy : (p : System) → IsLawful p → system ≡ pattern_system p → (ts : List Tree) → AreLastTerms p.signature (free_names f) c.nodes ts
        → AreWitnesses p terms f ts
    unfolding own_terms
    terms_satisfy p lawful same ts are =
        let table = borne.table in
        let answered = answered_by Open f system terms k (OfTable table) posed borne.answers in
        let there = subst (λ s. IsAnsweredBy f s terms (OfTable table)) same answered in
        let one : own_terms ≡ ts = terms-one own_terms ts (sym own_last ∙ are.terms) in
        let ground = subst (λ (s : PatternSystem). All (IsGround s.signature) own_terms) same
        (ground_terms system.signature satisfied.places (columns_of k) satisfied.grounded) in
        witnesses-said p lawful f terms (OfTable table) there ts are.count (subst (All (IsGround p.signature)) one ground)
        (ap (accepts table) (sym are.terms) ∙ borne.bears.1.accepted)

  -- Result
  pub none_satisfy : HasOpenOutcome system k c (Confirmed Empty) → (p : System) → IsLawful p → system ≡ pattern_system p → IsFalseOf p terms f
  none_satisfy has p lawful same =
      let b = claim_borne_out system is k posed.decided c Empty has in
      let answered = answered_by Open f system terms k (OfTable b.table) posed b.answers in
      none-satisfy p lawful f terms b.table (subst (λ s. IsAnsweredBy f s terms (OfTable b.table)) same answered)
      (none_accepted b.table b.answers.over.lawful b.bears)
