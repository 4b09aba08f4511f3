-- A certificate of an open formula in order proves its claim: the table that its steps make tells which terms satisfy it.
use Rattle.std.proofs.Common.{◌≡◌, ℕ, ◌-◌, ◌<◌, true, List, [], length, refl, ap, sym, ◌∙◌, arith, subst}
use Rattle.fort_theory.specs.Signatures.{Signature}
use Rattle.fort_theory.specs.Patterns.{PatternSystem, IsSystem}
use Rattle.fort_theory.specs.Cores.{Core}
use Rattle.fort_theory.specs.PartLists.{AreParts}
use Rattle.fort_theory.specs.PatternStructures.{pattern_structure}
use Rattle.fort_tables.specs.Tuples.{Tuple, IsTuple, IsFull}
use Rattle.fort_tables.specs.Entries.{Entry, tuples_of}
use Rattle.fort_tables.specs.Tables.{Table, full_presence, state_of}
use Rattle.fort_tables.proofs.EntryLaws.{length-tuples_after}
use Rattle.fort_tables.proofs.NodeLaws.{AreTuples-nodes}
use Rattle.fort_tables.proofs.PresenceLaws.{full_from_presence}
use Rattle.fort_tables.proofs.TableLaws.{table_state}
use Rattle.fort_tables.specs.OperationTruth.{accepts}
use Rattle.fort_alike.specs.AssignedTuples.{tuple_of}
use Rattle.fort_parts.specs.PartColumns.{columns_of}
use Rattle.fort_parts.specs.PartAnswers.{OfTable, IsTableOver, IsAnswerTo}
use Rattle.fort_parts.specs.DecidedCores.{IsDecided}
use Rattle.fort_parts.proofs.AssignedColumns.{AreTerms-tuple_of}
use Rattle.fort_parts.proofs.StepTables.{IsTuple-terms}
use Rattle.fort_parts.specs.ReducedParts.{IsSatisfiedBy}
use Rattle.fort_parts.proofs.SatisfiedTuples.{AcceptsExactly-answer}
use Rattle.fort_certificate_theory.specs.Dues.{is_merged_in}
use Rattle.fort_certificate_theory.specs.OpenCertificates.{Claim, Found, Empty, OpenCertificate}
use Rattle.fort_certificate_theory.specs.OpenChecked.{OpenOutcome, Confirmed, last_of, AcceptsLast, AcceptsSome, MakesTable, AreFormulaNodes, IsOpenChecked, FailingStep, NodeOfEmpty, FailingNode, FoundLast, NotFound, NoneThere, SomeThere, HasOpenOutcome}
use Rattle.fort_certificate_theory.specs.OpenTruth.{Proves}
use Rattle.fort_certificate_theory.proofs.RightSteps.{answer_right}

-- ---- the table

-- what the table says of the claim
abbrev pub BearsOut : PatternSystem → Core → Table → List Entry → Claim → Type 0
BearsOut system f table nodes Found = AreFormulaNodes system f nodes × AcceptsLast table nodes
BearsOut system f table nodes Empty = AcceptsSome table → ⊥

-- a table that tells the formula's truth, and bears out the claim
pub record IsBorneOut (system : PatternSystem) (f : Core) (c : OpenCertificate) (claim : Claim) : Type 0 where
  pub table : Table
  pub answers : IsAnswerTo (pattern_structure system) f (OfTable table)
  pub claim_is : c.claim ≡ claim
  pub bears : BearsOut system f table c.nodes claim

claim_same : (a b : Claim) → Confirmed a ≡ Confirmed b → a ≡ b
claim_same a b h = cc

module _ (system : PatternSystem) (is : IsSystem system) (f : Core) (decided : IsDecided system f) (c : OpenCertificate) where
  table_right : (parts : List Core) (table : Table) → AreParts f parts → MakesTable system f parts c table
      → IsAnswerTo (pattern_structure system) f (OfTable table)
  table_right parts table are h =
      answer_right system is f decided parts are (is_merged_in c.steps) h.made c.steps h.fine f (OfTable table) h.table_is

  borne_out : (parts : List Core) (claim : Claim) (o : OpenOutcome) → AreParts f parts → IsOpenChecked system f parts c o
      → o ≡ Confirmed claim → IsBorneOut system f c claim
  borne_out parts claim o are (FailingStep front place reason h) e = absurd cc
  borne_out parts claim o are (NodeOfEmpty table m i some) e = absurd cc
  borne_out parts claim o are (FailingNode table k node m i l at before none) e = absurd cc
  borne_out parts claim o are (FoundLast table m i nodes last) e =
      subst (IsBorneOut system f c) (claim_same Found claim e)
      (record { table = table; answers = table_right parts table are m; claim_is = i; bears = (nodes, last) })
  borne_out parts claim o are (NotFound table m i nodes none) e = absurd cc
  borne_out parts claim o are (NoneThere table m i empty none) e =
      subst (IsBorneOut system f c) (claim_same Empty claim e)
      (record { table = table; answers = table_right parts table are m; claim_is = i; bears = none })
  borne_out parts claim o are (SomeThere table m i empty some) e = absurd cc

  -- Result: of a certificate in order
  pub claim_borne_out : (claim : Claim) → HasOpenOutcome system f c (Confirmed claim) → IsBorneOut system f c claim
  claim_borne_out claim h = borne_out h.parts claim (Confirmed claim) h.parts_are h.checked refl

-- ---- which tuples it accepts

-- a tuple of the columns, as one of the table
tuple_there : (sig : Signature) (columns : List ℕ) (table : Table) (t : Tuple) → IsTableOver sig columns table
    → IsTuple sig (length columns) t → IsTuple table.signature table.columns t
tuple_there sig columns table t over h =
    subst (λ (s : Signature). IsTuple s table.columns t) (sym over.signature)
    (subst (λ (n : ℕ). IsTuple sig n t) (sym over.columns_are) h)

-- one that is accepted has a term in every column
accepted_full : (sig : Signature) (columns : List ℕ) (table : Table) (t : Tuple) → IsTableOver sig columns table
    → IsTuple table.signature table.columns t → accepts table t ≡ true → IsFull t
accepted_full sig columns table t over h accepted =
    let state = table_state table over.lawful t h in
    full_from_presence t
    (sym state.presence_is ∙ (over.lawful.full (state_of table t) state.within accepted ∙ ap full_presence (sym h.width)))

module _ (system : PatternSystem) (f : Core) (table : Table) (answers : IsAnswerTo (pattern_structure system) f (OfTable table)) where
  last_satisfies : (nodes : List Entry) → AreFormulaNodes system f nodes → AcceptsLast table nodes
      → IsSatisfiedBy system f (last_of nodes)
  last_satisfies nodes are last =
      let t = last_of nodes in
      let sig = system.signature in
      let columns = columns_of f in
      let k = length nodes - 1 in
      let within : k < length (tuples_of nodes) = omega (arith, last.some, length-tuples_after [] nodes) in
      let h = tuple_there sig columns table t answers.over (AreTuples-nodes sig (length columns) nodes are k within) in
      let full = accepted_full sig columns table t answers.over h last.accepted in
      (AcceptsExactly-answer system f table answers t h full).0 last.accepted

  none_satisfies : (AcceptsSome table → ⊥) → (t : Tuple) → IsSatisfiedBy system f t → ⊥
  none_satisfies none t s =
      let sig = system.signature in
      let columns = columns_of f in
      let u = tuple_of s.places columns in
      let h = tuple_there sig columns table u answers.over
      (IsTuple-terms sig (length columns) u answers.over.some (AreTerms-tuple_of sig s.places columns s.grounded)) in
      none (record {
        state = state_of table u;
        within = (table_state table answers.over.lawful u h).within;
        accepted = (answers.truth s.places s.grounded).1 s.holds;
      })

  claim_true : (c : OpenCertificate) (claim : Claim) → BearsOut system f table c.nodes claim → Proves system f c claim
  claim_true c Found h = last_satisfies c.nodes h.0 h.1
  claim_true c Empty h = none_satisfies h

-- Result: whoever wrote a certificate that is in order, its claim is true
pub proves : (system : PatternSystem) → IsSystem system → (f : Core) → IsDecided system f → (c : OpenCertificate)
    → (claim : Claim) → HasOpenOutcome system f c (Confirmed claim) → Proves system f c claim
proves system is f decided c claim h =
    let b = claim_borne_out system is f decided c claim h in
    claim_true system f b.table b.answers c claim b.bears
