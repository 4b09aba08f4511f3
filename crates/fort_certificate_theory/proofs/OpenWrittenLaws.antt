-- A certificate of an open formula that is written is in order, where the table that its steps make is one over the formula's columns.
use Rattle.std.proofs.Common.{◌≡◌, ℕ, Bool, true, List, length, get_or, refl, ap, sym, ◌∙◌, subst}
use Rattle.fort_theory.specs.Signatures.{Signature}
use Rattle.fort_theory.specs.Patterns.{PatternSystem}
use Rattle.fort_theory.specs.Cores.{Core}
use Rattle.fort_tables.specs.Tuples.{Tuple}
use Rattle.fort_tables.specs.Entries.{Entry, AreNodes}
use Rattle.fort_tables.specs.Tables.{Table, full_presence}
use Rattle.fort_tables.proofs.PresenceLaws.{full_from_presence}
use Rattle.fort_tables.proofs.TableLaws.{table_state}
use Rattle.fort_tables.specs.OperationTruth.{accepts}
use Rattle.fort_tables.specs.LeastTuple.{AcceptsNone}
use Rattle.fort_tables.specs.TupleNodes.{AreNodesOf}
use Rattle.fort_parts.specs.PartColumns.{columns_of}
use Rattle.fort_parts.specs.PartAnswers.{IsTableOver}
use Rattle.fort_certificate_theory.specs.Dues.{DueStep, dues, dues_of}
use Rattle.fort_certificate_theory.specs.Made.{nothing_made}
use Rattle.fort_certificate_theory.specs.Checked.{IsFine, AreSteps}
use Rattle.fort_certificate_theory.proofs.MergedDues.{merged_as_due}
use Rattle.fort_certificate_theory.specs.OpenCertificates.{Claim, OpenCertificate}
use Rattle.fort_certificate_theory.specs.OpenChecked.{Confirmed, AcceptsLast, AcceptsSome, MakesTable, AreFormulaNodes, IsOpenChecked, FoundLast, NoneThere, HasOpenOutcome}
use Rattle.fort_certificate_theory.specs.OpenWritten.{AreWrittenFor, IsWrittenClaim, LeastFound, NoneFound, IsOpenWritten}
use Rattle.fort_certificate_theory.proofs.OpenWrittenSteps.{fine_steps}
use Rattle.fort_certificate_theory.proofs.LastNodes.{last_node}

-- the steps are fine, and make the table
makes_table : (reduces : Bool) (system : PatternSystem) (f : Core) (c : OpenCertificate) (table : Table) (h : AreWrittenFor reduces system f c.steps table)
    → MakesTable system f h.parts c table
makes_table reduces system f c table h =
    let n = length system.rules in
    let steps : AreSteps (IsFine system h.parts) nothing_made (dues (λ k. reduces) n h.parts) c.steps h.made =
    fine_steps system f h.parts h.parts_are nothing_made h.made (dues (λ k. reduces) n h.parts) c.steps h.written in
    let due : dues_of c.steps n h.parts ≡ dues (λ k. reduces) n h.parts =
    merged_as_due (λ k. reduces) (IsFine system h.parts) nothing_made h.made n h.parts c.steps steps in
    record {
      made = h.made;
      fine = subst (λ (ds : List DueStep). AreSteps (IsFine system h.parts) nothing_made ds c.steps h.made) (sym due) steps;
      table_is = h.table_is;
    }

-- the nodes of a tuple that is accepted
accepts_last : (table : Table) (t : Tuple) (nodes : List Entry) → accepts table t ≡ true → AreNodesOf table.signature table.columns t nodes
    → AcceptsLast table nodes
accepts_last table t nodes accepted are =
    let last = last_node table.signature table.columns t nodes are in
    record { some = last.some; accepted = ap (accepts table) last.last ∙ accepted }

-- a state of a table over columns that is accepting has a tuple of terms that is accepted
some_accepted : (sig : Signature) (columns : List ℕ) (table : Table) → IsTableOver sig columns table → AcceptsNone table → AcceptsSome table → ⊥
some_accepted sig columns table over none some =
    let u = over.reached some.state some.within in
    let has = (table_state table over.lawful u.0 u.1).presence_is in
    let presence = sym has ∙ (ap (λ q. get_or table.presences q 0) u.2 ∙ over.lawful.full some.state some.within some.accepted) in
    let full = full_from_presence u.0 (presence ∙ ap full_presence (sym u.1.width)) in
    none u.0 u.1 full (ap table.accepting u.2 ∙ some.accepted)

claimed : (system : PatternSystem) (f : Core) (parts : List Core) (c : OpenCertificate) (table : Table) (claim : Claim) → MakesTable system f parts c table
    → IsTableOver system.signature (columns_of f) table → c.claim ≡ claim → IsWrittenClaim table c.nodes claim
    → IsOpenChecked system f parts c (Confirmed claim)
claimed system f parts c table claim makes over e (LeastFound t least are) =
    let nodes : AreFormulaNodes system f c.nodes =
    subst (λ (sig : Signature). AreNodes sig (length (columns_of f)) c.nodes) over.signature
    (subst (λ (n : ℕ). AreNodes table.signature n c.nodes) over.columns_are are.are) in
    FoundLast table makes e nodes (accepts_last table t c.nodes least.holds are)
claimed system f parts c table claim makes over e (NoneFound none is) =
    NoneThere table makes e is (some_accepted system.signature (columns_of f) table over none)

-- Result: it is in order with its claim
pub HasOpenOutcome-written : (reduces : Bool) (system : PatternSystem) (f : Core) (c : OpenCertificate) (h : IsOpenWritten reduces system f c)
    → IsTableOver system.signature (columns_of f) h.table → HasOpenOutcome system f c (Confirmed c.claim)
HasOpenOutcome-written reduces system f c h over = record {
  parts = h.steps_are.parts;
  parts_are = h.steps_are.parts_are;
  checked = claimed system f h.steps_are.parts c h.table c.claim (makes_table reduces system f c h.table h.steps_are) over refl h.claim_is;
}
