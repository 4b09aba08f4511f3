-- What comes of a certificate of an open formula, by its steps, its nodes and the table of the formula.
use Rattle.std.specs.Prelude.{◌≡◌, ℕ, ◌+◌, ◌^◌, ◌<◌, List, [], ◌∷◌, map, length, true, false, refl}
use Rattle.std.proofs.Common.{sym, ap, ◌∙◌, subst, arith, true≢false}
use Rattle.std.proofs.lemmas.List.{length-map}
use Rattle.fort_theory.specs.Patterns.{PatternSystem}
use Rattle.fort_theory.specs.Signatures.{Signature}
use Rattle.fort_theory.specs.Cores.{Core}
use Rattle.fort_tables.specs.Entries.{Entry, IsEntry, AreNodes, node_presences}
use Rattle.fort_tables.specs.Tables.{Table}
use Rattle.fort_tables.specs.Projections.{some_below}
use Rattle.fort_tables.proofs.SearchLaws.{found_below, below_found}
use Rattle.fort_parts.specs.PartColumns.{columns_of}
use Rattle.fort_parts.specs.PartAnswers.{IsTableOver}
use Rattle.fort_certificate_theory.specs.Outcomes.{Due, Verdict}
use Rattle.fort_certificate_theory.specs.Made.{MadeSoFar}
use Rattle.fort_steps.specs.StepView.{as_step}
use Rattle.fort_certificate_theory.specs.OpenCertificates as definitions
use Rattle.fort_certificate_theory.specs.OpenCertificates.{Claim, OpenCertificate}
use Rattle.fort_certificate_theory.specs.OpenChecked as outcomes
use Rattle.fort_certificate_theory.specs.OpenChecked.{OpenOutcome, Confirmed, AcceptsSome, MakesTable, IsOpenChecked, FailingStep, NodeOfEmpty, FailingNode, FoundLast, NotFound, NoneThere, SomeThere, HasOpenOutcome, node_form}
use Rattle.fort_target_lists.specs.LayRooms.{HasLayRoom}
use Rattle.fort_target_lists.specs.TargetLists.{HasListRoom}
use Rattle.fort_target_lists.specs.declared.states.LayRoom.{LayRoom}
use Rattle.fort_target_lists.specs.declared.target_list.TargetList.{TargetList}
use Rattle.fort_steps.specs.OpenView.{as_node, as_open}
use Rattle.fort_steps.specs.declared.open_certificate.OpenCertificate as program
use Rattle.fort_cert_checker.specs.OutcomeView.{as_reason}
use Rattle.fort_cert_checker.specs.StepCheckers.{IsStepCheckerOf, IsStepCheckDone, HasFailure, IsWholeTable, FitsWhole}
use Rattle.fort_cert_checker.specs.declared.rejected.Rejected.{Rejected}
use Rattle.fort_cert_checker.specs.declared.step_checker.StepChecker.{StepChecker}
use Rattle.fort_cert_checker.proofs.WholeLaws.{whole_of, whole_table}
use Rattle.fort_open_checker.specs.NodeStates.{HasNodeRoom, AreNodesJudged, Failing, Accepted, Refused}
use Rattle.fort_open_checker.specs.OpenCheckers.{IsOpenCheckerOf, IsOpenCheckDone}
use Rattle.fort_open_checker.specs.declared.checker.OpenChecker.{OpenChecker}

-- a step that fails is the certificate's
pub failing_step : (system : PatternSystem) (f : Core) (c : OpenCertificate) (r : Rejected) → HasFailure system f c.first c.steps r → HasOpenOutcome system f c (outcomes.Rejected r.form r.place (as_reason r.reason))
failing_step system f c r h =
    let front = h.failure.front in
    let form : r.form ≡ c.first + 1 + length front = h.form_is ∙ ap (λ n. c.first + 1 + n) (sym h.failure.count) in
    subst (λ m. HasOpenOutcome system f c (outcomes.Rejected m r.place (as_reason r.reason))) (sym form)
    record { parts = h.failure.parts; parts_are = h.failure.parts_are; checked = FailingStep front r.place (as_reason r.reason) h.failure.failure }

-- room for lists that stays
pub whole_kept : (a : StepChecker) (list list' : TargetList) (lay lay' : LayRoom) → FitsWhole a list lay → ((n k : ℕ) → HasListRoom n k list → HasListRoom n k list') → ((n : ℕ) → HasLayRoom n lay → HasLayRoom n lay') → FitsWhole a list' lay'
whole_kept a list list' lay lay' h keeps_list keeps_lay = record {
  list_fits = λ targets only. keeps_list _ _ (h.list_fits targets only);
  lay_fits = λ targets only. keeps_lay _ (h.lay_fits targets only);
}

-- the checker is one of the same certificate, with other room
pub checker_kept : (system : PatternSystem) (f : Core) (c : OpenCertificate) (old new : OpenChecker) → new.certificate ≡ old.certificate → IsStepCheckerOf system f c.first c.steps new.steps
    → FitsWhole new.steps new.whole.list new.whole.lay → ((n : ℕ) → HasNodeRoom n old.nodes → HasNodeRoom n new.nodes) → IsOpenCheckerOf system f c old → IsOpenCheckerOf system f c new
checker_kept system f c old new certificate steps whole nodes h = record {
  certificate_is = ap (λ k. as_open k.now) certificate ∙ h.certificate_is;
  columns = h.columns;
  forms = h.forms;
  steps = steps;
  whole = whole;
  nodes = nodes (length c.nodes) h.nodes;
}

-- behind steps that are all fine
pub behind_steps : (system : PatternSystem) (f : Core) (c : OpenCertificate) (old new : OpenChecker) → new.certificate ≡ old.certificate → (made : MadeSoFar) → IsStepCheckDone system f c.first c.steps new.steps made
    → FitsWhole new.steps new.whole.list new.whole.lay → ((n : ℕ) → HasNodeRoom n old.nodes → HasNodeRoom n new.nodes) → IsOpenCheckerOf system f c old → IsOpenCheckDone system f c new made
behind_steps system f c old new certificate made d whole nodes h = record { checker = checker_kept system f c old new certificate d.checker whole nodes h; done = d }

-- with a table of the formula that is made
module _ (system : PatternSystem) (f : Core) (parts : List Core) (c : OpenCertificate) (table : Table) (makes : MakesTable system f parts c table) (over : IsTableOver system.signature (columns_of f) table) where
  own_nodes : (es : List Entry) → AreNodes table.signature table.columns es → AreNodes system.signature (length (columns_of f)) es
  own_nodes es h = subst (λ (s : Signature). AreNodes s (length (columns_of f)) es) over.signature (subst (λ n. AreNodes table.signature n es) over.columns_are h)

  own_entry : (es : List Entry) (e : Entry) → IsEntry system.signature (length (columns_of f)) (node_presences es) e → IsEntry table.signature table.columns (node_presences es) e
  own_entry es e h =
      subst (λ n. IsEntry table.signature n (node_presences es) e) (sym over.columns_are)
      (subst (λ (s : Signature). IsEntry s (length (columns_of f)) (node_presences es) e) (sym over.signature) h)

  -- Result
  pub judged : c.claim ≡ definitions.Found → (o : OpenOutcome) → AreNodesJudged table c o → IsOpenChecked system f parts c o
  judged found o (Failing k node low is front none) = FailingNode table k node makes found low is (own_nodes _ front) (λ e. none (own_entry _ node e))
  judged found o (Accepted are last) = FoundLast table makes found (own_nodes c.nodes are) last
  judged found o (Refused are last) = NotFound table makes found (own_nodes c.nodes are) last

  -- Result
  pub some_there : c.claim ≡ definitions.Empty → c.nodes ≡ [] → some_below (length table.presences) table.accepting ≡ true → IsOpenChecked system f parts c (outcomes.Rejected c.first 0 Verdict)
  some_there none empty h = let w = found_below (length table.presences) table.accepting h in SomeThere table makes none empty record { state = w.0; within = w.1; accepted = w.2 }

  -- Result
  pub none_there : c.claim ≡ definitions.Empty → c.nodes ≡ [] → some_below (length table.presences) table.accepting ≡ false → IsOpenChecked system f parts c (Confirmed definitions.Empty)
  none_there none empty h = NoneThere table makes none empty (λ a. true≢false (sym (below_found (length table.presences) table.accepting a.state a.within a.accepted) ∙ h))

-- by the certificate that a checker has
pub owned : (system : PatternSystem) (f : Core) (c : OpenCertificate) (a : OpenChecker) (made : MadeSoFar) → IsOpenCheckDone system f c a made → IsOpenCheckDone system f (as_open a.certificate.now) a made
owned system f c a made h = subst (λ d. IsOpenCheckDone system f d a made) (sym h.checker.certificate_is) h

pub at_own : (system : PatternSystem) (f : Core) (c : OpenCertificate) (a : OpenChecker) (made : MadeSoFar) (claim : Claim) (o : OpenOutcome) → IsOpenCheckDone system f c a made → c.claim ≡ claim
    → (IsOpenCheckDone system f (as_open a.certificate.now) a made → (as_open a.certificate.now).claim ≡ claim → HasOpenOutcome system f (as_open a.certificate.now) o) → HasOpenOutcome system f c o
at_own system f c a made claim o h e tells =
    let is = h.checker.certificate_is in
    subst (λ d. HasOpenOutcome system f d o) is (tells (owned system f c a made h) (ap (λ d. d.claim) is ∙ e))

pub no_nodes : {A : Type 0} (xs : List A) → length xs ≡ 0 → xs ≡ []
no_nodes [] e = refl
no_nodes (x ∷ xs) e = absurd (omega arith)

module _ (system : PatternSystem) (f : Core) (a : OpenChecker) (made : MadeSoFar) (h : IsOpenCheckDone system f (as_open a.certificate.now) a made) where
  abbrev pub own : program.OpenCertificate
  own = a.certificate.now

  outcome : (o : OpenOutcome) → IsOpenChecked system f h.done.checker.parts (as_open own) o → HasOpenOutcome system f (as_open own) o
  outcome o k = record { parts = h.done.checker.parts; parts_are = h.done.checker.ready.are; checked = k }

  makes : (table : Table) → IsWholeTable system f h.done.checker.parts made table → MakesTable system f h.done.checker.parts (as_open own) table
  makes table w = record { made = made; fine = h.done.fine; table_is = w.answer }

  -- Result
  pub own_forms : own.first + 1 + length own.steps.items + length own.nodes.items < 2 ^ 32
  own_forms = omega (arith, h.checker.forms, length-map own.steps.items as_step, length-map own.nodes.items as_node)

  -- Result
  pub own_room : HasNodeRoom (length own.nodes.items) a.nodes
  own_room = subst (λ n. HasNodeRoom n a.nodes) (length-map own.nodes.items as_node) h.checker.nodes

  -- Result
  pub node_of_empty : (as_open own).claim ≡ definitions.Empty → 0 < length own.nodes.items → (form : ℕ) → form ≡ own.first + 1 + length own.steps.items + 0 → HasOpenOutcome system f (as_open own) (outcomes.Rejected form 0 Due)
  node_of_empty none some form is =
      let table = whole_of system f own.first (map as_step own.steps.items) a.steps made h.done h.checker.columns in
      let w = whole_table system f own.first (map as_step own.steps.items) a.steps made h.done h.checker.columns in
      let own_form : form ≡ node_form (as_open own) 0 = omega (arith, is, length-map own.steps.items as_step) in
      subst (λ n. HasOpenOutcome system f (as_open own) (outcomes.Rejected n 0 Due)) (sym own_form)
      (outcome _ (NodeOfEmpty table (makes table w) none (omega (arith, some, length-map own.nodes.items as_node))))

  module _ (table : Table) (w : IsWholeTable system f h.done.checker.parts made table) where
    -- Result
    pub found_there : (as_open own).claim ≡ definitions.Found → (o : OpenOutcome) → AreNodesJudged table (as_open own) o → HasOpenOutcome system f (as_open own) o
    found_there found o k = outcome o (judged system f h.done.checker.parts (as_open own) table (makes table w) w.over found o k)

    -- Result
    pub other_there : (as_open own).claim ≡ definitions.Empty → own.nodes.items ≡ [] → some_below (length table.presences) table.accepting ≡ true → (o : OpenOutcome) → o ≡ outcomes.Rejected own.first 0 Verdict
        → HasOpenOutcome system f (as_open own) o
    other_there none empty some o is =
        subst (HasOpenOutcome system f (as_open own)) (sym is)
        (outcome _ (some_there system f h.done.checker.parts (as_open own) table (makes table w) w.over none (ap (map as_node) empty) some))

    -- Result
    pub empty_there : (as_open own).claim ≡ definitions.Empty → own.nodes.items ≡ [] → some_below (length table.presences) table.accepting ≡ false → HasOpenOutcome system f (as_open own) (Confirmed definitions.Empty)
    empty_there none empty some = outcome _ (none_there system f h.done.checker.parts (as_open own) table (makes table w) w.over none (ap (map as_node) empty) some)
