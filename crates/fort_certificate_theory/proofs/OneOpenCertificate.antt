-- Forms are at most one certificate of an open formula, have at most one first fault, and not both.
use Rattle.std.proofs.Common.{◌≡◌, ℕ, ◌+◌, List, [], ◌∷◌, ◌++◌, length, drop, refl, ap, sym, ◌∙◌, subst}
use Rattle.std.specs.List.{AllZip}
use Rattle.fort_grammar.specs.Forms.{Form}
use Rattle.fort_grammar.specs.Declarations.{IsHeaded}
use Rattle.fort_tables.specs.Entries.{Entry}
use Rattle.fort_certificate_theory.specs.Certificates.{Step}
use Rattle.fort_certificate_theory.specs.CertificateForms.{IsStepForm}
use Rattle.fort_certificate_theory.specs.CertificateFaults.{CertificateFault, BadForm, IsBadStep}
use Rattle.fort_certificate_theory.proofs.OneCertificate.{step_one}
use Rattle.fort_certificate_theory.proofs.OneFault.{step_not_bad, bad_step_one}
use Rattle.fort_certificate_theory.specs.OpenCertificates.{Claim, OpenCertificate}
use Rattle.fort_certificate_theory.specs.OpenForms.{step_version, node_word, IsNodeForm, IsOpenHeaderForm, IsOpenCertificate}
use Rattle.fort_certificate_theory.specs.OpenFaults.{IsBadNode, IsBadOpenHeader, IsFirstOpenFault, WithoutHeader, InHeader, InStep, InNode}
use Rattle.fort_certificate_theory.proofs.Readings.{AreOne, reading_one, first_bad_one, all_none_bad, all_one}
use Rattle.fort_certificate_theory.proofs.NodeForms.{node_headed, node_one, node_not_bad, bad_node_one, step_no_node}
use Rattle.fort_certificate_theory.proofs.OpenHeaders.{header_one, header_not_bad, bad_header_one}

-- behind steps: nodes up to the end, or a fault
data Behind : Type 0 where
  Nodes : List Entry → Behind
  Fault : CertificateFault → Behind

nodes_same : (ns ms : List Entry) → Nodes ns ≡ Nodes ms → ns ≡ ms
nodes_same ns ms h = cc

fault_same : (a b : CertificateFault) → Fault a ≡ Fault b → a ≡ b
fault_same a b h = cc

nodes_or_fault : (ns : List Entry) (a : CertificateFault) → Nodes ns ≡ Fault a → ⊥
nodes_or_fault ns a h = cc

module _ (bytes : List ℕ) where
  abbrev IsStep : Form → Step → Type 0
  IsStep = IsStepForm bytes step_version

  -- i is the number of the first of the forms
  data EndsSteps (i : ℕ) : List Form → Behind → Type 0 where
    WithNodes : (fs : List Form) (nodes : List Entry) → AllZip (IsNodeForm bytes) fs nodes → EndsSteps i fs (Nodes nodes)
    AtStep : (f : Form) (after : List Form) (fault : CertificateFault) → (IsHeaded bytes node_word f → ⊥) → IsBadStep bytes step_version i f fault
        → EndsSteps i (f ∷ after) (Fault fault)
    AtNode : (between after : List Form) (nodes : List Entry) (f : Form) (fault : CertificateFault) → AllZip (IsNodeForm bytes) between nodes
        → (nodes ≡ [] → IsHeaded bytes node_word f) → IsBadNode bytes (i + length between) f fault
        → EndsSteps i (between ++ f ∷ after) (Fault fault)

  abbrev IsNode : Form → Entry → Type 0
  IsNode = IsNodeForm bytes

  abbrev BadNode : ℕ → Form → CertificateFault → Type 0
  BadNode i f fault = IsBadNode bytes i f fault

  -- the first of nodes, good or bad, is headed as one
  node_first : (i : ℕ) (between after : List Form) (nodes : List Entry) (f g : Form) (fs : List Form) → AllZip (IsNodeForm bytes) between nodes
      → (nodes ≡ [] → IsHeaded bytes node_word f) → between ++ f ∷ after ≡ g ∷ fs → IsHeaded bytes node_word g
  node_first i [] after [] f g fs h k e = let same : f ≡ g = cc in subst (λ (x : Form). IsHeaded bytes node_word x) same (k refl)
  node_first i [] after (n ∷ ns) f g fs h k e = absurd h
  node_first i (b ∷ bs) after [] f g fs h k e = absurd h
  node_first i (b ∷ bs) after (n ∷ ns) f g fs h k e =
      let same : b ≡ g = cc in subst (λ (x : Form). IsHeaded bytes node_word x) same (node_headed bytes b n h.0)

  good_first : (g : Form) (fs : List Form) (nodes : List Entry) → AllZip (IsNodeForm bytes) (g ∷ fs) nodes → IsHeaded bytes node_word g
  good_first g fs [] h = absurd h
  good_first g fs (n ∷ ns) h = node_headed bytes g n h.0

  -- what such an end says of forms with a first one
  ends_apart_by : (i : ℕ) (g : Form) (fs gs : List Form) (s : Step) (e : Behind) → IsStep g s → gs ≡ g ∷ fs → EndsSteps i gs e → ⊥
  ends_apart_by i g fs gs s e step is (WithNodes hs nodes each) =
      step_no_node bytes step_version g s step (good_first g fs nodes (subst (λ (xs : List Form). AllZip (IsNodeForm bytes) xs nodes) is each))
  ends_apart_by i g fs gs s e step is (AtStep f after fault other bad) =
      let same : f ≡ g = cc in
      step_not_bad bytes step_version i g s fault step (subst (λ (x : Form). IsBadStep bytes step_version i x fault) same bad)
  ends_apart_by i g fs gs s e step is (AtNode between after nodes f fault each head bad) =
      step_no_node bytes step_version g s step (node_first i between after nodes f g fs each head is)

  ends_apart : (i : ℕ) (g : Form) (fs : List Form) (s : Step) (e : Behind) → IsStep g s → EndsSteps i (g ∷ fs) e → ⊥
  ends_apart i g fs s e step h = ends_apart_by i g fs (g ∷ fs) s e step refl h

  nodes_one : (fs : List Form) (ns ms : List Entry) → AllZip (IsNodeForm bytes) fs ns → AllZip (IsNodeForm bytes) fs ms → ns ≡ ms
  nodes_one fs ns ms h k = all_one IsNode BadNode (node_one bytes) (node_not_bad bytes) (bad_node_one bytes) fs ns ms h k

  nodes_no_fault : (i : ℕ) (all between after : List Form) (ns ms : List Entry) (f : Form) (fault : CertificateFault)
      → all ≡ between ++ f ∷ after → AllZip (IsNodeForm bytes) all ns → AllZip (IsNodeForm bytes) between ms
      → IsBadNode bytes (i + length between) f fault → ⊥
  nodes_no_fault i all between after ns ms f fault e h k bad =
      all_none_bad IsNode BadNode (node_one bytes) (node_not_bad bytes) (bad_node_one bytes) i between after all ns ms f fault e h k bad

  ends_one_by : (i : ℕ) (fs gs : List Form) (e e' : Behind) → fs ≡ gs → EndsSteps i fs e → EndsSteps i gs e' → e ≡ e'
  ends_one_by i fs gs e e' is (WithNodes hs ns each) (WithNodes hs' ms each') =
      ap Nodes (nodes_one gs ns ms (subst (λ (xs : List Form). AllZip (IsNodeForm bytes) xs ns) is each) each')
  ends_one_by i fs gs e e' is (WithNodes hs ns each) (AtStep f after fault other bad) =
      absurd (other (good_first f after ns (subst (λ (xs : List Form). AllZip (IsNodeForm bytes) xs ns) is each)))
  ends_one_by i fs gs e e' is (WithNodes hs ns each) (AtNode between after ms f fault each' head bad) =
      absurd (nodes_no_fault i fs between after ns ms f fault is each each' bad)
  ends_one_by i fs gs e e' is (AtStep f after fault other bad) (WithNodes hs ns each) =
      absurd (other (good_first f after ns (subst (λ (xs : List Form). AllZip (IsNodeForm bytes) xs ns) (sym is) each)))
  ends_one_by i fs gs e e' is (AtStep f after a other bad) (AtStep g after' b other' bad') =
      let same : f ≡ g = cc in
      ap Fault (bad_step_one bytes step_version i g a b (subst (λ (x : Form). IsBadStep bytes step_version i x a) same bad) bad')
  ends_one_by i fs gs e e' is (AtStep f after a other bad) (AtNode between after' ms g b each' head bad') =
      absurd (other (node_first i between after' ms g f after each' head (sym is)))
  ends_one_by i fs gs e e' is (AtNode between after ms f fault each head bad) (WithNodes hs ns each') =
      absurd (nodes_no_fault i gs between after ns ms f fault (sym is) each' each bad)
  ends_one_by i fs gs e e' is (AtNode between after ms f a each head bad) (AtStep g after' b other bad') =
      absurd (other (node_first i between after ms f g after' each head is))
  ends_one_by i fs gs e e' is (AtNode between after ns f a each head bad) (AtNode between' after' ms g b each' head' bad') =
      ap Fault (first_bad_one IsNode BadNode (node_one bytes) (node_not_bad bytes) (bad_node_one bytes) i between after between' after' ns ms f g a b is
      each each' bad bad')

  ends_one : (i : ℕ) (fs : List Form) (e e' : Behind) → EndsSteps i fs e → EndsSteps i fs e' → e ≡ e'
  ends_one i fs e e' h k = ends_one_by i fs fs e e' refl h k

  behind_header_one : (i : ℕ) (before rest before' rest' : List Form) (ss ts : List Step) (e e' : Behind) → before ++ rest ≡ before' ++ rest'
      → AllZip IsStep before ss → AllZip IsStep before' ts → EndsSteps (i + length before) rest e → EndsSteps (i + length before') rest' e'
      → AreOne ss ts e e'
  behind_header_one i before rest before' rest' ss ts e e' h x y p q =
      reading_one IsStep EndsSteps (step_one bytes step_version) ends_apart ends_one i before rest before' rest' ss ts e e' h x y p q

-- ---- a header and what is behind it

record SameFront (a b : Form) (fs gs : List Form) : Type 0 where
  header : a ≡ b
  others : fs ≡ gs

same_front : (xs : List Form) (a b : Form) (fs gs : List Form) → xs ≡ a ∷ fs → xs ≡ b ∷ gs → SameFront a b fs gs
same_front xs a b fs gs h k = let e : a ∷ fs ≡ b ∷ gs = sym h ∙ k in record { header = cc; others = cc }

none_more : (xs fs : List Form) (a : Form) → xs ≡ [] → xs ≡ a ∷ fs → ⊥
none_more xs fs a h k = let e : [] ≡ a ∷ fs = sym h ∙ k in absurd cc

-- what the forms behind a header are
data IsBehind (bytes : List ℕ) (i : ℕ) (fs : List Form) : List Step → Behind → Type 0 where
  Split : {ss : List Step} {e : Behind} (before rest : List Form) → fs ≡ before ++ rest → AllZip (IsStepForm bytes step_version) before ss
      → EndsSteps bytes (i + length before) rest e → IsBehind bytes i fs ss e

is_behind_one : (bytes : List ℕ) (i : ℕ) (fs : List Form) (ss ts : List Step) (e e' : Behind) → IsBehind bytes i fs ss e → IsBehind bytes i fs ts e'
    → AreOne ss ts e e'
is_behind_one bytes i fs ss ts e e' (Split before rest is each end) (Split before' rest' is' each' end') =
    behind_header_one bytes i before rest before' rest' ss ts e e' (sym is ∙ is') each each' end end'

-- a header, steps, and then such an end
record IsReadAs (bytes : List ℕ) (forms : List Form) (from : ℕ) (claim : Claim) (ss : List Step) (e : Behind) : Type 0 where
  header : Form
  others : List Form
  split : drop from forms ≡ header ∷ others
  headed : IsOpenHeaderForm bytes header claim
  behind : IsBehind bytes (from + 1) others ss e

record AreReadAsOne (a b : Claim) (ss ts : List Step) (e e' : Behind) : Type 0 where
  claim : a ≡ b
  steps : ss ≡ ts
  end : e ≡ e'

read_as_one : (bytes : List ℕ) (forms : List Form) (from : ℕ) (a b : Claim) (ss ts : List Step) (e e' : Behind) → IsReadAs bytes forms from a ss e
    → IsReadAs bytes forms from b ts e' → AreReadAsOne a b ss ts e e'
read_as_one bytes forms from a b ss ts e e' h k =
    let same = same_front (drop from forms) h.header k.header h.others k.others h.split k.split in
    let one = is_behind_one bytes (from + 1) k.others ss ts e e' (subst (λ (fs : List Form). IsBehind bytes (from + 1) fs ss e) same.others h.behind) k.behind in
    record {
      claim = header_one bytes k.header a b (subst (λ (f : Form). IsOpenHeaderForm bytes f a) same.header h.headed) k.headed;
      steps = one.values;
      end = one.ends;
    }

-- a certificate is read so, and so is a fault behind the header
read_certificate : (bytes : List ℕ) (forms : List Form) (from : ℕ) (c : OpenCertificate) → IsOpenCertificate bytes forms from c
    → IsReadAs bytes forms from c.claim c.steps (Nodes c.nodes)
read_certificate bytes forms from c h = record {
  header = h.header;
  others = h.step_forms ++ h.node_forms;
  split = h.split;
  headed = h.headed;
  behind = Split h.step_forms h.node_forms refl h.are_steps (WithNodes h.node_forms c.nodes h.are_nodes);
}

-- a first fault: there is no header, it is bad, or the fault is behind it
data FaultRead (bytes : List ℕ) (forms : List Form) (from : ℕ) : CertificateFault → Type 0 where
  Missing : drop from forms ≡ [] → FaultRead bytes forms from (BadForm from)
  Bad : (header : Form) (others : List Form) (fault : CertificateFault) → drop from forms ≡ header ∷ others
      → IsBadOpenHeader bytes from header fault → FaultRead bytes forms from fault
  Later : (claim : Claim) (ss : List Step) (fault : CertificateFault) → IsReadAs bytes forms from claim ss (Fault fault)
      → FaultRead bytes forms from fault

read_fault : (bytes : List ℕ) (forms : List Form) (from : ℕ) (fault : CertificateFault) → IsFirstOpenFault bytes forms from fault
    → FaultRead bytes forms from fault
read_fault bytes forms from fault (WithoutHeader is) = Missing is
read_fault bytes forms from fault (InHeader header others a is bad) = Bad header others a is bad
read_fault bytes forms from fault (InStep header claim before after ss f a is head each other bad) =
    Later claim ss a (record {
      header = header;
      others = before ++ f ∷ after;
      split = is;
      headed = head;
      behind = Split before (f ∷ after) refl each (AtStep f after a other bad);
    })
read_fault bytes forms from fault (InNode header claim before between after ss nodes f a is head each each_node first bad) =
    Later claim ss a (record {
      header = header;
      others = before ++ (between ++ f ∷ after);
      split = is;
      headed = head;
      behind = Split before (between ++ f ∷ after) refl each (AtNode between after nodes f a each_node first bad);
    })

bad_not_read : (bytes : List ℕ) (forms : List Form) (from : ℕ) (header : Form) (others : List Form) (fault : CertificateFault) (claim : Claim)
    (ss : List Step) (e : Behind) → drop from forms ≡ header ∷ others → IsBadOpenHeader bytes from header fault
    → IsReadAs bytes forms from claim ss e → ⊥
bad_not_read bytes forms from header others fault claim ss e is bad h =
    let same = same_front (drop from forms) header h.header others h.others is h.split in
    header_not_bad bytes h.header from claim fault h.headed (subst (λ (f : Form). IsBadOpenHeader bytes from f fault) same.header bad)

read_faults_one : (bytes : List ℕ) (forms : List Form) (from : ℕ) (a b : CertificateFault) → FaultRead bytes forms from a → FaultRead bytes forms from b
    → a ≡ b
read_faults_one bytes forms from a b (Missing h) (Missing k) = refl
read_faults_one bytes forms from a b (Missing h) (Bad header others fault is bad) = absurd (none_more (drop from forms) others header h is)
read_faults_one bytes forms from a b (Missing h) (Later claim ss fault k) = absurd (none_more (drop from forms) k.others k.header h k.split)
read_faults_one bytes forms from a b (Bad header others fault is bad) (Missing k) = absurd (none_more (drop from forms) others header k is)
read_faults_one bytes forms from a b (Bad header others fault is bad) (Bad header' others' fault' is' bad') =
    let same = same_front (drop from forms) header header' others others' is is' in
    bad_header_one bytes header' from a b (subst (λ (f : Form). IsBadOpenHeader bytes from f a) same.header bad) bad'
read_faults_one bytes forms from a b (Bad header others fault is bad) (Later claim ss fault' k) =
    absurd (bad_not_read bytes forms from header others a claim ss (Fault b) is bad k)
read_faults_one bytes forms from a b (Later claim ss fault h) (Missing k) = absurd (none_more (drop from forms) h.others h.header k h.split)
read_faults_one bytes forms from a b (Later claim ss fault h) (Bad header others fault' is bad) =
    absurd (bad_not_read bytes forms from header others b claim ss (Fault a) is bad h)
read_faults_one bytes forms from a b (Later claim ss fault h) (Later claim' ts fault' k) =
    fault_same a b (read_as_one bytes forms from claim claim' ss ts (Fault a) (Fault b) h k).end

fault_no_certificate : (bytes : List ℕ) (forms : List Form) (from : ℕ) (c : OpenCertificate) (fault : CertificateFault)
    → IsReadAs bytes forms from c.claim c.steps (Nodes c.nodes) → FaultRead bytes forms from fault → ⊥
fault_no_certificate bytes forms from c fault h (Missing is) = none_more (drop from forms) h.others h.header is h.split
fault_no_certificate bytes forms from c fault h (Bad header others a is bad) =
    bad_not_read bytes forms from header others fault c.claim c.steps (Nodes c.nodes) is bad h
fault_no_certificate bytes forms from c fault h (Later claim ss a k) =
    nodes_or_fault c.nodes fault (read_as_one bytes forms from c.claim claim c.steps ss (Nodes c.nodes) (Fault fault) h k).end

-- Result: forms have at most one reading as a certificate
pub IsOpenCertificate-one : (bytes : List ℕ) (forms : List Form) (from : ℕ) (c d : OpenCertificate) → IsOpenCertificate bytes forms from c
    → IsOpenCertificate bytes forms from d → c ≡ d
IsOpenCertificate-one bytes forms from c d h k =
    let first : c.first ≡ d.first = h.first ∙ sym k.first in
    let one = read_as_one bytes forms from c.claim d.claim c.steps d.steps (Nodes c.nodes) (Nodes d.nodes) (read_certificate bytes forms from c h)
    (read_certificate bytes forms from d k) in
    let nodes = nodes_same c.nodes d.nodes one.end in
    λ i. record { first = first i; claim = one.claim i; steps = one.steps i; nodes = nodes i }

-- Result: forms have at most one first fault
pub IsFirstOpenFault-one : (bytes : List ℕ) (forms : List Form) (from : ℕ) (a b : CertificateFault) → IsFirstOpenFault bytes forms from a
    → IsFirstOpenFault bytes forms from b → a ≡ b
IsFirstOpenFault-one bytes forms from a b h k =
    read_faults_one bytes forms from a b (read_fault bytes forms from a h) (read_fault bytes forms from b k)

-- Result: forms that are a certificate have no fault
pub IsOpenCertificate-not_bad : (bytes : List ℕ) (forms : List Form) (from : ℕ) (c : OpenCertificate) (fault : CertificateFault)
    → IsOpenCertificate bytes forms from c → IsFirstOpenFault bytes forms from fault → ⊥
IsOpenCertificate-not_bad bytes forms from c fault h k =
    fault_no_certificate bytes forms from c fault (read_certificate bytes forms from c h) (read_fault bytes forms from fault k)
