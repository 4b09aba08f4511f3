-- The text of a certificate of an open formula, behind a text without fault, is read as that certificate.
use Rattle.std.proofs.Common.{◌≡◌, ℕ, zero, suc, ◌+◌, ◌<◌, Bool, true, false, ◌&&◌, List, [], ◌∷◌, ◌++◌, map, length, get_or, drop, codes, None, Some, Result, Ok, Err, IfOk, OnOk, refl, ap, sym, ◌∙◌, arith, subst, append_assoc, append-nil}
use Rattle.std.specs.List.{AllByRecursion, AllZip, list_all}
use Rattle.std.proofs.lemmas.List.{length-append}
use Rattle.std.proofs.Math.Seq.{drop-append_seam}
use Rattle.fort_theory.specs.Signatures.{is_word_byte}
use Rattle.fort_grammar.specs.Forms.{Form, Forms, NoForm, MoreForms}
use Rattle.fort_grammar.specs.Declarations.{as_list}
use Rattle.fort_tables.specs.Tuples.{TupleSymbol}
use Rattle.fort_tables.specs.Entries.{Entry}
use Rattle.fort_sexpr.specs.Progress.{IsReadUpTo}
use Rattle.fort_sexpr.proofs.FormLists.{joined, joined-none}
use Rattle.fort_sexpr.proofs.Ends.{AreFormsOf-read}
use Rattle.fort_certificate_theory.specs.Certificates.{Step, Closure, Part, Merge, Counts, Value}
use Rattle.fort_certificate_theory.specs.CertificateForms.{IsStepForm}
use Rattle.fort_certificate_theory.specs.CertificateText.{Element, line_of, number_element, step_elements, steps_text, IsSmall, CanBeWritten}
use Rattle.fort_certificate_theory.proofs.Spelled.{Spells}
use Rattle.fort_certificate_texts.proofs.TextWords.{IsWritten, IsAt, at_length, at_past, written_number}
use Rattle.fort_certificate_texts.proofs.TextLines.{IsWrittenElement, joined-one, line_at}
use Rattle.fort_certificate_texts.proofs.WrittenWords.{step_written}
use Rattle.fort_certificate_texts.proofs.Fronts.{front_read}
use Rattle.fort_certificate_theory.specs.OpenAgain.{IsOpenReadAgain}
use Rattle.fort_certificate_theory.specs.OpenCertificates.{Claim, Found, Empty}
use Rattle.fort_certificate_theory.specs.OpenForms.{step_version, claim_word, IsNodeForm}
use Rattle.fort_certificate_theory.specs.OpenText.{symbol_word, node_elements, open_header_elements, nodes_text, open_text, IsSmallSymbol, CanNodeBeWritten}
use Rattle.fort_certificate.specs.Again.{HasSmallNumbers}
use Rattle.fort_certificate.specs.OpenWriting.{IsOpenReadBehind, IsTextFor}
use Rattle.fort_certificate.proofs.SpelledSteps.{step_again, node_again, header_again}

-- ---- the words are words of a text

both_true : (a b : Bool) → (a && b) ≡ true → (a ≡ true) × (b ≡ true)
both_true true b h = (refl, h)
both_true false b h = absurd cc

word_bytes : (w : List ℕ) (k : ℕ) → list_all is_word_byte w ≡ true → k < length w → is_word_byte (get_or w k 0) ≡ true
word_bytes [] k h l = absurd (omega arith)
word_bytes (b ∷ w) zero h l = (both_true (is_word_byte b) (list_all is_word_byte w) h).0
word_bytes (b ∷ w) (suc k) h l = word_bytes w k (both_true (is_word_byte b) (list_all is_word_byte w) h).1 (omega arith)

written : (w : List ℕ) → 0 < length w → list_all is_word_byte w ≡ true → IsWritten w
written w l h = record { some = l; bytes = λ k m. word_bytes w k h m }

claim_written : (claim : Claim) → IsWritten (claim_word claim)
claim_written Found = written (codes "found") (omega arith) refl
claim_written Empty = written (codes "empty") (omega arith) refl

header_written : (claim : Claim) → AllByRecursion IsWrittenElement (open_header_elements claim)
header_written claim = (written (codes "certificate") (omega arith) refl, (written (codes "4") (omega arith) refl, (claim_written claim, tt)))

symbols_written : (symbol : TupleSymbol) → AllByRecursion IsSmallSymbol symbol → AllByRecursion IsWritten (map symbol_word symbol)
symbols_written [] small = tt
symbols_written (None ∷ gs) small = (written (codes "-") (omega arith) refl, symbols_written gs small.1)
symbols_written (Some g ∷ gs) small = (written_number g (omega (arith, small.0)), symbols_written gs small.1)

numbers_written : (ns : List ℕ) → AllByRecursion IsSmall ns → AllByRecursion IsWrittenElement (map number_element ns)
numbers_written [] small = tt
numbers_written (n ∷ ns) small = (written_number n (omega (arith, small.0)), numbers_written ns small.1)

node_written : (node : Entry) → CanNodeBeWritten node → AllByRecursion IsWrittenElement (node_elements node)
node_written node small =
    (written (codes "node") (omega arith) refl, (symbols_written node.symbol small.0, numbers_written node.kids small.1))

-- in a version with merges that tells indices
can_be_written : (s : Step) → HasSmallNumbers s → CanBeWritten step_version s
can_be_written (Closure w i ps) small = ((small.0, λ e. absurd cc), small.1)
can_be_written (Part k ns) small = small
can_be_written (Merge k ns) small = (refl, small.0, small.1)
can_be_written (Counts k cs) small = small
can_be_written (Value k v) small = small

-- ---- lines

abbrev lines_text : List (List Element) → List ℕ
lines_text [] = []
lines_text (es ∷ ess) = line_of es ++ lines_text ess

list-joined : (fs gs : Forms) → as_list (joined fs gs) ≡ as_list fs ++ as_list gs
list-joined NoForm gs = λ i. as_list gs
list-joined (MoreForms f fs) gs = ap (λ xs. f ∷ xs) (list-joined fs gs)

drop-joined : (fs : Forms) (f : Form) (gs : Forms) (xs : List Form) → as_list gs ≡ xs
    → drop (length (as_list fs)) (as_list (joined fs (MoreForms f gs))) ≡ f ∷ xs
drop-joined fs f gs xs e =
    ap (drop (length (as_list fs))) (list-joined fs (MoreForms f gs)) ∙ (drop-append_seam (as_list fs) (f ∷ as_list gs) ∙ ap (λ ys. f ∷ ys) e)

abbrev AreWritten : List (List Element) → Type 0
AreWritten ess = AllByRecursion (AllByRecursion IsWrittenElement) ess

record ReadLines (bytes : List ℕ) (fs : Forms) (ess : List (List Element)) : Type 0 where
  forms : Forms
  read : IsReadUpTo bytes [] (joined fs forms) (length bytes)
  each : AllZip (Spells bytes) (as_list forms) ess

lines_at : (bytes : List ℕ) (fs : Forms) (i : ℕ) (ess : List (List Element)) → AreWritten ess → IsReadUpTo bytes [] fs i
    → IsAt bytes i (lines_text ess) [] → ReadLines bytes fs ess
lines_at bytes fs i [] n r h = record {
  forms = NoForm;
  read = subst (λ (gs : Forms). IsReadUpTo bytes [] gs (length bytes)) (sym (joined-none fs))
      (let e : i ≡ length bytes = omega (arith, at_length bytes i [] [] h) in subst (λ (k : ℕ). IsReadUpTo bytes [] fs k) e r);
  each = tt;
}
lines_at bytes fs i (es ∷ ess) n r h =
    let front : IsAt bytes i (line_of es) (lines_text ess) = record { is = h.is ∙ append-nil (line_of es ++ lines_text ess); within = h.within } in
    let o = line_at bytes fs i es (lines_text ess) n.0 r front in
    let there : IsAt bytes o.place (lines_text ess) [] = record { is = o.at.is ∙ sym (append-nil (lines_text ess)); within = o.at.within } in
    let later = lines_at bytes (joined fs (MoreForms o.form NoForm)) o.place ess n.1 o.read there in
    record {
      forms = MoreForms o.form later.forms;
      read = subst (λ (gs : Forms). IsReadUpTo bytes [] gs (length bytes)) (joined-one fs o.form later.forms) later.read;
      each = (o.is, later.each);
    }

-- ---- the lines of a certificate

abbrev step_lines : List Step → List (List Element)
step_lines [] = []
step_lines (s ∷ ss) = step_elements step_version s ∷ step_lines ss

abbrev node_lines : List Entry → List (List Element)
node_lines [] = []
node_lines (n ∷ ns) = node_elements n ∷ node_lines ns

nodes_lines : (ns : List Entry) → lines_text (node_lines ns) ≡ nodes_text ns
nodes_lines [] = refl
nodes_lines (n ∷ ns) = ap (λ xs. line_of (node_elements n) ++ xs) (nodes_lines ns)

steps_lines : (ss : List Step) (ns : List Entry) → lines_text (step_lines ss ++ node_lines ns) ≡ steps_text step_version ss ++ nodes_text ns
steps_lines [] ns = nodes_lines ns
steps_lines (s ∷ ss) ns =
    ap (λ xs. line_of (step_elements step_version s) ++ xs) (steps_lines ss ns)
    ∙ sym (append_assoc (line_of (step_elements step_version s)) (steps_text step_version ss) (nodes_text ns))

nodes_written : (ns : List Entry) → AllByRecursion CanNodeBeWritten ns → AreWritten (node_lines ns)
nodes_written [] small = tt
nodes_written (n ∷ ns) small = (node_written n small.0, nodes_written ns small.1)

steps_written : (ss : List Step) (ns : List Entry) → AllByRecursion HasSmallNumbers ss → AllByRecursion CanNodeBeWritten ns
    → AreWritten (step_lines ss ++ node_lines ns)
steps_written [] ns small few = nodes_written ns few
steps_written (s ∷ ss) ns small few = (step_written step_version s (can_be_written s small.0), steps_written ss ns small.1 few)

-- the forms of nodes, and those of steps and nodes
nodes_again : (bytes : List ℕ) (fs : List Form) (ns : List Entry) → AllByRecursion CanNodeBeWritten ns → AllZip (Spells bytes) fs (node_lines ns)
    → AllZip (IsNodeForm bytes) fs ns
nodes_again bytes [] [] small h = tt
nodes_again bytes [] (n ∷ ns) small h = absurd h
nodes_again bytes (f ∷ fs) [] small h = absurd h
nodes_again bytes (f ∷ fs) (n ∷ ns) small h = (node_again bytes f n small.0 h.0, nodes_again bytes fs ns small.1 h.1)

record SplitForms (bytes : List ℕ) (fs : List Form) (ss : List Step) (ns : List Entry) : Type 0 where
  step_forms : List Form
  node_forms : List Form
  is : fs ≡ step_forms ++ node_forms
  are_steps : AllZip (IsStepForm bytes step_version) step_forms ss
  are_nodes : AllZip (IsNodeForm bytes) node_forms ns

steps_again : (bytes : List ℕ) (fs : List Form) (ss : List Step) (ns : List Entry) → AllByRecursion HasSmallNumbers ss → AllByRecursion CanNodeBeWritten ns
    → AllZip (Spells bytes) fs (step_lines ss ++ node_lines ns) → SplitForms bytes fs ss ns
steps_again bytes fs [] ns small few h =
    record { step_forms = []; node_forms = fs; is = refl; are_steps = tt; are_nodes = nodes_again bytes fs ns few h }
steps_again bytes [] (s ∷ ss) ns small few h = absurd h
steps_again bytes (f ∷ fs) (s ∷ ss) ns small few h =
    let rest = steps_again bytes fs ss ns small.1 few h.1 in
    record {
      step_forms = f ∷ rest.step_forms;
      node_forms = rest.node_forms;
      is = ap (λ gs. f ∷ gs) rest.is;
      are_steps = (step_again bytes f s small.0 h.0, rest.are_steps);
      are_nodes = rest.are_nodes;
    }

-- behind what was read up to a place
text_again : (bytes : List ℕ) (fs : Forms) (i : ℕ) (claim : Claim) (ss : List Step) (ns : List Entry) → AllByRecursion HasSmallNumbers ss
    → AllByRecursion CanNodeBeWritten ns → IsReadUpTo bytes [] fs i → IsAt bytes i (open_text claim ss ns) []
    → IsOpenReadAgain bytes fs (record { first = length (as_list fs); claim = claim; steps = ss; nodes = ns })
text_again bytes fs i claim ss ns small few r h =
    let header = line_of (open_header_elements claim) in
    let lines = step_lines ss ++ node_lines ns in
    let front : IsAt bytes i header (lines_text lines) = record {
      is = h.is ∙ (append-nil (header ++ (steps_text step_version ss ++ nodes_text ns)) ∙ ap (λ xs. header ++ xs) (sym (steps_lines ss ns)));
      within = h.within;
    } in
    let o = line_at bytes fs i (open_header_elements claim) (lines_text lines) (header_written claim) r front in
    let there : IsAt bytes o.place (lines_text lines) [] = record { is = o.at.is ∙ sym (append-nil (lines_text lines)); within = o.at.within } in
    let later = lines_at bytes (joined fs (MoreForms o.form NoForm)) o.place lines (steps_written ss ns small few) o.read there in
    let gs = MoreForms o.form later.forms in
    let cut = steps_again bytes (as_list later.forms) ss ns small few later.each in
    let split : drop (length (as_list fs)) (as_list (joined fs gs)) ≡ o.form ∷ (cut.step_forms ++ cut.node_forms) =
    drop-joined fs o.form later.forms (cut.step_forms ++ cut.node_forms) cut.is in
    record {
      forms = joined fs gs;
      are_forms = AreFormsOf-read bytes (joined fs gs) (subst (λ (xs : Forms). IsReadUpTo bytes [] xs (length bytes)) (joined-one fs o.form later.forms) later.read);
      others = as_list gs;
      behind = list-joined fs gs;
      certificate = record {
        header = o.form;
        step_forms = cut.step_forms;
        node_forms = cut.node_forms;
        first = refl;
        split = split;
        headed = header_again bytes o.form claim o.is;
        are_steps = cut.are_steps;
        are_nodes = cut.are_nodes;
      };
    }

-- Result: a text without fault, an LF and the text
pub open_behind_again : (claim : Claim) (ss : List Step) (ns : List Entry) → AllByRecursion HasSmallNumbers ss → AllByRecursion CanNodeBeWritten ns
    → IsOpenReadBehind claim ss ns (open_text claim ss ns)
open_behind_again claim ss ns small few front fs h =
    let text = open_text claim ss ns in
    let whole = front ++ 10 ∷ text in
    let at_feed : IsAt whole (length front) (10 ∷ []) (text ++ []) = record {
      is = drop-append_seam front (10 ∷ text) ∙ ap (λ xs. 10 ∷ xs) (sym (append-nil text));
      within = omega (arith, length-append front (10 ∷ text));
    } in
    text_again whole fs (length front + 1) claim ss ns small few (front_read front text fs h) (at_past whole (length front) (10 ∷ []) text [] at_feed)

pub text_for : (claim : Claim) (ss : List Step) (ns : List Entry) (text : List ℕ) → text ≡ open_text claim ss ns → AllByRecursion HasSmallNumbers ss
    → AllByRecursion CanNodeBeWritten ns → IsTextFor claim ss ns text
text_for claim ss ns text e small few =
    record { is = e; small_steps = small; small_nodes = few; again = subst (IsOpenReadBehind claim ss ns) (sym e) (open_behind_again claim ss ns small few) }

pub both_ok : {T E : Type 0} (r : Result T E) (P : T → Type 0) (Q : Type 0) → IfOk r P → OnOk r Q → IfOk r (λ x. P x × Q)
both_ok (Ok x) P Q p q = (p, q)
both_ok (Err e) P Q p q = tt
