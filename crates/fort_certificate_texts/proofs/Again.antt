-- The text of a certificate, alone or behind a text without fault, is read as that certificate.
use Rattle.std.proofs.Common.{◌≡◌, ℕ, ◌+◌, Bool, List, [], ◌∷◌, ◌++◌, length, drop, ap, sym, ◌∙◌, arith, subst, append-nil}
use Rattle.std.specs.List.{AllByRecursion}
use Rattle.std.proofs.lemmas.List.{length-append}
use Rattle.std.proofs.Math.Seq.{drop-append_seam}
use Rattle.fort_grammar.specs.Forms.{Forms, NoForm, MoreForms, AreFormsOf}
use Rattle.fort_grammar.specs.Declarations.{as_list}
use Rattle.fort_sexpr.specs.Progress.{IsReadUpTo}
use Rattle.fort_sexpr.proofs.FormLists.{joined, joined-none}
use Rattle.fort_sexpr.proofs.Ends.{read_nothing, AreFormsOf-read}
use Rattle.fort_certificate_theory.specs.Certificates.{Step, Certificate}
use Rattle.fort_certificate_theory.specs.CertificateForms.{Version, IsVersionOf}
use Rattle.fort_certificate_theory.specs.CertificateText.{line_of, step_elements, header_elements, steps_text, certificate_text, CanBeWritten}
use Rattle.fort_certificate_theory.specs.CertificateAgain.{IsReadAgain}
use Rattle.fort_certificate_texts.proofs.TextWords.{IsAt, at_length, at_past}
use Rattle.fort_certificate_texts.proofs.TextLines.{joined-one, line_at}
use Rattle.fort_certificate_texts.proofs.WrittenWords.{step_written, header_written}
use Rattle.fort_certificate_theory.proofs.Spelled.{SpellSteps, certificate_again}
use Rattle.fort_certificate_texts.proofs.Fronts.{front_read}

list-joined : (fs gs : Forms) → as_list (joined fs gs) ≡ as_list fs ++ as_list gs
list-joined NoForm gs = λ i. as_list gs
list-joined (MoreForms f fs) gs = ap (λ xs. f ∷ xs) (list-joined fs gs)

-- the lines of the steps
record ReadSteps (bytes : List ℕ) (version : Version) (fs : Forms) (ss : List Step) : Type 0 where
  forms : Forms
  read : IsReadUpTo bytes [] (joined fs forms) (length bytes)
  each : SpellSteps bytes version (as_list forms) ss

steps_at : (bytes : List ℕ) (version : Version) (fs : Forms) (i : ℕ) (ss : List Step) → AllByRecursion (CanBeWritten version) ss → IsReadUpTo bytes [] fs i
    → IsAt bytes i (steps_text version ss) [] → ReadSteps bytes version fs ss
steps_at bytes version fs i [] small r h = record {
  forms = NoForm;
  read = subst (λ (gs : Forms). IsReadUpTo bytes [] gs (length bytes)) (sym (joined-none fs))
      (let e : i ≡ length bytes = omega (arith, at_length bytes i [] [] h) in subst (λ (k : ℕ). IsReadUpTo bytes [] fs k) e r);
  each = tt;
}
steps_at bytes version fs i (s ∷ ss) small r h =
    let line = line_of (step_elements version s) in
    let front : IsAt bytes i line (steps_text version ss) = record { is = h.is ∙ append-nil (line ++ steps_text version ss); within = h.within } in
    let o = line_at bytes fs i (step_elements version s) (steps_text version ss) (step_written version s small.0) r front in
    let there : IsAt bytes o.place (steps_text version ss) [] = record { is = o.at.is ∙ sym (append-nil (steps_text version ss)); within = o.at.within } in
    let later = steps_at bytes version (joined fs (MoreForms o.form NoForm)) o.place ss small.1 o.read there in
    record {
      forms = MoreForms o.form later.forms;
      read = subst (λ (gs : Forms). IsReadUpTo bytes [] gs (length bytes)) (joined-one fs o.form later.forms) later.read;
      each = (o.is, later.each);
    }

-- behind what was read up to a place
text_again : (bytes : List ℕ) (number : ℕ) (version : Version) (fs : Forms) (i : ℕ) (v : Bool) (ss : List Step) → IsVersionOf number version
    → AllByRecursion (CanBeWritten version) ss → IsReadUpTo bytes [] fs i → IsAt bytes i (certificate_text version v ss) []
    → IsReadAgain bytes number fs (record { first = length (as_list fs); verdict = v; steps = ss })
text_again bytes number version fs i v ss of small r h =
    let line = line_of (header_elements version v) in
    let front : IsAt bytes i line (steps_text version ss) = record { is = h.is ∙ append-nil (line ++ steps_text version ss); within = h.within } in
    let o = line_at bytes fs i (header_elements version v) (steps_text version ss) (header_written version v) r front in
    let there : IsAt bytes o.place (steps_text version ss) [] = record { is = o.at.is ∙ sym (append-nil (steps_text version ss)); within = o.at.within } in
    let later = steps_at bytes version (joined fs (MoreForms o.form NoForm)) o.place ss small o.read there in
    let gs = MoreForms o.form later.forms in
    let split : drop (length (as_list fs)) (as_list (joined fs gs)) ≡ o.form ∷ as_list later.forms =
    ap (drop (length (as_list fs))) (list-joined fs gs) ∙ drop-append_seam (as_list fs) (as_list gs) in
    let c : Certificate = record { first = length (as_list fs); verdict = v; steps = ss } in
    record {
      forms = joined fs gs;
      are_forms = AreFormsOf-read bytes (joined fs gs) (subst (λ (xs : Forms). IsReadUpTo bytes [] xs (length bytes)) (joined-one fs o.form later.forms) later.read);
      others = as_list gs;
      behind = list-joined fs gs;
      certificate = certificate_again bytes number version (as_list (joined fs gs)) c o.form (as_list later.forms) of split small o.is later.each;
    }

-- result: the text alone
pub alone_again : (number : ℕ) (version : Version) (v : Bool) (ss : List Step) → IsVersionOf number version → AllByRecursion (CanBeWritten version) ss
    → IsReadAgain (certificate_text version v ss) number NoForm (record { first = 0; verdict = v; steps = ss })
alone_again number version v ss of small =
    let whole = certificate_text version v ss in
    text_again whole number version NoForm 0 v ss of small (read_nothing whole) (record { is = sym (append-nil whole); within = omega arith })

-- result: a text without fault, an LF and the text
pub behind_again : (number : ℕ) (version : Version) (front : List ℕ) (fs : Forms) (v : Bool) (ss : List Step) → AreFormsOf front fs
    → IsVersionOf number version → AllByRecursion (CanBeWritten version) ss
    → IsReadAgain (front ++ 10 ∷ certificate_text version v ss) number fs (record { first = length (as_list fs); verdict = v; steps = ss })
behind_again number version front fs v ss h of small =
    let text = certificate_text version v ss in
    let whole = front ++ 10 ∷ text in
    let at_feed : IsAt whole (length front) (10 ∷ []) (text ++ []) = record {
      is = drop-append_seam front (10 ∷ text) ∙ ap (λ xs. 10 ∷ xs) (sym (append-nil text));
      within = omega (arith, length-append front (10 ∷ text));
    } in
    text_again whole number version fs (length front + 1) v ss of small (front_read front text fs h) (at_past whole (length front) (10 ∷ []) text [] at_feed)
