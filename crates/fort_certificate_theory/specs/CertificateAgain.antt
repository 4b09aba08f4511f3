-- To believe: when a text is some forms and then a certificate. So the text of a certificate is read again.
use Rattle.std.specs.Prelude.{◌≡◌, ℕ, List, ◌++◌, length}
use Rattle.fort_grammar.specs.Forms.{Form, Forms, AreFormsOf}
use Rattle.fort_grammar.specs.Declarations.{as_list}
use Rattle.fort_certificate_theory.specs.Certificates.{Certificate}
use Rattle.fort_certificate_theory.specs.CertificateForms.{IsCertificate}

pub record IsReadAgain (bytes : List ℕ) (number : ℕ) (front : Forms) (c : Certificate) : Type 0 where
  pub forms : Forms
  pub are_forms : AreFormsOf bytes forms
  pub others : List Form
  pub behind : as_list forms ≡ as_list front ++ others
  pub certificate : IsCertificate bytes number (as_list forms) (length (as_list front)) c
