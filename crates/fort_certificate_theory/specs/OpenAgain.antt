-- To believe: when a text is some forms and then a certificate of an open formula. So the text of such a certificate is read again.
use Rattle.std.specs.Prelude.{◌≡◌, ℕ, List, ◌++◌, length}
use Rattle.fort_grammar.specs.Forms.{Form, Forms, AreFormsOf}
use Rattle.fort_grammar.specs.Declarations.{as_list}
use Rattle.fort_certificate_theory.specs.OpenCertificates.{OpenCertificate}
use Rattle.fort_certificate_theory.specs.OpenForms.{IsOpenCertificate}

pub record IsOpenReadAgain (bytes : List ℕ) (front : Forms) (c : OpenCertificate) : Type 0 where
  pub forms : Forms
  pub are_forms : AreFormsOf bytes forms
  pub others : List Form
  pub behind : as_list forms ≡ as_list front ++ others
  pub certificate : IsOpenCertificate bytes (as_list forms) (length (as_list front)) c
