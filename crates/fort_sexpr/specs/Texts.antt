-- To believe: what contracts see of a text that was read, of a form in it, and of the forms of a list in it.
use Rattle.std.specs.Prelude.{ℕ, List, refl}
use Rattle.std.specs.Coded.{Coded, code_by, coded_list, coded_ℕ, coded×}
use Rattle.fort_grammar.specs.Forms.{Form, Forms}
use Rattle.fort_sexpr.specs.FormCode.{form_code, forms_code}

-- a text and its forms
pub record FormsOfText : Type 0 where
  pub bytes : List ℕ
  pub forms : Forms

-- a form, with the text that it stands in
pub record FormOfText : Type 0 where
  pub bytes : List ℕ
  pub form : Form

-- the forms of a list, with the text that they stand in
pub record FormListOfText : Type 0 where
  pub bytes : List ℕ
  pub forms : List Form

abbrev pub forms_of_text_code : Coded FormsOfText
forms_of_text_code =
    code_by (List ℕ × Forms) (coded× (coded_list coded_ℕ) forms_code)
    (λ t. (t.bytes, t.forms)) (λ p. record { bytes = p.0; forms = p.1 }) (λ _. refl)

abbrev pub form_of_text_code : Coded FormOfText
form_of_text_code =
    code_by (List ℕ × Form) (coded× (coded_list coded_ℕ) form_code)
    (λ t. (t.bytes, t.form)) (λ p. record { bytes = p.0; form = p.1 }) (λ _. refl)

abbrev pub form_list_of_text_code : Coded FormListOfText
form_list_of_text_code =
    code_by (List ℕ × List Form) (coded× (coded_list coded_ℕ) (coded_list form_code))
    (λ t. (t.bytes, t.forms)) (λ p. record { bytes = p.0; forms = p.1 }) (λ _. refl)
