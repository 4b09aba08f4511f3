-- Nothing to believe: a symbol as a pair of its fields.
use Rattle.std.specs.Prelude.{ℕ, List, refl}
use Rattle.std.specs.Coded.{Coded, code_by, coded×, coded_list, coded_ℕ}
use Rattle.fort_theory.specs.Signatures.{Symbol, Signature}

abbrev pub symbol_code : Coded Symbol
symbol_code =
    code_by (List ℕ × ℕ) (coded× (coded_list coded_ℕ) coded_ℕ) (λ (s : Symbol). (s.name, s.arity)) (λ p. record { name = p.0; arity = p.1 }) (λ _. refl)

abbrev pub signature_code : Coded Signature
signature_code = coded_list symbol_code
