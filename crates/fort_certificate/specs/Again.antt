-- To believe: when the text of a certificate, behind any text without fault, is that certificate again.
use Rattle.std.specs.Prelude.{ℕ, Bool, List, ◌∷◌, ◌++◌, length}
use Rattle.std.specs.List.{AllByRecursion}
use Rattle.fort_grammar.specs.Forms.{Forms, AreFormsOf}
use Rattle.fort_grammar.specs.Declarations.{as_list}
use Rattle.fort_certificate_theory.specs.Certificates.{Step, Closure, Part, Merge, Counts, Value}
use Rattle.fort_certificate_theory.specs.CertificateForms.{Version, IsVersionOf}
use Rattle.fort_certificate_theory.specs.CertificateText.{CanBeWritten, IsSmall, IsSmallPair, IsSmallCount}
use Rattle.fort_certificate_theory.specs.CertificateAgain.{IsReadAgain}

-- an LF stands between them; behind a problem of any number of systems of which this is a version
abbrev pub IsReadBehind : Version → Bool → List Step → List ℕ → Type 0
IsReadBehind version verdict steps text =
    (number : ℕ) → IsVersionOf number version → AllByRecursion (CanBeWritten version) steps → (front : List ℕ) → (forms : Forms)
    → AreFormsOf front forms
    → IsReadAgain (front ++ 10 ∷ text) number forms (record { first = length (as_list forms); verdict = verdict; steps = steps })

-- each number of a step can be written
abbrev pub HasSmallNumbers : Step → Type 0
HasSmallNumbers (Closure which index pairs) = IsSmall index × AllByRecursion IsSmallPair pairs
HasSmallNumbers (Part k targets) = IsSmall k × AllByRecursion IsSmall targets
HasSmallNumbers (Merge k classes) = IsSmall k × AllByRecursion IsSmall classes
HasSmallNumbers (Counts k counts) = IsSmall k × AllByRecursion IsSmallCount counts
HasSmallNumbers (Value k value) = IsSmall k
