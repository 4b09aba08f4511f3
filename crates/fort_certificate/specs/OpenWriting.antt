-- To believe: when a text is that of a certificate of an open formula; its numbers are small, and behind any text without fault it is that certificate again.
use Rattle.std.specs.Prelude.{◌≡◌, ℕ, List, ◌∷◌, ◌++◌, length}
use Rattle.std.specs.List.{AllByRecursion}
use Rattle.fort_grammar.specs.Forms.{Forms, AreFormsOf}
use Rattle.fort_grammar.specs.Declarations.{as_list}
use Rattle.fort_tables.specs.Entries.{Entry}
use Rattle.fort_certificate_theory.specs.Certificates.{Step}
use Rattle.fort_certificate_theory.specs.OpenAgain.{IsOpenReadAgain}
use Rattle.fort_certificate_theory.specs.OpenCertificates.{Claim}
use Rattle.fort_certificate_theory.specs.OpenText.{open_text, CanNodeBeWritten}
use Rattle.fort_certificate.specs.Again.{HasSmallNumbers}

-- an LF stands between them
abbrev pub IsOpenReadBehind : Claim → List Step → List Entry → List ℕ → Type 0
IsOpenReadBehind claim steps nodes text =
    (front : List ℕ) → (forms : Forms) → AreFormsOf front forms
    → IsOpenReadAgain (front ++ 10 ∷ text) forms
    (record { first = length (as_list forms); claim = claim; steps = steps; nodes = nodes })

pub record IsTextFor (claim : Claim) (steps : List Step) (nodes : List Entry) (text : List ℕ) : Type 0 where
  pub is : text ≡ open_text claim steps nodes
  pub small_steps : AllByRecursion HasSmallNumbers steps
  pub small_nodes : AllByRecursion CanNodeBeWritten nodes
  pub again : IsOpenReadBehind claim steps nodes text
