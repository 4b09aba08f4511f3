-- To believe: the text that is written for a certificate of an open formula: each form on a line that LF ends, single blanks between elements.
use Rattle.std.specs.Prelude.{ℕ, List, [], ◌∷◌, ◌++◌, map, Option, None, Some, codes, decimal}
use Rattle.std.specs.List.{AllByRecursion}
use Rattle.fort_tables.specs.Entries.{Entry}
use Rattle.fort_certificate_theory.specs.Certificates.{Step}
use Rattle.fort_certificate_theory.specs.CertificateText.{Element, Word, Group, line_of, number_element, steps_text, IsSmall}
use Rattle.fort_certificate_theory.specs.OpenCertificates.{Claim}
use Rattle.fort_certificate_theory.specs.OpenForms.{claim_word, open_version_word, step_version, absent_word, node_word}

abbrev pub symbol_word : Option ℕ → List ℕ
symbol_word None = absent_word
symbol_word (Some g) = decimal g

abbrev pub node_elements : Entry → List Element
node_elements node = Word node_word ∷ Group (map symbol_word node.symbol) ∷ map number_element node.kids

abbrev pub open_header_elements : Claim → List Element
open_header_elements claim = Word (codes "certificate") ∷ Word open_version_word ∷ Word (claim_word claim) ∷ []

abbrev pub nodes_text : List Entry → List ℕ
nodes_text [] = []
nodes_text (n ∷ ns) = line_of (node_elements n) ++ nodes_text ns

abbrev pub open_text : Claim → List Step → List Entry → List ℕ
open_text claim steps nodes = line_of (open_header_elements claim) ++ (steps_text step_version steps ++ nodes_text nodes)

abbrev pub IsSmallSymbol : Option ℕ → Type 0
IsSmallSymbol None = Unit {0}
IsSmallSymbol (Some g) = IsSmall g

-- the numbers of a node can be written
abbrev pub CanNodeBeWritten : Entry → Type 0
CanNodeBeWritten node = AllByRecursion IsSmallSymbol node.symbol × AllByRecursion IsSmall node.kids
