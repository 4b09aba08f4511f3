-- Inside: that forms are nodes, and which is the first that is none.
use Rattle.std.specs.Prelude.{ℕ, List}
use Rattle.std.specs.List.{AllZip}
use Rattle.fort_grammar.specs.Forms.{Form}
use Rattle.fort_tables.specs.Tuples.{TupleSymbol}
use Rattle.fort_tables.specs.Entries.{Entry}
use Rattle.fort_certificate_theory.specs.CertificateFaults.{CertificateFault}
use Rattle.fort_certificate_theory.specs.OpenForms.{IsTupleSymbolForm, IsNodeForm}
use Rattle.fort_certificate_theory.specs.OpenFaults.{IsBadNode}
use Rattle.fort_certificate.specs.Checking.{HasFirstBad}

abbrev pub IsSomeTupleSymbol : List ℕ → Form → Type 0
IsSomeTupleSymbol bytes f = (symbol : TupleSymbol) × IsTupleSymbolForm bytes f symbol

abbrev pub IsSomeNode : List ℕ → Form → Type 0
IsSomeNode bytes f = (node : Entry) × IsNodeForm bytes f node

abbrev pub AreSomeNodes : List ℕ → List Form → Type 0
AreSomeNodes bytes fs = (nodes : List Entry) × AllZip (IsNodeForm bytes) fs nodes

-- the fault of the first that is no node; i is the number of the first of the forms
abbrev pub HasBadNode : List ℕ → ℕ → List Form → CertificateFault → Type 0
HasBadNode bytes i fs fault = HasFirstBad (IsNodeForm bytes) (IsBadNode bytes) i fs fault
