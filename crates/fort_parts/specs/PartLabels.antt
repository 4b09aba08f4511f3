-- To believe: labels tell a likeness at a formula where two tuples have one label exactly where they are alike; a table does where they have one state.
use Rattle.std.specs.Prelude.{◌≡◌, ◌↔◌, length}
use Rattle.fort_theory.specs.Patterns.{PatternSystem}
use Rattle.fort_theory.specs.Cores.{Core}
use Rattle.fort_tables.specs.Tuples.{Tuple, IsTuple}
use Rattle.fort_tables.specs.Labels.{Labelling}
use Rattle.fort_tables.specs.Agreement.{Agreement, TellsAgreement}
use Rattle.fort_parts.specs.PartColumns.{columns_of}
use Rattle.fort_parts.specs.AlikeParts.{AlikeAt}
use Rattle.fort_parts.specs.PartAnswers.{Answer, OfValue, OfTable}

-- for any notion of likeness
abbrev pub LabelsTell : PatternSystem → Core → Agreement → Labelling → Type 0
LabelsTell system f like label =
    (t u : Tuple) → IsTuple system.signature (length (columns_of f)) t → IsTuple system.signature (length (columns_of f)) u
    → (label t ≡ label u) ↔ like t u

abbrev pub Tells : Agreement → Answer → Type 0
Tells like (OfValue b) = Unit {0}
Tells like (OfTable table) = TellsAgreement table like

abbrev pub LabelsTellAlike : PatternSystem → Core → Labelling → Type 0
LabelsTellAlike system f label = LabelsTell system f (AlikeAt system f) label
