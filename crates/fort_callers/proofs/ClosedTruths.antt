-- A closed formula is answered by a truth, and not by a table.
use Rattle.std.proofs.Common.{get_or}
use Rattle.std.proofs.lemmas.List.Elements.{Contains-get_or}
use Rattle.fort_theory.specs.Patterns.{PatternSystem}
use Rattle.fort_theory.specs.Cores.{Core}
use Rattle.fort_theory.specs.Parts.{IsClosed}
use Rattle.fort_theory.specs.PatternStructures.{pattern_structure}
use Rattle.fort_tables.specs.Tables.{Table}
use Rattle.fort_parts.specs.PartAnswers.{OfTable, IsAnswerTo}
use Rattle.fort_parts.specs.PartColumns.{columns_of}
use Rattle.fort_parts.proofs.PartColumnLaws.{is_free-from_column}

pub no_table : (system : PatternSystem) (f : Core) (table : Table) → IsClosed f → IsAnswerTo (pattern_structure system) f (OfTable table) → ⊥
no_table system f table closed answer =
    let first = get_or (columns_of f) 0 0 in
    closed first (is_free-from_column f first (Contains-get_or (columns_of f) 0 0 answer.over.some))
