use Rattle.std.proofs.Common.{ap, ◌∙◌}
use Rattle.std.proofs.lemmas.List.{take-replicate}
use Rattle.fort_tuple_symbols.specs.Columns.{symbol_of}
use Rattle.fort_tuple_symbols.proofs.Bounds.{symbol_of-zeros}
use Rattle.fort_tuple_symbols.proofs.symbol.TupleSym.absent.Goals as goal

pub returns : goal.returns
returns c = ap symbol_of (take-replicate c.args.columns 16 0 c.requires) ∙ symbol_of-zeros c.args.columns
