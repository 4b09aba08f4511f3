use Rattle.std.proofs.Common.{◌≡◌, length}
use Rattle.fort_tables.specs.Tuples.{TupleSymbol}
use Rattle.fort_certificate.proofs.NodeLaws.{AreColumnsTo}
use Rattle.fort_certificate.proofs.node.check_tuple_symbol.Given as goal

abbrev pub invariant-columns : goal.invariant-columns
invariant-columns l =
    ((symbol : TupleSymbol) × AreColumnsTo l.form.bytes l.form.form l.rest.forms symbol) × (l.rest.bytes ≡ l.form.bytes)

abbrev pub decreases-columns : goal.decreases-columns
decreases-columns l = length l.rest.forms
