use Rattle.std.proofs.Common.{sym, take, map, ap, ◌∙◌}
use Rattle.fort_tables.specs.Tuples.{TupleSymbol}
use Rattle.fort_tuple_symbols.specs.Columns.{digit_of, digits_again}
use Rattle.fort_tuple_symbols.proofs.Bounds.{bound-take}
use Rattle.fort_tuple_symbols.proofs.symbol.TupleSym.digits.Goals as goal

pub returns : goal.returns
returns c =
    let a = c.self.inside in
    record {
      digits = sym (digits_again (take a.len a.digits)) ∙ ap (λ (f : TupleSymbol). map digit_of f) c.self.view_is;
      small = bound-take 65536 a.len a.digits c.self.invariant.small;
    }
