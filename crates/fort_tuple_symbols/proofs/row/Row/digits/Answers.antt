use Rattle.std.proofs.Common.{sym, take, map, ap, ◌∙◌, arith}
use Rattle.std.proofs.lemmas.List.{length-take-le}
use Rattle.fort_tables.specs.Entries.{Entry}
use Rattle.fort_tuple_symbols.specs.Columns.{digit_of, digits_again}
use Rattle.fort_tuple_symbols.proofs.Bounds.{bound-take}
use Rattle.fort_tuple_symbols.proofs.row.Row.digits.Goals as goal

pub returns : goal.returns
returns c =
    let a = c.self.inside in
    let h = c.self.invariant in
    record {
      digits = sym (digits_again (take a.len a.digits)) ∙ ap (λ (e : Entry). map digit_of e.symbol) c.self.view_is;
      few = omega (arith, h.short, h.size, length-take-le a.len a.digits (omega (arith, h.short, h.size)));
      small = bound-take 65536 a.len a.digits h.small;
    }
