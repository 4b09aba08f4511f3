use Rattle.std.proofs.Common.{◌≡◌, ◌++◌, map, take}
use Rattle.std.specs.List.{AllByRecursion}
use Rattle.fort_certificate_theory.specs.CertificateText.{spaced}
use Rattle.fort_certificate_theory.specs.OpenText.{symbol_word, IsSmallSymbol}
use Rattle.fort_certificate.proofs.open_write.push_symbols.Given as goal

abbrev pub invariant-loop-column : goal.invariant-loop-column
invariant-loop-column l = record {
  text : l.out.items ≡ l.fn.out.items ++ spaced (map symbol_word (take l.column l.row.symbol));
  small : AllByRecursion IsSmallSymbol (take l.column l.row.symbol);
}
