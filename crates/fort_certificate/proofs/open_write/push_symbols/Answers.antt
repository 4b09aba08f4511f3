use Rattle.std.proofs.Common.{◌++◌, map, length, None, ap, subst, ◌∙◌, arith}
use Rattle.std.specs.List.{AllByRecursion}
use Rattle.std.proofs.lemmas.List.{take_all}
use Rattle.std.proofs.lemmas.Option.{slice_get_within, get_or_from_slice_get}
use Rattle.fort_certificate_theory.specs.CertificateText.{spaced}
use Rattle.fort_certificate_theory.specs.OpenText.{symbol_word, IsSmallSymbol}
use Rattle.fort_tuple_symbols.specs.Columns.{as_column}
use Rattle.fort_certificate.specs.Lines.{gap}
use Rattle.fort_certificate.proofs.SmallLaws.{all_small_more}
use Rattle.fort_certificate.proofs.LineLaws.{symbols_more}
use Rattle.fort_certificate.proofs.open_write.push_symbols.Goals as goal

pub loop-column-preserved : goal.loop-column-preserved
loop-column-preserved c =
    let i = c.loop-column.invariant in
    let symbol = c.args.row.now.symbol in
    let k = c.loop-column.column in
    let x = as_column c.symbol.result in
    let here = c.symbol.ensures in
    record {
      text = c.in_ok-push_symbol.ensures.text
          ∙ (ap (λ xs. xs ++ symbol_word x) (c.in_ok-push_gap.ensures ∙ ap (λ xs. xs ++ gap k) i.text)
          ∙ symbols_more c.args.out.now.items symbol k None x (slice_get_within symbol k x here) (get_or_from_slice_get symbol k x None here));
      small = all_small_more IsSmallSymbol symbol k x here i.small c.in_ok-push_symbol.ensures.small;
    }

pub returns-clause-text : goal.returns-clause-text
returns-clause-text c =
    let symbol = c.args.row.now.symbol in
    let long = ap (λ s. length s) c.sym.ensures in
    c.loop-column.invariant.text
    ∙ ap (λ s. c.args.out.now.items ++ spaced (map symbol_word s))
    (take_all c.loop-column.column symbol (omega (arith, c.loop-column-test.false, c.len-columns.ensures.count, long)))

pub returns-clause-small : goal.returns-clause-small
returns-clause-small c =
    let symbol = c.args.row.now.symbol in
    let long = ap (λ s. length s) c.sym.ensures in
    subst (AllByRecursion IsSmallSymbol)
    (take_all c.loop-column.column symbol (omega (arith, c.loop-column-test.false, c.len-columns.ensures.count, long))) c.loop-column.invariant.small
