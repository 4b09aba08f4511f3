use Rattle.std.proofs.Common.{◌≡◌, [], refl, ap, sym, ◌∙◌, subst, arith}
use Rattle.fort_tables.specs.Tuples.{IsTupleSymbol, AreSymbols, symbol_kids}
use Rattle.fort_tables.specs.Tables.{listed_table}
use Rattle.fort_tables.proofs.SelectionLaws.{present_from_test}
use Rattle.fort_reduce.specs.Walks.{Kept}
use Rattle.fort_reduce.proofs.WholeLaws.{whole_under_absent, entry_begun}
use Rattle.fort_reduce.proofs.passes.visit_symbol.Goals as goal

pub kid_count-count-requires : goal.kid_count-count-requires
kid_count-count-requires c = subst (λ s. AreSymbols s c.args.targets.now.symbol) (sym c.signature.ensures) c.requires.symbols

pub returns-then-not-is_present-clause-walked : goal.returns-then-not-is_present-clause-walked
returns-then-not-is_present-clause-walked c =
    let t = listed_table c.args.targets.now.table.now in
    Kept refl refl
    (whole_under_absent t c.args.classes.now.of.items c.args.classes.now.leaders.items c.args.targets.now.symbol (symbol_kids t.signature c.args.targets.now.symbol) (sym c.is_present.ensures ∙ c.if-not-is_present.true))

pub visit-requires-clause-entry : goal.visit-requires-clause-entry
visit-requires-clause-entry c =
    let t = listed_table c.args.targets.now.table.now in
    let f = c.args.targets.now.symbol in
    let symbol : IsTupleSymbol t.signature t.columns f = record {
      width = c.requires.width;
      present = present_from_test f (sym c.is_present.ensures ∙ c.if-not-is_present.false);
      symbols = c.requires.symbols;
    } in
    let none : 0 ≡ symbol_kids t.signature f = omega (arith, c.if-count-eq0.true, c.kid_count-count.ensures.count, ap (λ s. symbol_kids s f) c.signature.ensures) in
    entry_begun t f [] symbol none (λ i b. absurd (omega arith))

pub visit_kids-requires-clause-symbol : goal.visit_kids-requires-clause-symbol
visit_kids-requires-clause-symbol c = record {
  width = c.requires.width;
  present = present_from_test c.args.targets.now.symbol (sym c.is_present.ensures ∙ c.if-not-is_present.false);
  symbols = c.requires.symbols;
}
