use Rattle.std.proofs.Common.{◌≡◌, ℕ, ◌+◌, length, replicate, None, refl, ap, sym, ◌∙◌, subst, arith}
use Rattle.fort_tables.specs.Tuples.{AreSymbols}
use Rattle.fort_tables.specs.Tables.{listed_table}
use Rattle.fort_tuple_symbols.specs.SymbolNumbers.{columns_at}
use Rattle.fort_tuple_symbols.proofs.SymbolNumberLaws.{columns_first, columns_next, length-columns_at}
use Rattle.fort_target_lists.specs.Flats.{base_of}
use Rattle.fort_target_lists.proofs.SymbolNumbers.{symbols_at}
use Rattle.fort_classed_tables.specs.MakingViews.{AreLedTo}
use Rattle.fort_classed_tables.proofs.ViewLaws.{led_first}
use Rattle.fort_classed_tables.proofs.place_views.views_of.Goals as goal

pub symbols-init : goal.symbols-init
symbols-init c =
    let t = listed_table c.args.counted.now.table.now in
    let made = c.in_ok-views.ensures in
    record {
      symbol = c.absent-symbol.ensures ∙ (ap (λ n. replicate n None) c.columns-columns.ensures.count ∙ sym (columns_first (base_of t) t.columns (omega arith)));
      led = led_first t c.in_ok-views.views made.views made.starts made.numbers;
    }

pub add_symbol-requires-clause-symbols : goal.add_symbol-requires-clause-symbols
add_symbol-requires-clause-symbols c =
    let t = listed_table c.args.counted.now.table.now in
    subst (AreSymbols t.signature) (sym c.symbols.invariant.symbol) (symbols_at t.signature (base_of t) t.columns c.symbols.counter refl)

pub add_symbol-requires-clause-width : goal.add_symbol-requires-clause-width
add_symbol-requires-clause-width c =
    let t = listed_table c.args.counted.now.table.now in
    ap length c.symbols.invariant.symbol ∙ length-columns_at (base_of t) t.columns c.symbols.counter

pub symbols-preserved : goal.symbols-preserved
symbols-preserved c =
    let t = listed_table c.args.counted.now.table.now in
    let f = c.symbols.symbol in
    let n = c.symbols.counter in
    let v = c.symbols.invariant in
    let base : c.len-base.result + 1 ≡ base_of t = omega (arith, c.len-base.ensures.count, ap length c.signature.ensures) in
    record {
      symbol = columns_next (base_of t) t.columns n f c.to_next.new.self v.symbol
          (subst (λ k. (m : ℕ) → f ≡ columns_at k (length f) m → c.to_next.new.self ≡ columns_at k (length f) (m + 1)) base c.to_next.ensures.next);
      led = c.in_ok-add_symbol.ensures.led n v.symbol v.led;
    }

pub returns : goal.returns
returns c =
    let t = listed_table c.args.counted.now.table.now in
    let starts = c.args.counted.now.flat.now.listing.starts in
    let all : c.symbols.counter ≡ length starts.items = omega (arith, c.symbols-test.false, c.symbols.auto.counter-end, c.len-end.ensures, starts.ok.0) in
    record { led = subst (λ n. AreLedTo t n c.symbols.views) all c.symbols.invariant.led }
