use Rattle.std.proofs.Common.{◌≡◌, suc, ◌-◌, ◌^◌, ◌<◌, min, length, ap, sym, ◌∙◌, arith, subst}
use Rattle.fort_tables.specs.Tuples.{TupleSymbol, AreSymbols}
use Rattle.fort_tables.specs.Laid.{entries_under}
use Rattle.fort_tuple_symbols.specs.SymbolNumbers.{columns_at}
use Rattle.fort_tuple_symbols.proofs.SymbolNumberLaws.{columns_first, columns_next, length-columns_at}
use Rattle.fort_target_lists.proofs.SymbolNumbers.{symbols_at}
use Rattle.fort_target_lists.proofs.SymbolPlaces.{entries_all}
use Rattle.fort_target_lists.proofs.EntryCounts.{table_with, entries_sum}
use Rattle.fort_target_lists.proofs.entry_count.count_entries.Goals as goal

pub loop-init : goal.loop-init
loop-init c = record {
  symbol = c.absent-symbol.ensures ∙ sym (columns_first c.args.base c.args.columns (omega (arith, c.requires.base)));
  sum = λ ps h. omega arith;
}

pub symbol_entries-requires : goal.symbol_entries-requires
symbol_entries-requires c =
    let sig = c.args.signature.now in
    let is = c.loop.invariant.symbol in
    record {
      symbols = subst (AreSymbols sig) (sym is) (symbols_at sig c.args.base c.args.columns c.loop.counter c.requires.base);
      size = omega (arith, ap (λ n. 2 ^ n) (ap length is ∙ length-columns_at c.args.base c.args.columns c.loop.counter), c.requires.size);
    }

pub loop-preserved : goal.loop-preserved
loop-preserved c =
    let sig = c.args.signature.now in
    let columns = c.args.columns in
    let v = c.loop.invariant in
    let low : c.loop.counter < suc (length sig) ^ columns = omega (arith, c.loop-test.true, c.requires.count, ap (λ b. b ^ columns) c.requires.base) in
    let here : c.loop.symbol ≡ columns_at (suc (length sig)) columns c.loop.counter = v.symbol ∙ ap (λ b. columns_at b columns c.loop.counter) c.requires.base in
    record {
      symbol = columns_next c.args.base columns c.loop.counter c.loop.symbol c.to_next.new.self v.symbol c.to_next.ensures.next;
      sum = λ ps h.
          let own = c.symbol_entries.ensures ps h ∙ ap (λ (f : TupleSymbol). min (length (entries_under sig ps f)) (2 ^ 64 - 1)) here in
          omega (arith, own, v.sum ps h, c.saturating_add-sum.ensures, entries_sum sig columns ps c.loop.counter low);
    }

pub returns : goal.returns
returns c = λ ps h.
    let t = table_with c.args.signature.now c.args.columns ps in
    let all : c.loop.counter ≡ suc (length c.args.signature.now) ^ c.args.columns = omega (arith, c.loop-test.false, c.loop.auto.counter-end, c.requires.count, ap (λ b. b ^ c.args.columns) c.requires.base) in
    c.loop.invariant.sum ps h ∙ ap (λ n. min n (2 ^ 64 - 1)) (ap length (entries_all t c.loop.counter all))
