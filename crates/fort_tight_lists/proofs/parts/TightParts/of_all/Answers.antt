use Rattle.std.proofs.Common.{◌≡◌, ◌+◌, ◌^◌, ◌<◌, ℕ, length, ap, sym, subst, ◌∙◌, arith}
use Rattle.fort_tables.specs.Tuples.{TupleSymbol, IsPresent, symbol_kids}
use Rattle.fort_tuple_symbols.specs.SymbolNumbers.{columns_at}
use Rattle.fort_tuple_symbols.proofs.SymbolNumberLaws.{columns_first, columns_next, length-columns_at}
use Rattle.fort_target_lists.specs.Places.{number_of}
use Rattle.fort_tight_lists.specs.TightSymbols.{symbol_at, IsReadable, HasTightSymbols}
use Rattle.fort_tight_lists.proofs.TightSymbolLaws.{symbols_none}
use Rattle.fort_tight_lists.proofs.parts.TightParts.of_all.Goals as goal

pub symbols-init : goal.symbols-init
symbols-init c = record {
  symbol = c.absent-symbol.ensures ∙ sym (columns_first (length c.args.sig.now + 1) c.args.columns (omega arith));
  made_to = symbols_none c.args.sig.now c.args.columns c.args.list.now _ c.new.ensures.keys c.new.ensures.views c.in_ok-with_capacity.ensures.items c.new-3.ensures;
}

pub add_symbol-requires-clause-placed : goal.add_symbol-requires-clause-placed
add_symbol-requires-clause-placed c =
    let sig = c.args.sig.now in
    let n = c.args.columns in
    let base = length sig + 1 in
    let at = c.symbols in
    let inv = at.invariant in
    let width : n ≡ length at.symbol = sym (ap length inv.symbol ∙ length-columns_at base n at.counter) in (
      at.counter,
      subst (λ (k : ℕ). HasTightSymbols sig k at.counter c.args.list.now at.made) width inv.made_to,
      inv.symbol ∙ ap (λ k. symbol_at sig k at.counter) width,
      omega (arith, c.requires.few, c.symbols-test.true),
    )

pub add_symbol-requires-clause-small : goal.add_symbol-requires-clause-small
add_symbol-requires-clause-small c =
    let at = c.symbols in
    let width : length at.symbol ≡ c.args.columns = ap length at.invariant.symbol ∙ length-columns_at (length c.args.sig.now + 1) c.args.columns at.counter in
    subst (λ (k : ℕ). c.args.list.now.base ^ k < 2 ^ 64) (sym width) c.requires.readable.small

pub add_symbol-requires-clause-readable : goal.add_symbol-requires-clause-readable
add_symbol-requires-clause-readable c = λ present.
    let sig = c.args.sig.now in
    let l = c.args.list.now in
    let at = c.symbols in
    let is = at.invariant.symbol in
    subst (λ (g : TupleSymbol). IsReadable l (number_of l.base g) (symbol_kids sig g)) (sym is) (c.requires.readable.symbols at.counter (omega arith) (subst (λ (g : TupleSymbol). IsPresent g) is present))

pub symbols-preserved : goal.symbols-preserved
symbols-preserved c =
    let sig = c.args.sig.now in
    let n = c.args.columns in
    let base = length sig + 1 in
    let at = c.symbols in
    let inv = at.invariant in
    let width : n ≡ length at.symbol = sym (ap length inv.symbol ∙ length-columns_at base n at.counter) in
    let made = c.in_ok-add_symbol.ensures at.counter (subst (λ (k : ℕ). HasTightSymbols sig k at.counter c.args.list.now at.made) width inv.made_to) (inv.symbol ∙ ap (λ k. symbol_at sig k at.counter) width) in
    let next = subst (λ (b : ℕ). (k : ℕ) → at.symbol ≡ columns_at (b + 1) (length at.symbol) k → c.to_next.new.self ≡ columns_at (b + 1) (length at.symbol) (k + 1)) c.len-base.ensures.count c.to_next.ensures.next in
    record {
      symbol = columns_next base n at.counter at.symbol c.to_next.new.self inv.symbol next;
      made_to = subst (λ (k : ℕ). HasTightSymbols sig k (at.counter + 1) c.args.list.now c.add_symbol.new.self) (sym width) made;
    }
