use Rattle.std.proofs.Common.{◌≡◌, ◌+◌, ℕ, List, length, ap, sym, subst, ◌∙◌, arith}
use Rattle.fort_tuple_symbols.specs.SymbolNumbers.{columns_at}
use Rattle.fort_tuple_symbols.proofs.SymbolNumberLaws.{columns_first, columns_next, length-columns_at}
use Rattle.fort_class_targets.specs.NumberedViews.{HasPlaces}
use Rattle.fort_class_targets.proofs.view_numbers.ViewNumbers.of_all.Goals as goal

pub symbols-init : goal.symbols-init
symbols-init g c =
    let view = g.K.LabelKeys.view c.args.keys.now in
    let sig = c.args.sig.now in
    let n = c.args.columns in
    let base = length sig + 1 in
    record {
      symbol = c.absent-symbol.ensures ∙ sym (columns_first base n (omega arith));
      placed = subst (λ (ss : List ℕ). HasPlaces view sig n 0 c.args.views.now ss c.new.result.items) (sym c.in_ok-with_capacity.ensures.items) (subst (λ (ns : List ℕ). HasPlaces view sig n 0 c.args.views.now _ ns) (sym c.new.ensures.items) c.requires.none);
    }

pub add_symbol-requires : goal.add_symbol-requires
add_symbol-requires g c =
    let view = g.K.LabelKeys.view c.args.keys.now in
    let sig = c.args.sig.now in
    let n = c.args.columns in
    let base = length sig + 1 in
    let at = c.symbols in
    let inv = at.invariant in
    let width : n ≡ length at.symbol = sym (ap length inv.symbol ∙ length-columns_at base n at.counter) in
    record {
      placed = (
        at.counter,
        subst (λ (k : ℕ). HasPlaces view sig k at.counter at.views at.made.starts.items at.made.numbers.items) width inv.placed,
        inv.symbol ∙ ap (λ k. columns_at base k at.counter) width,
        omega (arith, c.requires.few, c.symbols-test.true),
      );
    }

pub symbols-preserved : goal.symbols-preserved
symbols-preserved g c =
    let view = g.K.LabelKeys.view c.args.keys.now in
    let sig = c.args.sig.now in
    let n = c.args.columns in
    let base = length sig + 1 in
    let at = c.symbols in
    let inv = at.invariant in
    let width : n ≡ length at.symbol = sym (ap length inv.symbol ∙ length-columns_at base n at.counter) in
    let made = c.in_ok-add_symbol.ensures at.counter (subst (λ (k : ℕ). HasPlaces view sig k at.counter at.views at.made.starts.items at.made.numbers.items) width inv.placed) (inv.symbol ∙ ap (λ k. columns_at base k at.counter) width) in
    let next = subst (λ (b : ℕ). (k : ℕ) → at.symbol ≡ columns_at (b + 1) (length at.symbol) k → c.to_next.new.self ≡ columns_at (b + 1) (length at.symbol) (k + 1)) c.len-base.ensures.count c.to_next.ensures.next in
    record {
      symbol = columns_next base n at.counter at.symbol c.to_next.new.self inv.symbol next;
      placed = subst (λ (k : ℕ). HasPlaces view sig k (at.counter + 1) c.add_symbol.new.views c.add_symbol.new.self.starts.items c.add_symbol.new.self.numbers.items) (sym width) made;
    }
