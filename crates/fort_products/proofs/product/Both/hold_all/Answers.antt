use Rattle.std.proofs.Common.{length, ap, sym, ◌∙◌, arith}
use Rattle.fort_tuple_symbols.proofs.SymbolNumberLaws.{columns_first, columns_next}
use Rattle.fort_target_lists.specs.Places.{IsNumbered}
use Rattle.fort_products.proofs.product.Both.hold_all.Goals as goal

pub absent-symbol-requires : goal.absent-symbol-requires
absent-symbol-requires g c = let b = c.requires.between.2 in omega (arith, b.goes.columns_are, b.goes.listed.narrow)

pub loop-init : goal.loop-init
loop-init g c =
    let walk = c.args.holding.now.walk in
    let b = c.requires.between.2 in
    record {
      numbered = c.absent-symbol.ensures ∙ sym (columns_first walk.base walk.columns (omega (arith, b.goes.base)));
      between = λ t begins h. h;
    }

pub hold_symbol-requires : goal.hold_symbol-requires
hold_symbol-requires g c =
    let r = c.requires.between in
    let v = c.loop.invariant in
    record { between = (c.loop.counter, r.0, r.1, record { low = omega (arith, c.loop-test.true, c.requires.count); is = v.numbered }, v.between r.0 r.1 r.2) }

pub to_next-requires : goal.to_next-requires
to_next-requires g c =
    let b = c.requires.between.2 in
    record {
      some = omega (arith, b.goes.base);
      few = omega (arith, b.goes.base, ap length b.goes.signature, c.len-symbols.ensures.count, c.len-symbols.ensures.lawful.few);
    }

pub loop-preserved : goal.loop-preserved
loop-preserved g c =
    let v = c.loop.invariant in
    let walk = c.args.holding.now.walk in
    let n = c.loop.counter in
    let numbered : IsNumbered walk.base walk.columns n c.loop.symbol = record { low = omega (arith, c.loop-test.true, c.requires.count); is = v.numbered } in
    record {
      numbered = columns_next walk.base walk.columns n c.loop.symbol c.to_next.new.self v.numbered c.to_next.ensures.next;
      between = λ t begins b. c.hold_symbol.ensures n t begins numbered (v.between t begins b) c.if-not-hold_symbol.false;
    }
