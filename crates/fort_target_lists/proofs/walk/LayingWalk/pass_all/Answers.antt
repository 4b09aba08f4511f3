use Rattle.std.proofs.Common.{length, ap, refl, sym, ◌∙◌, arith}
use Rattle.fort_tuple_symbols.proofs.SymbolNumberLaws.{columns_first, columns_next}
use Rattle.fort_target_lists.specs.Places.{IsNumbered}
use Rattle.fort_target_lists.proofs.walk.LayingWalk.pass_all.Goals as goal

pub absent-symbol-requires : goal.absent-symbol-requires
absent-symbol-requires c = let h = c.requires.between.2 in omega (arith, h.goes.columns_are, h.goes.listed.narrow)

pub loop-init : goal.loop-init
loop-init c =
    let walk = c.args.self.now in
    let h = c.requires.between.2 in
    record {
      symbol = c.absent-symbol.ensures ∙ sym (columns_first walk.base walk.columns (omega (arith, h.goes.base)));
      between = λ t begins h. h;
      starts = refl;
      room = refl;
    }

pub pass_symbol-requires : goal.pass_symbol-requires
pass_symbol-requires c =
    let v = c.loop.invariant in
    let r = c.requires.between in
    let there = v.between r.0 r.1 r.2 in
    record {
      between = (c.loop.counter, r.0, r.1, record { low = omega (arith, c.loop-test.true, c.requires.count); is = v.symbol }, there);
      starts = λ b. omega (arith, c.requires.starts b, v.starts, (there.laid_are b).count, c.loop-test.true);
      room = λ b. omega (arith, c.requires.room b, v.room);
    }

pub to_next-requires : goal.to_next-requires
to_next-requires c =
    let h = c.requires.between.2 in
    record {
      some = omega (arith, h.goes.base);
      few = omega (arith, h.goes.base, ap length h.goes.signature, c.len-symbols.ensures.count, c.len-symbols.ensures.lawful.few);
    }

pub loop-preserved : goal.loop-preserved
loop-preserved c =
    let v = c.loop.invariant in
    let walk = c.args.self.now in
    let n = c.loop.counter in
    let numbered : IsNumbered walk.base walk.columns n c.loop.symbol = record { low = omega (arith, c.loop-test.true, c.requires.count); is = v.symbol } in
    record {
      symbol = columns_next walk.base walk.columns n c.loop.symbol c.to_next.new.self v.symbol c.to_next.ensures.next;
      between = λ t begins h. c.pass_symbol.ensures.between n t begins numbered (v.between t begins h);
      starts = c.pass_symbol.ensures.starts ∙ v.starts;
      room = c.pass_symbol.ensures.room ∙ v.room;
    }
