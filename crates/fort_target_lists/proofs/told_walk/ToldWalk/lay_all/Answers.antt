use Rattle.std.proofs.Common.{sym, ◌∙◌, arith}
use Rattle.fort_tuple_symbols.proofs.SymbolNumberLaws.{columns_first, columns_next}
use Rattle.fort_target_lists.specs.Places.{IsNumbered}
use Rattle.fort_target_lists.proofs.told_walk.ToldWalk.lay_all.Goals as goal

pub loop-init : goal.loop-init
loop-init g c =
    let walk = c.args.self.now in
    let goes = c.requires.told.1 in
    record {
      symbol = c.absent-symbol.ensures ∙ sym (columns_first walk.base walk.columns (omega (arith, goes.base)));
      tells = λ body t. t;
      laid_are = λ body t h. h;
    }

pub loop-preserved : goal.loop-preserved
loop-preserved g c =
    let v = c.loop.invariant in
    let walk = c.args.self.now in
    let n = c.loop.counter in
    let numbered : IsNumbered walk.base walk.columns n c.loop.symbol = record { low = omega (arith, c.loop-test.true, c.requires.count); is = v.symbol } in
    record {
      symbol = columns_next walk.base walk.columns n c.loop.symbol c.to_next.new.self v.symbol c.to_next.ensures.next;
      tells = λ body t. c.in_ok-lay_symbol.ensures.tells body (v.tells body t);
      laid_are = λ body t h. c.in_ok-lay_symbol.ensures.laid n body numbered (v.tells body t) (v.laid_are body t h);
    }
