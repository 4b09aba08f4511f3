use Rattle.std.proofs.Common.{◌∙◌, sym, arith}
use Rattle.fort_tables.proofs.TupleLaws.{arity_from_get}
use Rattle.fort_target_lists.proofs.ColumnLaws.{symbol_within, kids_some, kids_none, kids_next, arity_small}
use Rattle.fort_target_lists.proofs.columns.kid_count.Goals as goal
use Rattle.fort_target_lists.proofs.columns.kid_count.Goals.{in-Some+then-count-arity, in-Some+else-count-arity, in_default}

pub arity-arity-requires : goal.arity-arity-requires
arity-arity-requires c = symbol_within c.args.sig.now c.args.sym.now c.loop-k.k c.in-Some.symbol.0 c.requires c.in-Some.ensures

pub loop-k-preserved : goal.loop-k-preserved
loop-k-preserved c =
    let sig = c.args.sig.now in
    let f = c.args.sym.now in
    let k = c.loop-k.k in
    elim c.match-symbol.branch [
      | in-Some+then-count-arity w ↦ (let g = w.in-Some.symbol.0 in
          let a = (arity_from_get sig g w.arity-arity.result w.arity-arity.ensures).0 in
          let s = arity_small sig g c.len-symbols.ensures.lawful (symbol_within sig f k g c.requires w.in-Some.ensures) in
          record {
            count = omega (arith, w.count-is, w.if-count-arity.true, a, c.loop-k.invariant.count, kids_some sig f k g w.in-Some.ensures, kids_next sig f k);
            few = omega (arith, w.count-is, a, s);
          })
      | in-Some+else-count-arity w ↦ (let g = w.in-Some.symbol.0 in
          let a = (arity_from_get sig g w.arity-arity.result w.arity-arity.ensures).0 in
          record {
            count = omega (arith, w.count-is, w.if-count-arity.false, a, c.loop-k.invariant.count, kids_some sig f k g w.in-Some.ensures, kids_next sig f k);
            few = omega (arith, w.count-is, c.loop-k.invariant.few);
          })
      | in_default w ↦ record {
        count = w.count-is ∙ (c.loop-k.invariant.count ∙ (sym (kids_none sig f k w.in_default.ensures) ∙ sym (kids_next sig f k)));
        few = omega (arith, w.count-is, c.loop-k.invariant.few);
      }
    ]
