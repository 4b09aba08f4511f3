use Rattle.std.proofs.Common.{◌≡◌, ◌+◌, ◌-◌, ◌^◌, ◌<◌, suc, [], ◌∷◌, drop, length, get_or, None, ap, sym, ◌∙◌, arith}
use Rattle.std.proofs.Math.Nat.{pow-suc}
use Rattle.std.proofs.lemmas.Option.{get_or_from_slice_get}
use Rattle.fort_tables.specs.Tuples.{kid_presence}
use Rattle.fort_tuple_symbols.specs.Columns.{as_column}
use Rattle.fort_target_lists.proofs.ColumnLaws.{kid_presence_at, kid_presence_one, column_within}
use Rattle.fort_target_lists.proofs.columns.kid_presence.Goals as goal

pub has_kid-requires : goal.has_kid-requires
has_kid-requires c = column_within c.args.sig.now c.args.sym.now (c.len.result - 1 - c.loop-k.k) c.symbol.result c.requires c.symbol.ensures

pub loop-k-preserved : goal.loop-k-preserved
loop-k-preserved c =
    let sig = c.args.sig.now in
    let f = c.args.sym.now in
    let j = c.args.j in
    let k = c.loop-k.k in
    let v = c.loop-k.invariant in
    let i = length f - (k + 1) in
    let low : k < length f = omega (arith, c.loop-k-test.true, c.len-k-end.ensures.count) in
    let at : c.len.result - 1 - k ≡ i = omega (arith, c.len.ensures.count) in
    let next : suc i ≡ length f - k = omega (arith, low) in
    let column : as_column c.symbol.result ≡ get_or f i None = sym (get_or_from_slice_get f (c.len.result - 1 - k) (as_column c.symbol.result) None c.symbol.ensures) ∙ ap (λ z. get_or f z None) at in
    let one = c.has_kid.ensures ∙ ap (λ x. kid_presence sig (x ∷ []) j) column in
    let split = kid_presence_at sig f i j (omega (arith, low)) in
    let rest = ap (λ n. kid_presence sig (drop n f) j) next in
    let s : suc k ≡ k + 1 = omega arith in
    record {
      presence = omega (arith, v.presence, one, split, rest);
      small = omega (arith, v.small, one, kid_presence_one sig (get_or f i None) j, pow-suc 2 k, ap (λ n. 2 ^ n) s);
    }
