use Rattle.std.proofs.Common.{◌≡◌, suc, ◌+◌, ◌-◌, ◌^◌, ◌<◌, min, length, get_or, ap, ◌∙◌, arith, subst}
use Rattle.fort_tables.specs.Tuples.{kid_presence, symbol_kids}
use Rattle.fort_tables.specs.Tables.{listed_table}
use Rattle.fort_tables.specs.StateRanks.{count_of}
use Rattle.fort_target_lists.proofs.PlaceLaws.{room}
use Rattle.fort_target_lists.proofs.LookUpLaws.{symbol_below}
use Rattle.fort_classed_tables.proofs.PlaceTargets.{parts_small}
use Rattle.fort_classed_tables.proofs.counted.Counted.columns.Goals as goal

pub number-requires-clause-small : goal.number-requires-clause-small
number-requires-clause-small c =
    let s = c.args.self.now in
    let flat = c.requires.counted.flat_is in
    omega (arith, symbol_below (listed_table s.table.now) s.flat.now c.args.symbol.now flat c.requires.symbol, flat.few)

pub start-requires : goal.start-requires
start-requires c =
    let s = c.args.self.now in
    let flat = c.requires.counted.flat_is in
    omega (arith, c.number.ensures, symbol_below (listed_table s.table.now) s.flat.now c.args.symbol.now flat c.requires.symbol, flat.starts_all)

pub returns : goal.returns
returns c =
    let s = c.args.self.now in
    let t = listed_table s.table.now in
    let ps = t.presences in
    let f = c.args.symbol.now in
    let w = kid_presence t.signature f in
    let j = c.args.place in
    let targets = s.flat.now.listing.targets in
    let p = c.kid_presence-presence.result in
    let value : p ≡ w j = c.kid_presence-presence.ensures.value ∙ ap (λ sig. kid_presence sig f j) c.signature.ensures in
    let low : p < length s.counts.now = omega (arith, c.kid_presence-presence.ensures.bound, c.requires.counted.size, ap (λ n. 2 ^ n) c.requires.symbol.width) in
    let small = parts_small t s.flat.now f j c.requires.counted.flat_is c.requires.symbol (omega (arith, c.requires.place, c.requires.kids)) (subst (λ n. 0 < room ps w 0 n) c.requires.kids c.requires.some) in
    let next : j + 1 ≡ suc j = omega arith in
    let others : c.args.kids - j - 1 ≡ symbol_kids t.signature f - suc j = omega (arith, c.requires.kids) in
    let behind : c.room-2.result ≡ min (room ps w (suc j) (symbol_kids t.signature f - suc j)) (2 ^ 64 - 1) = c.room-2.ensures ∙ (λ i. min (room ps w (next i) (others i)) (2 ^ 64 - 1)) in
    record {
      targets_are = c.as_slice.ensures.value;
      start_is = c.start.ensures ∙ ap (λ n. get_or s.flat.now.listing.starts.items n 0) c.number.ensures;
      outer_is = omega (arith, c.room.ensures, small.outer, c.len-count.ensures, c.len-count.type_inv, targets.ok.0);
      count_is = c.requires.counted.counts_are p low ∙ ap (λ v. count_of v ps) value;
      inner_is = omega (arith, behind, small.inner, c.len-count.ensures, c.len-count.type_inv, targets.ok.0);
    }
