use Rattle.std.proofs.Common.{◌≡◌, ℕ, ◌+◌, ◌<◌, ◌^◌, List, set, replicate, length, get_or, ap, sym, ◌∙◌, arith, subst}
use Rattle.std.proofs.lemmas.List.{get_or_default, get_or-replicate, length-replicate, length-set}
use Rattle.fort_tables.specs.Tables.{listed_table}
use Rattle.fort_tables.specs.StateRanks.{rank_in}
use Rattle.fort_target_lists.proofs.PlaceLaws.{none_before, rank_small, rank_whole, counts_more}
use Rattle.fort_classed_tables.proofs.PlaceTargets.{presences_below}
use Rattle.fort_classed_tables.proofs.counted.count_states.Goals as goal

pub loop-q-init : goal.loop-q-init
loop-q-init c =
    let n = c.pow.result in
    let size : n ≡ 2 ^ c.args.table.now.columns = omega (arith, c.pow.ensures, ap (λ k. 2 ^ k) c.columns.ensures.count) in
    let zeros : c.in_ok-counts.counts.items ≡ replicate n 0 = c.in_ok-counts.ensures.items_if_clones_equal (λ y e. e) in
    record {
      long = ap length zeros ∙ (length-replicate n 0 ∙ size);
      counts = λ w l. ap (λ (xs : List ℕ). get_or xs w 0) zeros ∙ (get_or-replicate n w 0 0 (omega (arith, l, size)) ∙ none_before w c.args.table.now.presences);
    }

pub index_mut-requires : goal.index_mut-requires
index_mut-requires c =
    let t = listed_table c.args.table.now in
    let there : c.loop-q.q < length t.presences = omega (arith, c.loop-q-test.true, c.states-q-end.ensures.count) in
    let low = presences_below t c.states-q-end.ensures.lawful c.states-q-end.ensures.reached c.loop-q.q there in
    omega (arith, low, c.presence-presence.ensures, c.loop-q.invariant.long, c.loop-q.counts.ok.0)

pub overflow_add-index_mut : goal.overflow_add-index_mut
overflow_add-index_mut c =
    let t = listed_table c.args.table.now in
    let q = c.loop-q.q in
    let p = c.presence-presence.result in
    let v = c.loop-q.invariant in
    let there : q < length t.presences = omega (arith, c.loop-q-test.true, c.states-q-end.ensures.count) in
    let low : p < 2 ^ t.columns = omega (arith, presences_below t c.states-q-end.ensures.lawful c.states-q-end.ensures.reached q there, c.presence-presence.ensures) in
    let read : c.index_mut.result.now ≡ get_or c.loop-q.counts.items p 0 = c.index_mut.ensures.value ∙ get_or_default c.loop-q.counts.items p c.index_mut.result.now 0 (omega (arith, low, v.long)) in
    omega (arith, read, v.counts p low, rank_small p t.presences q, c.loop-q-test.true, c.states-q-end.type_inv)

pub loop-q-preserved : goal.loop-q-preserved
loop-q-preserved c =
    let t = listed_table c.args.table.now in
    let ps = t.presences in
    let q = c.loop-q.q in
    let p = c.presence-presence.result in
    let v = c.loop-q.invariant in
    let counts = c.loop-q.counts.items in
    let there : q < length ps = omega (arith, c.loop-q-test.true, c.states-q-end.ensures.count) in
    let low : p < 2 ^ t.columns = omega (arith, presences_below t c.states-q-end.ensures.lawful c.states-q-end.ensures.reached q there, c.presence-presence.ensures) in
    let in_counts : p < length counts = omega (arith, low, v.long) in
    let cell : c.index_mut.result.now ≡ get_or counts p 0 = c.index_mut.ensures.value ∙ get_or_default counts p c.index_mut.result.now 0 in_counts in
    record {
      long = length-set counts p (c.index_mut.result.now + 1) ∙ v.long;
      counts = subst (λ (n : ℕ). (w : ℕ) → w < 2 ^ t.columns → get_or (set counts p (n + 1)) w 0 ≡ rank_in w ps (q + 1)) (sym cell)
          (counts_more ps counts q p (2 ^ t.columns) c.presence-presence.ensures there in_counts v.counts);
    }

pub returns-clause-counts : goal.returns-clause-counts
returns-clause-counts c = λ w l.
    let ps = c.args.table.now.presences in
    let e : c.loop-q.q ≡ length ps = omega (arith, c.loop-q-test.false, c.loop-q.auto.q-end, c.states-q-end.ensures.count) in
    c.loop-q.invariant.counts w (omega (arith, l, c.loop-q.invariant.long)) ∙ (ap (rank_in w ps) e ∙ rank_whole w ps)
