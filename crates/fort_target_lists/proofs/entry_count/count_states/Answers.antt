use Rattle.std.proofs.Common.{refl, ◌≡◌, ◌+◌, ◌<◌, length, get_or, ap, ◌∙◌, arith}
use Rattle.std.proofs.lemmas.List.{length-set}
use Rattle.fort_tables.specs.StateRanks.{rank_in}
use Rattle.fort_target_lists.proofs.PlaceLaws.{none_before, rank_small, rank_whole, counts_more}
use Rattle.fort_target_lists.proofs.entry_count.count_states.Goals as goal

pub overflow_add-counts : goal.overflow_add-counts
overflow_add-counts c =
    let ps = c.args.presences.now in
    let q = c.loop-q.q in
    let p = get_or ps q 0 in
    let low : p < length c.args.counts.now = c.requires.within q (omega (arith, c.loop-q-test.true)) in
    omega (arith, c.loop-q.invariant.counts p low, rank_small p ps q, c.loop-q-test.true, c.requires.few)

pub loop-q-init : goal.loop-q-init
loop-q-init c = record {
  long = refl;
  counts = λ w l. c.requires.none w l ∙ none_before w c.args.presences.now;
}

pub loop-q-preserved : goal.loop-q-preserved
loop-q-preserved c =
    let ps = c.args.presences.now in
    let q = c.loop-q.q in
    let p = get_or ps q 0 in
    let v = c.loop-q.invariant in
    let there : q < length ps = omega (arith, c.loop-q-test.true) in
    let low : p < length c.args.counts.now = c.requires.within q there in
    record {
      long = length-set c.loop-q.counts p (get_or c.loop-q.counts p 0 + 1) ∙ v.long;
      counts = counts_more ps c.loop-q.counts q p (length c.args.counts.now) refl there (omega (arith, v.long, low)) v.counts;
    }

pub returns-clause-counts : goal.returns-clause-counts
returns-clause-counts c = λ w o.
    let ps = c.args.presences.now in
    let e : c.loop-q.q ≡ length ps = omega (arith, c.loop-q-test.false, c.loop-q.auto.q-end) in
    c.loop-q.invariant.counts w (omega (arith, o, c.loop-q.invariant.long)) ∙ (ap (rank_in w ps) e ∙ rank_whole w ps)
