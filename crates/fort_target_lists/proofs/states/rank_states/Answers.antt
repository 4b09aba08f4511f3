use Rattle.std.proofs.Common.{refl, ◌≡◌, ◌+◌, ◌<◌, [], ◌∷◌, length, get_or, length-append, ap, ◌∙◌, arith}
use Rattle.std.proofs.lemmas.List.{length-set}
use Rattle.fort_tables.specs.StateRanks.{rank_in}
use Rattle.fort_target_lists.proofs.PlaceLaws.{none_before, rank_small, rank_whole, counts_more, pushed_more}
use Rattle.fort_target_lists.proofs.states.rank_states.Goals as goal

pub overflow_add-counts : goal.overflow_add-counts
overflow_add-counts c =
    let ps = c.args.presences.now in
    let q = c.loop-q.q in
    let p = get_or ps q 0 in
    let low : p < length c.args.counts.now = c.requires.within q (omega (arith, c.loop-q-test.true)) in
    omega (arith, c.loop-q.invariant.counts p low, rank_small p ps q, c.loop-q-test.true, c.requires.few)

pub loop-q-init : goal.loop-q-init
loop-q-init c = record {
  size = ap length c.requires.empty;
  long = refl;
  done = λ k l. absurd (omega arith);
  counts = λ w l. c.requires.none w l ∙ none_before w c.args.presences.now;
  room = refl;
}

pub loop-q-preserved : goal.loop-q-preserved
loop-q-preserved c =
    let ps = c.args.presences.now in
    let q = c.loop-q.q in
    let p = get_or ps q 0 in
    let v = c.loop-q.invariant in
    let there : q < length ps = omega (arith, c.loop-q-test.true) in
    let low : p < length c.args.counts.now = c.requires.within q there in
    record {
      size = ap length c.push_reserved.ensures.items ∙ (length-append c.loop-q.ranks.items (get_or c.loop-q.counts p 0 ∷ []) ∙ ap (λ n. n + 1) v.size);
      long = length-set c.loop-q.counts p (get_or c.loop-q.counts p 0 + 1) ∙ v.long;
      done = pushed_more c.loop-q.ranks.items c.push_reserved.new.self.items (get_or c.loop-q.counts p 0) q (λ k. rank_in (get_or ps k 0) ps k) c.push_reserved.ensures.items v.size (v.counts p low) v.done;
      counts = counts_more ps c.loop-q.counts q p (length c.args.counts.now) refl there (omega (arith, v.long, low)) v.counts;
      room = c.push_reserved.ensures.capacity ∙ v.room;
    }

pub returns-clause-counts : goal.returns-clause-counts
returns-clause-counts c = λ w o.
    let ps = c.args.presences.now in
    let e : c.loop-q.q ≡ length ps = omega (arith, c.loop-q-test.false, c.loop-q.auto.q-end) in
    c.loop-q.invariant.counts w (omega (arith, o, c.loop-q.invariant.long)) ∙ (ap (rank_in w ps) e ∙ rank_whole w ps)
