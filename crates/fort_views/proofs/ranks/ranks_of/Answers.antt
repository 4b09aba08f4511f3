use Rattle.std.proofs.Common.{◌≡◌, ℕ, ◌+◌, ◌<◌, ◌^◌, set, length, get_or, ap, sym, ◌∙◌, arith, subst}
use Rattle.std.proofs.lemmas.List.{get_or_default, length-set, length_push}
use Rattle.fort_entry_walk.specs.Walks.{states_with}
use Rattle.fort_views.proofs.RankLaws.{counts_more, ranks_more, count_small}
use Rattle.fort_views.proofs.ranks.ranks_of.Goals as goal

pub overflow_add-index_mut : goal.overflow_add-index_mut
overflow_add-index_mut c =
    let ps = c.args.presences.now in
    let q = c.loop-q.q in
    let p = get_or ps q 0 in
    let v = c.loop-q.invariant in
    let there : q < length ps = omega (arith, c.loop-q-test.true) in
    let low : p < 2 ^ c.args.columns = c.requires.within q there in
    let read : c.index_mut.result.now ≡ get_or c.loop-q.counts.items p 0 = c.index_mut.ensures.value ∙ get_or_default c.loop-q.counts.items p c.index_mut.result.now 0 (omega (arith, low, v.long)) in
    omega (arith, read, v.counts p low, count_small ps p q, there, c.requires.few)

pub loop-q-preserved : goal.loop-q-preserved
loop-q-preserved c =
    let ps = c.args.presences.now in
    let q = c.loop-q.q in
    let p = get_or ps q 0 in
    let v = c.loop-q.invariant in
    let counts = c.loop-q.counts.items in
    let there : q < length ps = omega (arith, c.loop-q-test.true) in
    let low : p < 2 ^ c.args.columns = c.requires.within q there in
    let in_counts : p < length counts = omega (arith, low, v.long) in
    let read : c.index.result.now ≡ get_or counts p 0 = c.index.ensures ∙ get_or_default counts p c.index.result.now 0 in_counts in
    let cell : c.index_mut.result.now ≡ get_or counts p 0 = c.index_mut.ensures.value ∙ get_or_default counts p c.index_mut.result.now 0 in_counts in
    let pushed = c.in_ok-push.ensures.items in
    record {
      size = ap length pushed ∙ (length_push c.loop-q.ranks.items c.index.result.now ∙ ap (λ n. n + 1) v.size);
      long = length-set counts p (c.index_mut.result.now + 1) ∙ v.long;
      ranks = ranks_more c.loop-q.ranks.items c.push.new.self.items c.index.result.now q (λ k. length (states_with ps (get_or ps k 0) 0 k)) pushed v.size (read ∙ v.counts p low) v.ranks;
      counts = subst (λ (n : ℕ). (w : ℕ) → w < 2 ^ c.args.columns → get_or (set counts p (n + 1)) w 0 ≡ length (states_with ps w 0 (q + 1))) (sym cell) (counts_more ps counts q (2 ^ c.args.columns) in_counts v.counts);
    }
