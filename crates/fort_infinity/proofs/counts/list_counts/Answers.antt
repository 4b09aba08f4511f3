use Rattle.std.proofs.Common.{ℕ, List, map, length, get_or, ◌∙◌, ap, arith}
use Rattle.std.proofs.lemmas.List.{take_all}
use Rattle.fort_tables.specs.Ranks.{count_by}
use Rattle.fort_tables.proofs.CountLaws.{marks_by}
use Rattle.fort_findings.specs.FindingView.{as_count}
use Rattle.fort_infinity.specs.LeastUnranked.{least_from, greatest_number, least_child}
use Rattle.fort_infinity.proofs.LeastLaws.{mapped_more}
use Rattle.fort_infinity.proofs.counts.list_counts.Goals as goal

pub count_of-count-requires : goal.count_of-count-requires
count_of-count-requires c = λ i l.
    let q = get_or c.args.alone.now c.loop-q.q-index 0 in
    let w = c.requires.children q i (omega (arith, l, ap length c.list.ensures)) in
    omega (arith, w, ap (λ (xs : List ℕ). get_or xs i 0) c.list.ensures, c.requires.ranks)

pub loop-q-preserved : goal.loop-q-preserved
loop-q-preserved c =
    let children = c.args.children.now in
    let rank : ℕ → ℕ = λ k. get_or c.args.ranks.now k 0 in
    let q = get_or c.args.alone.now c.loop-q.q-index 0 in
    let list = c.list.ensures in
    mapped_more as_count (marks_by rank (least_child children rank)) c.loop-q.counts.items c.push.new.self.items c.count_of-count.result c.args.alone.now c.loop-q.q-index c.loop-q-test.true c.loop-q.invariant
    (c.count_of-count.ensures ∙ ap (λ ks. count_by (rank q) (least_from rank greatest_number ks)) list) c.in_ok-push.ensures.items

pub returns : goal.returns
returns c =
    let rank : ℕ → ℕ = λ k. get_or c.args.ranks.now k 0 in
    c.loop-q.invariant ∙ ap (map (marks_by rank (least_child c.args.children.now rank))) (take_all c.loop-q.q-index c.args.alone.now c.loop-q-test.false)
