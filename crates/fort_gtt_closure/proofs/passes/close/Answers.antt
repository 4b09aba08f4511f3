use Rattle.std.proofs.Common.{◌≡◌, ◌*◌, ◌≤◌, ap, sym, ◌∙◌, arith, vec_len}
use Rattle.std.proofs.lemmas.List.Sums.{count_by-le-length}
use Rattle.fort_gtt_closure.proofs.ProgressLaws.{Progress-again, IsListOfPasses-still}
use Rattle.fort_gtt_closure.proofs.OnceLaws.{each-once}
use Rattle.fort_gtt_closure.proofs.TableLaws.{listed-InClosure, listed-Reaches}
use Rattle.fort_gtt_closure.proofs.passes.close.Goals as goal

pub returns-then-len-before-clause-passes : goal.returns-then-len-before-clause-passes
returns-then-len-before-clause-passes c =
    rw c.into_entries.ensures
    (IsListOfPasses-still c.args.agtt.now c.loop-listing.listing.grid.entries.items c.pass.new.listing.grid.entries.items (c.in_ok-pass.ensures.progress c.loop-listing.listing.grid.entries.items c.loop-listing.invariant.progress)
    (omega (arith, c.if-len-before.true, c.len.ensures, c.len-before.ensures, c.loop-listing.listing.grid.entries.ok.0, c.pass.new.listing.grid.entries.ok.0)))

pub returns-then-len-before-clause-once : goal.returns-then-len-before-clause-once
returns-then-len-before-clause-once c = each-once c.args.agtt.now c.into_entries.result.items (returns-then-len-before-clause-passes c)

pub returns-then-len-before-clause-table : goal.returns-then-len-before-clause-table
returns-then-len-before-clause-table c =
    listed-InClosure c.args.agtt.now c.into_entries.result.items (returns-then-len-before-clause-passes c) c.requires.named

pub returns-then-len-before-clause-reachability : goal.returns-then-len-before-clause-reachability
returns-then-len-before-clause-reachability c =
    listed-Reaches c.args.agtt.now c.into_entries.result.items (returns-then-len-before-clause-passes c) c.requires.named

pub loop-listing-preserved : goal.loop-listing-preserved
loop-listing-preserved c =
    let progress = c.in_ok-pass.ensures.progress c.loop-listing.listing.grid.entries.items c.loop-listing.invariant.progress in
    record {
      progress = Progress-again c.args.agtt.now c.loop-listing.listing.grid.entries.items c.pass.new.listing.grid.entries.items progress;
      ready = c.in_ok-pass.ensures.ready;
    }

pub loop-listing-smaller : goal.loop-listing-smaller
loop-listing-smaller c =
    let progress = c.in_ok-pass.ensures.progress c.loop-listing.listing.grid.entries.items c.loop-listing.invariant.progress in
    let old = c.loop-listing.listing.grid in
    let g = c.pass.new.listing.grid in
    let before = c.loop-listing.invariant.ready in
    let after = c.in_ok-pass.ensures.ready in
    let same : g.height * g.width ≡ old.height * old.width =
    ap (λ x. x * g.width) (after.height ∙ sym before.height) ∙ ap (λ x. old.height * x) (after.width ∙ sym before.width) in
    let most : vec_len g.entries ≤ g.height * g.width = omega (arith, count_by-le-length (λ b. b) g.seen.items, g.counted, g.sized, g.seen.ok.0) in
    omega (arith, progress.grown, c.if-len-before.false, c.len.ensures, c.len-before.ensures, old.entries.ok.0, g.entries.ok.0)
