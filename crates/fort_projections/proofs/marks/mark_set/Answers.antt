use Rattle.std.proofs.Common.{◌≡◌, ℕ, ◌+◌, ◌-◌, ◌*◌, ◌&&◌, ◌||◌, ◌==◌, Bool, length, ap, ◌∙◌, arith}
use Rattle.fort_tables.specs.Projections.{has_state, some_below}
use Rattle.fort_projections.specs.Strides.{read_at}
use Rattle.fort_projections.proofs.marks.mark_set.Goals as goal

pub loop-i-preserved : goal.loop-i-preserved
loop-i-preserved c =
    let v = c.loop-i.invariant in
    let i = c.loop-i.i in
    let p : ℕ → ℕ → Bool = λ q k. has_state c.args.set.now k && (read_at c.args.stride.now k == q) in
    let s : 64 * (i - 2) + 64 ≡ 64 * (i + 1 - 2) = omega (arith, c.loop-i.auto.i) in
    record {
      first = c.mark_word.ensures.first ∙ v.first;
      second = c.mark_word.ensures.second ∙ v.second;
      marked = λ q. c.mark_word.ensures.marked q (has_state c.args.out.now q) (v.marked q) ∙ ap (λ n. some_below n (p q) || has_state c.args.out.now q) s;
    }

pub returns-clause-marked : goal.returns-clause-marked
returns-clause-marked c = λ q.
    let i = c.loop-i.i in
    let p : ℕ → Bool = λ k. has_state c.args.set.now k && (read_at c.args.stride.now k == q) in
    let s : 64 * (i - 2) ≡ 64 * (length c.args.set.now - 2) = omega (arith, c.loop-i.auto.i, c.loop-i-test.false, c.requires.label) in
    c.loop-i.invariant.marked q ∙ ap (λ n. some_below n p || has_state c.args.out.now q) s
