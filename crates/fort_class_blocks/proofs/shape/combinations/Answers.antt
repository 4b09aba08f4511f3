use Rattle.std.proofs.Common.{◌≡◌, ℕ, zero, suc, ◌<◌, ◌≤◌, ◌+◌, ◌-◌, ◌*◌, ◌^◌, min, length, take, get_or, sym, ap, ◌∙◌, ⊎_elim, arith}
use Rattle.std.proofs.Math.Nat.{le-mul_of_pos_right}
use Rattle.std.proofs.lemmas.Bool.{cases_lt}
use Rattle.std.proofs.lemmas.List.{take_more, take_all}
use Rattle.fort_class_blocks.specs.Blocks.{product}
use Rattle.fort_class_blocks.proofs.CellLaws.{product-push}
use Rattle.fort_class_blocks.proofs.shape.combinations.Goals as goal

-- what is told of a product goes by what is told of its first factor
capped : (m a n : ℕ) → min (min a m * n) m ≡ min (a * n) m
capped m a zero = omega arith
capped m a (suc k) =
    let some : 0 < suc k = omega arith in
    ⊎_elim
    (λ (over : m < a).
    let e : min a m ≡ m = omega arith in
    ap (λ (t : ℕ). min (t * suc k) m) e ∙ omega (arith, le-mul_of_pos_right m some, le-mul_of_pos_right a some))
    (λ (within : a ≤ m).
    let e : min a m ≡ a = omega arith in
    ap (λ (t : ℕ). min (t * suc k) m) e)
    (cases_lt m a)

pub loop-count-preserved : goal.loop-count-preserved
loop-count-preserved c =
    let ns = c.args.counts.now in
    let j = c.loop-count.count-index in
    let n = get_or ns j 0 in
    let m = 2 ^ 64 - 1 in
    let front = take j ns in
    let there : j < length ns = omega arith in
    let more : product front * n ≡ product (take (j + 1) ns) = sym (product-push front n) ∙ ap product (sym (take_more ns j 0 there)) in
    c.saturating_mul-combinations.ensures
    ∙ (ap (λ (t : ℕ). min (t * n) m) c.loop-count.invariant
    ∙ (capped m (product front) n ∙ ap (λ (t : ℕ). min t m) more))

pub returns : goal.returns
returns c =
    let ns = c.args.counts.now in
    let j = c.loop-count.count-index in
    c.loop-count.invariant ∙ ap (λ xs. min (product xs) (2 ^ 64 - 1)) (take_all j ns (omega arith))
