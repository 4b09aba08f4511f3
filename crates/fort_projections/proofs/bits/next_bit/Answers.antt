use Rattle.std.proofs.Common.{◌≡◌, ℕ, ◌+◌, ◌*◌, ◌/◌, ◌%◌, ◌^◌, w64, get_or, arith, subst, sym, ap}
use Rattle.std.proofs.Math.Nat.{div-one}
use Rattle.std.proofs.lemmas.Nat.{trailing_le}
use Rattle.std.specs.Int.{trailing_zeros}
use Rattle.fort_tables.specs.BitRows.{has_bit}
use Rattle.fort_projections.specs.Choices.{IsNext}
use Rattle.fort_projections.proofs.BitSearch.{hit_in_word, none_in_word, next_later, within_words}
use Rattle.fort_projections.proofs.bits.next_bit.Goals as goal

pub overflow_add-result : goal.overflow_add-result
overflow_add-result c =
    let n = c.word_at.result / 2 ^ (c.args.from % 64) in
    let w = within_words c.args.words.now (c.args.from / 64) (c.args.from % 64) n (ap (λ x. x / 2 ^ (c.args.from % 64)) c.word_at.ensures) c.if-rest-ne0.true in
    omega (arith, w, trailing_le 64 n, c.requires)

pub returns-then-rest-ne0-clause-some : goal.returns-then-rest-ne0-clause-some
returns-then-rest-ne0-clause-some c =
    let w = c.args.words.now in
    let from = c.args.from in
    let n = c.word_at.result / 2 ^ (from % 64) in
    let at : 64 * (from / 64) + from % 64 ≡ from = omega arith in
    subst (λ (m : ℕ). IsNext (has_bit w) m (m + trailing_zeros w64 n)) at
    (hit_in_word w (from / 64) (from % 64) n (omega arith) (omega (arith, c.type_inv.words (from / 64))) (ap (λ x. x / 2 ^ (from % 64)) c.word_at.ensures) c.if-rest-ne0.true)

pub loop-k-init : goal.loop-k-init
loop-k-init c = λ i l m.
    let from = c.args.from in
    none_in_word c.args.words.now (from / 64) (from % 64) (c.word_at.result / 2 ^ (from % 64)) (ap (λ x. x / 2 ^ (from % 64)) c.word_at.ensures) c.if-rest-ne0.false i (omega arith) (omega arith)

pub returns-then-word-ne0-clause-some : goal.returns-then-word-ne0-clause-some
returns-then-word-ne0-clause-some c =
    let w = c.args.words.now in
    let k = c.loop-k.k in
    let n = get_or w k 0 in
    let at : 64 * k + 0 ≡ 64 * k = omega arith in
    let whole : n ≡ n / 2 ^ 0 = sym (div-one n) in
    next_later (has_bit w) c.args.from (64 * k) (64 * k + trailing_zeros w64 n) (omega (arith, c.loop-k.auto.k)) c.loop-k.invariant
    (subst (λ (m : ℕ). IsNext (has_bit w) m (m + trailing_zeros w64 n)) at (hit_in_word w k 0 n (omega arith) (omega (arith, c.type_inv.words k)) whole c.if-word-ne0.true))
