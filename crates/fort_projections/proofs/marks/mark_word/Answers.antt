use Rattle.std.proofs.Common.{◌≡◌, ◌+◌, ◌/◌, ◌^◌, w64, refl, ◌∙◌, arith}
use Rattle.std.specs.Int.{trailing_zeros}
use Rattle.fort_tables.specs.Projections.{has_state}
use Rattle.fort_projections.specs.Strides.{read_at}
use Rattle.fort_projections.proofs.FlatSearch.{rest_next, rest_more, word_turn, word_last}
use Rattle.fort_projections.proofs.marks.mark_word.Goals as goal

pub target-requires : goal.target-requires
target-requires c = c.requires.readable (c.bits.state + trailing_zeros w64 c.bits.rest) (rest_next c.args.set.now c.args.i c.bits.state c.bits.rest c.bits.invariant.rest_of c.bits-test.true).hit

pub set_bit-requires : goal.set_bit-requires
set_bit-requires c =
    let r = c.requires.room (c.bits.state + trailing_zeros w64 c.bits.rest) (rest_next c.args.set.now c.args.i c.bits.state c.bits.rest c.bits.invariant.rest_of c.bits-test.true).hit in
    omega (arith, r, c.target.ensures, c.bits.auto.out)

pub bits-preserved : goal.bits-preserved
bits-preserved c =
    let v = c.bits.invariant in
    let z : 0 ≡ (128 + c.target.result) / 64 → ⊥ = λ e. omega (arith, e) in
    let o : 1 ≡ (128 + c.target.result) / 64 → ⊥ = λ e. omega (arith, e) in
    record {
      rest_of = rest_more c.args.set.now c.args.i c.bits.state c.bits.rest (c.bits.rest / 2 ^ trailing_zeros w64 c.bits.rest / 2) v.rest_of c.bits-test.true refl;
      first = c.set_bit.ensures.others 0 z ∙ v.first;
      second = c.set_bit.ensures.others 1 o ∙ v.second;
      marked = λ q before h. word_turn c.args.set.now c.args.i c.bits.state c.bits.rest c.target.result q (read_at c.args.stride.now) (has_state c.set_bit.new.words q) (has_state c.bits.out q) before v.rest_of c.bits-test.true c.target.ensures (c.set_bit.ensures.bits (128 + q)) (v.marked q before h);
    }

pub returns-clause-marked : goal.returns-clause-marked
returns-clause-marked c = λ q before h.
    word_last c.args.set.now c.args.i c.bits.state c.bits.rest q (read_at c.args.stride.now) (has_state c.bits.out q) before c.bits.invariant.rest_of c.bits-test.false (c.bits.invariant.marked q before h)
