use Rattle.std.proofs.Common.{◌+◌, ◌-◌, ◌≡◌, ◌<◌, ℕ, List, length, take, arith, refl, ◌∙◌, subst}
use Rattle.std.proofs.lemmas.List.{length-set}
use Rattle.fort_class_blocks.specs.Blocks.{cell_of}
use Rattle.fort_class_blocks.proofs.CombinationLaws.{IsWrapped, none_wrapped, class_here, raised, wrapped, last_wrapped}
use Rattle.fort_class_blocks.proofs.combinations.next_classes.Goals as goal

-- the same, of the place before
wrapped_behind : (ns room : List ℕ) (place cell : ℕ) → 0 < place → IsWrapped ns room place cell → IsWrapped ns room (place - 1 + 1) cell
wrapped_behind ns room place cell some h = subst (λ k. IsWrapped ns room k cell) (let e : place ≡ place - 1 + 1 = omega (arith, some) in e) h

pub loop-place-init : goal.loop-place-init
loop-place-init c = record {
  size = omega arith;
  low = omega arith;
  wrapped = none_wrapped c.args.counts.now c.args.classes (length c.args.counts.now) refl c.requires.classes;
}

pub overflow_add-classes : goal.overflow_add-classes
overflow_add-classes c =
    let p = c.loop-place.place - 1 in
    let h = wrapped_behind _ _ _ _ c.loop-place-test.true c.loop-place.invariant.wrapped in
    let low : p < length c.args.counts.now = omega (arith, c.loop-place-test.true, c.loop-place.invariant.low) in
    omega (arith, class_here c.args.counts.now c.loop-place.classes p _ low h, c.type_inv.counts p)

pub returns-then-classes-place : goal.returns-then-classes-place
returns-then-classes-place c =
    let p = c.loop-place.place - 1 in
    let h = wrapped_behind _ _ _ _ c.loop-place-test.true c.loop-place.invariant.wrapped in
    let low : p < length c.args.counts.now = omega (arith, c.loop-place-test.true, c.loop-place.invariant.low) in
    let at = raised c.args.counts.now c.loop-place.classes p _ low h c.if-classes-place.true in
    (at.are, at.is)

pub loop-place-preserved : goal.loop-place-preserved
loop-place-preserved c =
    let p = c.loop-place.place - 1 in
    let h = wrapped_behind _ _ _ _ c.loop-place-test.true c.loop-place.invariant.wrapped in
    let low : p < length c.args.counts.now = omega (arith, c.loop-place-test.true, c.loop-place.invariant.low) in
    record {
      size = length-set c.loop-place.classes p 0 ∙ c.loop-place.invariant.size;
      low = omega (arith, low);
      wrapped = wrapped c.args.counts.now c.loop-place.classes p _ low h (omega (arith, c.if-classes-place.false));
    }

pub returns : goal.returns
returns c =
    let none : c.loop-place.place ≡ 0 = omega (arith, c.loop-place-test.false) in
    let cell = cell_of c.args.counts.now (take (length c.args.counts.now) c.args.classes) in
    last_wrapped c.args.counts.now c.loop-place.classes (take (length c.args.counts.now) c.args.classes) c.requires.classes
    (subst (λ k. IsWrapped c.args.counts.now c.loop-place.classes k cell) none c.loop-place.invariant.wrapped)
