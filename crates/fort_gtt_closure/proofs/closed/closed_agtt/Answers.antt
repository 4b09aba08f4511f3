use Rattle.std.proofs.Common.{ap, length, ◌∙◌, subst}
use Rattle.fort_transducers.specs.declared.agtt.Agtt.{Agtt}
use Rattle.fort_gtt_closure.specs.Added.{AreOnward, AreBackward}
use Rattle.fort_transducers.proofs.SizesLaws.{count-same}
use Rattle.fort_transducers.specs.MoreMoves.{HasMoreMoves}
use Rattle.fort_gtt_closure.proofs.AddedLaws.{NamesItsStates-larger, HasClosedStates-larger, Transduces-larger}
use Rattle.fort_gtt_closure.proofs.closed.closed_agtt.Goals as goal

pub onward_moves-requires : goal.onward_moves-requires
onward_moves-requires c a b h = (c.requires.named.pairs a b (rw c.deref.ensures.value at h)).1

pub backward_moves-requires : goal.backward_moves-requires
backward_moves-requires c a b h = (c.requires.named.pairs a b (rw c.deref-2.ensures.value at h)).0

pub returns-clause-named : goal.returns-clause-named
returns-clause-named c =
    let agtt = c.args.agtt.now in
    let es = c.args.closed.now.entries.items in
    let larger : Agtt = record { left = c.in_ok-left.left; right = c.in_ok-right.right; pairs = c.in_ok-pairs.pairs } in
    let onward = subst (λ ps. AreOnward es ps c.in_ok-onward.onward.items) c.deref.ensures.value c.in_ok-onward.ensures in
    let backward = subst (λ ps. AreBackward es ps c.in_ok-backward.backward.items) c.deref-2.ensures.value c.in_ok-backward.ensures in
    NamesItsStates-larger agtt larger es c.requires.named c.requires.table c.in_ok-onward.onward.items c.in_ok-backward.backward.items onward backward
    (subst (HasMoreMoves agtt.left larger.left) c.deref-3.ensures.value c.in_ok-left.ensures) (subst (HasMoreMoves agtt.right larger.right) c.deref-4.ensures.value c.in_ok-right.ensures)
    (c.in_ok-pairs.ensures.items ∙ c.deref-5.ensures.value)

pub returns-clause-states : goal.returns-clause-states
returns-clause-states c =
    let agtt = c.args.agtt.now in
    let es = c.args.closed.now.entries.items in
    let larger : Agtt = record { left = c.in_ok-left.left; right = c.in_ok-right.right; pairs = c.in_ok-pairs.pairs } in
    let onward = subst (λ ps. AreOnward es ps c.in_ok-onward.onward.items) c.deref.ensures.value c.in_ok-onward.ensures in
    let backward = subst (λ ps. AreBackward es ps c.in_ok-backward.backward.items) c.deref-2.ensures.value c.in_ok-backward.ensures in
    HasClosedStates-larger agtt larger es c.requires.named c.requires.table c.in_ok-onward.onward.items c.in_ok-backward.backward.items onward backward
    (subst (HasMoreMoves agtt.left larger.left) c.deref-3.ensures.value c.in_ok-left.ensures) (subst (HasMoreMoves agtt.right larger.right) c.deref-4.ensures.value c.in_ok-right.ensures)
    (c.in_ok-pairs.ensures.items ∙ c.deref-5.ensures.value)

pub returns-clause-sizes : goal.returns-clause-sizes
returns-clause-sizes c =
    let agtt = c.args.agtt.now in
    record {
      left_moves = count-same agtt.left c.in_ok-left.left c.in_ok-left.ensures.moves;
      right_moves = count-same agtt.right c.in_ok-right.right c.in_ok-right.ensures.moves;
      pairs = ap length (c.in_ok-pairs.ensures.items ∙ c.deref-5.ensures.value);
    }

pub returns-clause-related : goal.returns-clause-related
returns-clause-related c =
    let agtt = c.args.agtt.now in
    let es = c.args.closed.now.entries.items in
    let larger : Agtt = record { left = c.in_ok-left.left; right = c.in_ok-right.right; pairs = c.in_ok-pairs.pairs } in
    let onward = subst (λ ps. AreOnward es ps c.in_ok-onward.onward.items) c.deref.ensures.value c.in_ok-onward.ensures in
    let backward = subst (λ ps. AreBackward es ps c.in_ok-backward.backward.items) c.deref-2.ensures.value c.in_ok-backward.ensures in
    Transduces-larger agtt larger es c.requires.named c.requires.table c.in_ok-onward.onward.items c.in_ok-backward.backward.items onward backward
    (subst (HasMoreMoves agtt.left larger.left) c.deref-3.ensures.value c.in_ok-left.ensures) (subst (HasMoreMoves agtt.right larger.right) c.deref-4.ensures.value c.in_ok-right.ensures)
    (c.in_ok-pairs.ensures.items ∙ c.deref-5.ensures.value)
