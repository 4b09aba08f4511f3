use Rattle.std.proofs.Common.{arith, ◌≡◌, ◌++◌, sym, subst, map}
use Rattle.fort_transducers.specs.declared.agtt.Agtt.{Agtt}
use Rattle.fort_transducers.proofs.UnionLaws.{shifted_pair}
use Rattle.fort_gtt_closure.specs.Added.{AreOnward, AreBackward}
use Rattle.fort_composition.specs.Across.{AreAcross, AreBesideAcross}
use Rattle.fort_composition.proofs.AcrossLaws.{states-across}
use Rattle.fort_composition.proofs.ComposedNumbersLaws.{NamesItsStates-meeting, IsNumbered-meeting, CrossLeft, CrossRight, CrossLeft-onward, CrossRight-backward, left_across, right_across, numbers-are_composition, NamesItsStates-composed, SumsSizes-composed}
use Rattle.fort_composition.proofs.composing.compose.Goals as goal

pub close-requires-clause-named : goal.close-requires-clause-named
close-requires-clause-named c =
    NamesItsStates-meeting c.args.first.now.right c.args.second.now.left c.in_ok-shared.shared c.in_ok-shared.ensures.right c.in_ok-shared.ensures.left c.in_ok-shared.ensures.pairs
    c.requires.first_named.right c.requires.second_named.left

pub close-requires-clause-numbered : goal.close-requires-clause-numbered
close-requires-clause-numbered c =
    IsNumbered-meeting c.args.first.now c.args.second.now c.in_ok-shared.shared c.requires.few c.in_ok-shared.ensures.right c.in_ok-shared.ensures.left c.in_ok-shared.ensures.pairs

pub onward_moves-requires : goal.onward_moves-requires
onward_moves-requires c a b h = (c.requires.first_named.pairs a b (rw c.deref.ensures.value at h)).1

pub backward_moves-requires : goal.backward_moves-requires
backward_moves-requires c a b h = (c.requires.second_named.pairs a b (rw c.deref-3.ensures.value at h)).0

pub across-requires-clause-across : goal.across-requires-clause-across
across-requires-clause-across c =
    let first = c.args.first.now in
    let second = c.args.second.now in
    let es = c.in_ok-table.table.entries.items in
    let onward = c.in_ok-onward.onward.items in
    let cross_left : CrossLeft first second onward =
    CrossLeft-onward first second c.in_ok-shared.shared es c.in_ok-shared.ensures.right c.in_ok-shared.ensures.left c.in_ok-shared.ensures.pairs c.in_ok-table.ensures.table onward
    (subst (λ ps. AreOnward es ps onward) c.deref.ensures.value c.in_ok-onward.ensures) in
    subst (AreAcross first.left second.left) (sym c.deref-2.ensures.value) (left_across first second c.requires.first_named c.requires.second_named onward cross_left)

pub across-requires-2-clause-across : goal.across-requires-2-clause-across
across-requires-2-clause-across c =
    let first = c.args.first.now in
    let second = c.args.second.now in
    let es = c.in_ok-table.table.entries.items in
    let backward = c.in_ok-backward.backward.items in
    let cross_right : CrossRight first second backward =
    CrossRight-backward first second c.in_ok-shared.shared es c.in_ok-shared.ensures.right c.in_ok-shared.ensures.left c.in_ok-shared.ensures.pairs c.in_ok-table.ensures.table backward
    (subst (λ ps. AreBackward es ps backward) c.deref-3.ensures.value c.in_ok-backward.ensures) in
    subst (AreAcross second.right first.right) (sym c.deref-4.ensures.value) (right_across first second c.requires.first_named c.requires.second_named backward cross_right)

pub push_pairs-requires : goal.push_pairs-requires
push_pairs-requires c p q among =
    let few = c.requires.few in
    let low = c.requires.first_named.pairs p q (rw c.deref-5.ensures.value at among) in
    (omega (arith, low.0, few.left), omega (arith, low.1, few.right))

pub push_pairs-requires-2 : goal.push_pairs-requires-2
push_pairs-requires-2 c p q among =
    let few = c.requires.few in
    let low = c.requires.second_named.pairs p q (rw c.deref-6.ensures.value at among) in
    (omega (arith, low.0, few.left), omega (arith, low.1, few.right))

pub returns-clause-left : goal.returns-clause-left
returns-clause-left c = states-across c.args.first.now.left c.args.second.now.left c.in_ok-left.left c.deref-2.result.now c.in_ok-left.ensures

pub returns-clause-right : goal.returns-clause-right
returns-clause-right c = states-across c.args.second.now.right c.args.first.now.right c.in_ok-right.right c.deref-4.result.now c.in_ok-right.ensures

pub returns-clause-named : goal.returns-clause-named
returns-clause-named c =
    let first = c.args.first.now in
    let second = c.args.second.now in
    let es = c.in_ok-table.table.entries.items in
    let onward = c.in_ok-onward.onward.items in
    let cross_left : CrossLeft first second onward =
    CrossLeft-onward first second c.in_ok-shared.shared es c.in_ok-shared.ensures.right c.in_ok-shared.ensures.left c.in_ok-shared.ensures.pairs c.in_ok-table.ensures.table onward
    (subst (λ ps. AreOnward es ps onward) c.deref.ensures.value c.in_ok-onward.ensures) in
    let backward = c.in_ok-backward.backward.items in
    let cross_right : CrossRight first second backward =
    CrossRight-backward first second c.in_ok-shared.shared es c.in_ok-shared.ensures.right c.in_ok-shared.ensures.left c.in_ok-shared.ensures.pairs c.in_ok-table.ensures.table backward
    (subst (λ ps. AreBackward es ps backward) c.deref-3.ensures.value c.in_ok-backward.ensures) in
    let both : Agtt = record { left = c.in_ok-left.left; right = c.in_ok-right.right; pairs = c.push_pairs-2.new.joined } in
    let begun : c.push_pairs.new.joined.items ≡ map (shifted_pair 0 second.right.states) first.pairs.items = rw (c.new-pairs.ensures.items, c.deref-5.ensures.value) at c.in_ok-push_pairs.ensures in
    let pairs : both.pairs.items ≡ map (shifted_pair 0 second.right.states) first.pairs.items ++ map (shifted_pair first.left.states 0) second.pairs.items =
    rw (begun, c.deref-6.ensures.value) at c.in_ok-push_pairs-2.ensures in
    NamesItsStates-composed first second both c.requires.first_named c.requires.second_named onward backward cross_left cross_right
    (subst (AreBesideAcross first.left second.left both.left) c.deref-2.ensures.value c.in_ok-left.ensures) (subst (AreBesideAcross second.right first.right both.right) c.deref-4.ensures.value c.in_ok-right.ensures)
    pairs

pub returns-clause-sizes : goal.returns-clause-sizes
returns-clause-sizes c =
    let first = c.args.first.now in
    let second = c.args.second.now in
    let es = c.in_ok-table.table.entries.items in
    let onward = c.in_ok-onward.onward.items in
    let cross_left : CrossLeft first second onward =
    CrossLeft-onward first second c.in_ok-shared.shared es c.in_ok-shared.ensures.right c.in_ok-shared.ensures.left c.in_ok-shared.ensures.pairs c.in_ok-table.ensures.table onward
    (subst (λ ps. AreOnward es ps onward) c.deref.ensures.value c.in_ok-onward.ensures) in
    let backward = c.in_ok-backward.backward.items in
    let cross_right : CrossRight first second backward =
    CrossRight-backward first second c.in_ok-shared.shared es c.in_ok-shared.ensures.right c.in_ok-shared.ensures.left c.in_ok-shared.ensures.pairs c.in_ok-table.ensures.table backward
    (subst (λ ps. AreBackward es ps backward) c.deref-3.ensures.value c.in_ok-backward.ensures) in
    let both : Agtt = record { left = c.in_ok-left.left; right = c.in_ok-right.right; pairs = c.push_pairs-2.new.joined } in
    let begun : c.push_pairs.new.joined.items ≡ map (shifted_pair 0 second.right.states) first.pairs.items = rw (c.new-pairs.ensures.items, c.deref-5.ensures.value) at c.in_ok-push_pairs.ensures in
    let pairs : both.pairs.items ≡ map (shifted_pair 0 second.right.states) first.pairs.items ++ map (shifted_pair first.left.states 0) second.pairs.items =
    rw (begun, c.deref-6.ensures.value) at c.in_ok-push_pairs-2.ensures in
    SumsSizes-composed first second both c.requires.first_named c.requires.second_named onward backward cross_left cross_right
    (subst (AreBesideAcross first.left second.left both.left) c.deref-2.ensures.value c.in_ok-left.ensures) (subst (AreBesideAcross second.right first.right both.right) c.deref-4.ensures.value c.in_ok-right.ensures)
    pairs

pub returns-clause-composition : goal.returns-clause-composition
returns-clause-composition c signature fits_first fits_second =
    let first = c.args.first.now in
    let second = c.args.second.now in
    let es = c.in_ok-table.table.entries.items in
    let onward = c.in_ok-onward.onward.items in
    let cross_left : CrossLeft first second onward =
    CrossLeft-onward first second c.in_ok-shared.shared es c.in_ok-shared.ensures.right c.in_ok-shared.ensures.left c.in_ok-shared.ensures.pairs c.in_ok-table.ensures.table onward
    (subst (λ ps. AreOnward es ps onward) c.deref.ensures.value c.in_ok-onward.ensures) in
    let backward = c.in_ok-backward.backward.items in
    let cross_right : CrossRight first second backward =
    CrossRight-backward first second c.in_ok-shared.shared es c.in_ok-shared.ensures.right c.in_ok-shared.ensures.left c.in_ok-shared.ensures.pairs c.in_ok-table.ensures.table backward
    (subst (λ ps. AreBackward es ps backward) c.deref-3.ensures.value c.in_ok-backward.ensures) in
    let both : Agtt = record { left = c.in_ok-left.left; right = c.in_ok-right.right; pairs = c.push_pairs-2.new.joined } in
    let begun : c.push_pairs.new.joined.items ≡ map (shifted_pair 0 second.right.states) first.pairs.items = rw (c.new-pairs.ensures.items, c.deref-5.ensures.value) at c.in_ok-push_pairs.ensures in
    let pairs : both.pairs.items ≡ map (shifted_pair 0 second.right.states) first.pairs.items ++ map (shifted_pair first.left.states 0) second.pairs.items =
    rw (begun, c.deref-6.ensures.value) at c.in_ok-push_pairs-2.ensures in
    numbers-are_composition first second both c.requires.first_named c.requires.second_named onward backward cross_left cross_right
    (subst (AreBesideAcross first.left second.left both.left) c.deref-2.ensures.value c.in_ok-left.ensures) (subst (AreBesideAcross second.right first.right both.right) c.deref-4.ensures.value c.in_ok-right.ensures)
    pairs signature fits_first fits_second
