use Rattle.std.proofs.Common.{ap, ◌∙◌, length, arith, ◌≡◌, ◌++◌, map}
use Rattle.fort_transducers.specs.declared.agtt.Agtt.{Agtt}
use Rattle.fort_transducers.specs.Unions.{shifted_move}
use Rattle.fort_transducers.proofs.SizesLaws.{count-joined, count-pairs}
use Rattle.fort_transducers.proofs.UnionLaws.{shifted_pair, Transduces-union, NamesItsStates-union}
use Rattle.fort_transducers.proofs.BesideLaws.{HasBothStates-beside}
use Rattle.fort_transducers.proofs.unions.union.Goals as goal

pub push_pairs-requires : goal.push_pairs-requires
push_pairs-requires c p q among =
    let low = c.requires.second_named.pairs p q (rw c.deref-2.ensures.value at among) in
    (omega (arith, low.0, c.requires.few_left), omega (arith, low.1, c.requires.few_right))

pub returns-clause-named : goal.returns-clause-named
returns-clause-named c =
    let both : Agtt = record { left = c.in_ok-left.left; right = c.in_ok-right.right; pairs = c.push_pairs.new.joined } in
    let pairs : both.pairs.items ≡ c.args.first.now.pairs.items ++ map (shifted_pair c.args.first.now.left.states c.args.first.now.right.states) c.args.second.now.pairs.items =
    rw (← c.deref.ensures.value, ← c.deref-2.ensures.value, ← c.in_ok-pairs.ensures.items) c.in_ok-push_pairs.ensures in
    NamesItsStates-union c.args.first.now c.args.second.now both c.requires.first_named c.requires.second_named c.in_ok-left.ensures c.in_ok-right.ensures pairs

pub returns-clause-related : goal.returns-clause-related
returns-clause-related c =
    let both : Agtt = record { left = c.in_ok-left.left; right = c.in_ok-right.right; pairs = c.push_pairs.new.joined } in
    let pairs : both.pairs.items ≡ c.args.first.now.pairs.items ++ map (shifted_pair c.args.first.now.left.states c.args.first.now.right.states) c.args.second.now.pairs.items =
    rw (← c.deref.ensures.value, ← c.deref-2.ensures.value, ← c.in_ok-pairs.ensures.items) c.in_ok-push_pairs.ensures in
    Transduces-union c.args.first.now c.args.second.now both c.requires.first_named c.requires.second_named c.in_ok-left.ensures c.in_ok-right.ensures pairs

pub returns-clause-sizes : goal.returns-clause-sizes
returns-clause-sizes c =
    let first = c.args.first.now in
    let second = c.args.second.now in
    record {
      left_moves = count-joined first.left second.left c.in_ok-left.left (shifted_move first.left.states) c.in_ok-left.ensures.moves;
      right_moves = count-joined first.right second.right c.in_ok-right.right (shifted_move first.right.states) c.in_ok-right.ensures.moves;
      pairs =
          (let pairs : c.push_pairs.new.joined.items ≡ first.pairs.items ++ map (shifted_pair first.left.states first.right.states) second.pairs.items =
          rw (← c.deref.ensures.value, ← c.deref-2.ensures.value, ← c.in_ok-pairs.ensures.items) c.in_ok-push_pairs.ensures in
          ap length pairs ∙ count-pairs first.pairs.items second.pairs.items (shifted_pair first.left.states first.right.states));
    }

pub returns-clause-lefts : goal.returns-clause-lefts
returns-clause-lefts c =
    HasBothStates-beside c.args.first.now.left c.args.second.now.left c.in_ok-left.left c.in_ok-left.ensures c.requires.first_named.left c.requires.second_named.left

pub returns-clause-rights : goal.returns-clause-rights
returns-clause-rights c =
    HasBothStates-beside c.args.first.now.right c.args.second.now.right c.in_ok-right.right c.in_ok-right.ensures c.requires.first_named.right c.requires.second_named.right
