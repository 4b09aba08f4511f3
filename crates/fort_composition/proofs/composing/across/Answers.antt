use Rattle.std.proofs.Common.{arith, refl}
use Rattle.fort_composition.proofs.AcrossLaws.{AreBesideAcross-pushed}
use Rattle.fort_composition.proofs.composing.across.Goals as goal

pub push_pairs-requires : goal.push_pairs-requires
push_pairs-requires c p q among =
    let low = c.requires.across (p, q) among in
    (omega (arith, low.0, c.requires.few), omega (arith, low.1, c.requires.few))

pub returns : goal.returns
returns c =
    AreBesideAcross-pushed c.args.first.now c.args.second.now c.in_ok-both.both _ c.args.crossing.now c.in_ok-both.ensures refl refl refl c.in_ok-push_pairs.ensures
