use Rattle.std.proofs.Common.{ap}
use Rattle.std.specs.List.{fold}
use Rattle.fort_terms.specs.PatternKeyLaws.{args_hash}
use Rattle.fort_terms.proofs.pattern.+pattern_hash.Goals as goal

pub PatternsHash::hash-returns : goal.PatternsHash::hash-returns
PatternsHash::hash-returns g t c =
    rw (← c.self.view_is, c.hash.ensures) (ap (λ writes. fold g.H.Hasher.write c.args.state.now writes) (args_hash c.self.inside.items.items))
