use Rattle.std.proofs.Common.{ap}
use Rattle.std.specs.Hash.{le_bytes}
use Rattle.std.specs.List.{fold}
use Rattle.fort_terms.specs.TermKeyLaws.{kids_hash}
use Rattle.fort_terms.proofs.term.TermHash.+hash.Goals as goal

pub returns : goal.returns
returns g t c =
    rw (← c.self.view_is, c.hash-2.ensures, c.hash.ensures) (ap (λ writes. fold g.H.Hasher.write (g.H.Hasher.write c.args.state.now (le_bytes 2 c.self.inside.sym.0)) writes) (kids_hash c.self.inside.kids.items))
