use Rattle.std.proofs.Common.{◌∙◌}
use Rattle.fort_terms.proofs.SignatureViewLaws.{arity_of-values}
use Rattle.fort_terms.proofs.signature.Signature.arity.Goals as goal

pub returns : goal.returns
returns c = rw (← c.self.view_is) (arity_of-values c.self.inside.symbols.entries c.args.sym.0 ∙ c.index.ensures)
