use Rattle.std.proofs.Common.{sym, ◌∙◌}
use Rattle.fort_terms.proofs.SignatureViewLaws.{name_of-found, absent_from_none}
use Rattle.fort_terms.proofs.signature.Signature.find.Goals as goal

pub returns-in-Some-clause-found : goal.returns-in-Some-clause-found
returns-in-Some-clause-found c =
    rw (← c.self.view_is) (name_of-found c.args.name.now c.self.inside.symbols.entries c.in-Some.number (sym c.get_index_of.ensures.index ∙ c.in-Some.is))

pub returns-in-None-clause-none : goal.returns-in-None-clause-none
returns-in-None-clause-none c =
    rw (← c.self.view_is) (absent_from_none c.args.name.now c.self.inside.symbols.entries (sym c.get_index_of.ensures.index ∙ c.in-None.is))
