use Rattle.fort_cert_checker.proofs.past.Past.truth.Goals as goal

pub returns : goal.returns
returns c truth h = c.value_of.ensures truth h.only
