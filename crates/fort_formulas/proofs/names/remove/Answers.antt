use Rattle.std.proofs.Common.{rules, not, bytes_eq}
use Rattle.std.proofs.lemmas.Fn.{filter_same}
use Rattle.fort_formulas.proofs.names.remove.Goals as goal

pub returns : goal.returns
returns c = filter_same _ (λ y. not (bytes_eq y c.args.name.now)) _ (λ x b f k. search rules) _ _ c.retain.ensures.filtered
