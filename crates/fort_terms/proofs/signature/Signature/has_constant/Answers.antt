use Rattle.std.proofs.Common.{◌≡◌, ℕ, nat_eq, rules, refl}
use Rattle.std.proofs.lemmas.Iterator.Consumers.{YieldsList-from_rest}
use Rattle.std.proofs.lemmas.Iterator.Search.{any_from_yields_List}
use Rattle.std.specs.List.{list_any}
use borrow.Author.Tests.{tests}
use Rattle.fort_terms.proofs.SignatureViewLaws.{HasConstant-decides}
use Rattle.fort_terms.proofs.signature.Signature.has_constant.Goals as goal

pub returns : goal.returns
returns c =
    let found : c.any.result ≡ list_any (λ (arity : ℕ). nat_eq arity 0) c.values.result =
    any_from_yields_List _ _ _ c.any.result c.any.ensures.ran (YieldsList-from_rest c.values.result refl) (λ x b q k. search (rules, tests)) in
    rw (← c.self.view_is, found, c.values.ensures.rest) (HasConstant-decides c.self.inside.symbols.entries)
