use Rattle.std.proofs.Common.{◌≡◌, refl, arith, subst, sym}
use Rattle.std.proofs.lemmas.Iterator.{items_from_collect}
use Rattle.std.proofs.lemmas.Iterator.Adapters.{YieldsList-from_vec}
use Rattle.std.specs.Prelude.{IfOk}
use Rattle.std.specs.Vec.Iter.{into_iter_items}
use Rattle.fort.proofs.arguments.words_of.Goals as goal

pub returns-in-Ok-clause-all : goal.returns-in-Ok-clause-all
returns-in-Ok-clause-all c =
    subst (λ r. IfOk r (λ given. IfOk c.collect.result (λ all. all.items ≡ into_iter_items given))) (sym c.in-Ok.is)
    (items_from_collect c.collect.result c.collect.ensures.ran (YieldsList-from_vec (into_iter_items c.in-Ok.args) refl (omega (arith, c.in-Ok.args.rest.ok.0))))
