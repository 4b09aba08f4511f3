use Rattle.std.proofs.Common.{◌≡◌, ◌++◌, sym, ap, ◌∙◌}
use Rattle.std.proofs.lemmas.List.{map-id}
use Rattle.std.proofs.lemmas.Iterator.Adapters.{YieldsList-from_vec}
use Rattle.std.proofs.lemmas.Iterator.Consumers.{YieldsList-end}
use Rattle.fort_logic.specs.FreeNames.{once}
use Rattle.fort_logic.proofs.OnceNames.{once-append_once}
use Rattle.fort_formulas.proofs.names.push_all_new.Goals as goal

pub returns : goal.returns
returns c =
    λ xs ys is others.
    let whole = YieldsList-end (YieldsList-from_vec c.args.more.items (cc) (cc)) c.loop-name.yielded c.loop-name.name-iterator c.loop-name.yielded_by c.next.result c.next.new.self c.in-None.is c.next.ensures.steps in
    let all : c.loop-name.yielded ≡ c.args.more.items = sym (map-id c.loop-name.yielded) ∙ whole.0 in
    c.loop-name.invariant xs is ∙ (ap (λ zs. once (xs ++ zs)) (all ∙ others) ∙ once-append_once xs ys)
