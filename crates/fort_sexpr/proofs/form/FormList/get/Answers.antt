use Rattle.std.proofs.Common.{◌≡◌, ◌∷◌, slice_get, ap, sym, ◌∙◌, arith}
use Rattle.fort_sexpr.proofs.FormLists.{first_dropped, rest_dropped, last_dropped}
use Rattle.fort_sexpr.proofs.form.FormList.get.Goals as goal

pub unreachable-requires-in_default-split_first : goal.unreachable-requires-in_default-split_first
unreachable-requires-in_default-split_first c =
    let form = c.loop.form.form in
    last_dropped c.args.self.now.forms c.loop.counter form (c.loop.invariant.0 ∙ ap (λ fs. form ∷ fs) c.in_default-split_first.ensures.none) (omega arith)

pub loop-preserved : goal.loop-preserved
loop-preserved c = (
  rest_dropped c.args.self.now.forms _ c.loop.counter c.loop.form.form c.loop.invariant.0 ∙ c.in-Some-split_first.ensures.some,
  c.in-Some-split_first.ensures.bytes.0 ∙ c.loop.invariant.2,
  c.in-Some-split_first.ensures.bytes.1 ∙ c.loop.invariant.2,
)

pub returns-clause-form : goal.returns-clause-form
returns-clause-form c =
    let last : c.loop.counter ≡ c.args.i = omega arith in
    ap (slice_get c.args.self.now.forms) (sym last)
    ∙ first_dropped c.args.self.now.forms _ c.loop.counter c.loop.form.form c.loop.invariant.0
