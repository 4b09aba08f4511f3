use Rattle.std.proofs.Common.{◌≡◌, length, get_or, sym, ◌∙◌, arith, subst, ⊎_elim}
use Rattle.std.proofs.lemmas.Bool.{cases_lt}
use Rattle.fort_witness.specs.Choices.{lists_of, IsNodeOf}
use Rattle.fort_witness.proofs.ChoiceLaws.{new_found, none_found}
use Rattle.fort_witness.proofs.choices.has_new.Goals as goal

pub returns-then-is_some-clause-some : goal.returns-then-is_some-clause-some
returns-then-is_some-clause-some c = λ e qs h. new_found qs c.args.span.low c.args.span.end c.args.states.now c.loop-j.j c.first_from.result (omega (arith, c.loop-j-test.true)) (c.first_from.ensures (length (lists_of c.args.lists.now)) qs h) (sym c.is_some.ensures ∙ c.if-is_some.true)

pub loop-j-preserved : goal.loop-j-preserved
loop-j-preserved c = λ qs h i k l n. ⊎_elim
    (λ m. c.loop-j.invariant qs h i k m n)
    (λ m.
    let e : i ≡ c.loop-j.j = omega arith in
    none_found qs (get_or c.args.states.now c.loop-j.j 0) c.args.span.low c.args.span.end c.first_from.result (c.first_from.ensures (length (lists_of c.args.lists.now)) qs h) (sym c.is_some.ensures ∙ c.if-is_some.false) k (subst (λ x. IsNodeOf qs (get_or c.args.states.now x 0) c.args.span.low c.args.span.end k) e n))
    (cases_lt i c.loop-j.j)
