use Rattle.std.proofs.Common.{slice_get, ap, ◌∙◌, arith}
use Rattle.std.proofs.lemmas.Option.{MatchOption-at_none, MatchOption-at_some}
use Rattle.fort_sexpr.proofs.FormLists.{node_count-element}
use Rattle.fort_theory.specs.Trees.{Tree}
use Rattle.fort_grammar.specs.GroundForms.{IsGroundForm}
use Rattle.fort_ari.proofs.Grounds.{bare_symbol, bare_term, applied_symbol, argument_term, application_term, arguments_none, arguments_more, arguments_all}
use Rattle.fort_ari.proofs.Rests.{left_behind, left_at, left_next, left_end, one_fewer}
use Rattle.fort_ari.proofs.ground.+term_of.Goals as goal

pub kids-init : goal.kids-init
kids-init t c = (
  λ es is. left_behind _ c.args.form.now.form es c.in-Some.list.forms c.in-Some-split_first.rest.forms c.in-Some-split_first.head.form is
      c.in-Some.ensures.some c.in-Some-split_first.ensures.some (rw c.new-kids.ensures.items (arguments_none _ _ es)),
  c.in-Some-split_first.ensures.bytes.1 ∙ c.in-Some.ensures.bytes,
)

pub term_of-requires : goal.term_of-requires
term_of-requires t c =
    let forms = c.in-Some.list.forms in
    let left = c.kids.invariant.0 forms c.in-Some.ensures.some in
    let here = left_at _ forms c.kids.rest.forms left c.in-Some-split_first-2.argument.form _ c.in-Some-split_first-2.ensures.some in
    (omega (arith, c.decreases, node_count-element c.args.form.now.form c.in-Some-split_first-2.argument.form _ _ c.in-Some.ensures.some here), tt)

pub returns-in_default-clause-some : goal.returns-in_default-clause-some
returns-in_default-clause-some t c = rw c.new-kids.ensures.items (bare_term c.in-Some-symbol_of.ensures.some)

pub returns-in_default-symbol_of-clause-none : goal.returns-in_default-symbol_of-clause-none
returns-in_default-symbol_of-clause-none t c = λ u h.
    let s = bare_symbol c.in_default.ensures.none h in c.in_default-symbol_of.ensures.none s.0 s.1

pub returns-in_default-symbol_of-2-clause-none : goal.returns-in_default-symbol_of-2-clause-none
returns-in_default-symbol_of-2-clause-none t c = λ u h.
    let forms = c.in-Some.list.forms in
    let head = c.in-Some-split_first.head.form in
    let split = c.in-Some-split_first.ensures.some in
    let s = applied_symbol forms c.in-Some.ensures.some (ap (λ fs. slice_get fs 0) split) h in
    let count = c.len-2.ensures ∙ one_fewer forms c.in-Some-split_first.rest.forms head split in
    (rw (c.in-Some-split_first.ensures.bytes.0 ∙ c.in-Some.ensures.bytes, count) at c.in_default-symbol_of-2.ensures.none) s.0 s.1

pub returns-in_default-2-clause-none : goal.returns-in_default-2-clause-none
returns-in_default-2-clause-none t c = λ u h.
    let forms = c.in-Some.list.forms in
    let left = c.kids.invariant.0 forms c.in-Some.ensures.some in
    let argument = c.in-Some-split_first-2.argument in
    let here = left_at _ forms c.kids.rest.forms left argument.form _ c.in-Some-split_first-2.ensures.some in
    let k = argument_term forms left.place c.in-Some.ensures.some here left.holds.low h in
    let none : (v : Tree) → IsGroundForm c.args.form.now.bytes c.args.signature.now argument.form v → ⊥ =
    rw (c.in-Some-split_first-2.ensures.bytes.0 ∙ c.kids.invariant.1) at (MatchOption-at_none _ _ c.in_default-2.is c.in_ok-kid.ensures.none) in
    none k.0 k.1

pub kids-preserved : goal.kids-preserved
kids-preserved t c =
    let rest = c.kids.rest.forms in
    let argument = c.in-Some-split_first-2.argument.form in
    let next = c.in-Some-split_first-2.ensures.some in
    let same = c.in-Some-split_first-2.ensures.bytes.0 ∙ c.kids.invariant.1 in (
      λ es is. let left = c.kids.invariant.0 es is in
          left_next _ es rest left _ argument c.in-Some-split_first-2.behind.forms next
          (rw c.in_ok-push.ensures.items (arguments_more _ _ es left.place argument _ _ left.holds (left_at _ es rest left argument _ next)
          (rw same at (MatchOption-at_some _ _ _ c.in-Some-2.is c.in_ok-kid.ensures.some)))),
      c.in-Some-split_first-2.ensures.bytes.1 ∙ c.kids.invariant.1,
    )

pub returns-clause-some : goal.returns-clause-some
returns-clause-some t c =
    let forms = c.in-Some.list.forms in
    let split = c.in-Some-split_first.ensures.some in
    let left = c.kids.invariant.0 forms c.in-Some.ensures.some in
    let count = c.len-2.ensures ∙ one_fewer forms c.in-Some-split_first.rest.forms c.in-Some-split_first.head.form split in
    application_term _ _ _ c.in-Some.ensures.some (omega (arith, c.if-len-lt2.false, c.len.ensures)) (ap (λ fs. slice_get fs 0) split)
    (rw (c.in-Some-split_first.ensures.bytes.0 ∙ c.in-Some.ensures.bytes, count) at c.in-Some-symbol_of-2.ensures.some)
    (arguments_all _ _ _ left.place _ left.holds (left_end _ forms c.kids.rest.forms left c.in_default-split_first-2.ensures.none))
